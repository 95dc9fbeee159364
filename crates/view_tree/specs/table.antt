-- The tables of numbers and of ids.
pub mod Holders
