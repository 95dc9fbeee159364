pub mod Kept
pub mod Laying
pub mod Passes
pub mod Pressing
