pub mod Dump
pub mod Endings
pub mod Lookup
pub mod Names
pub mod Numbers
pub mod Refusals
