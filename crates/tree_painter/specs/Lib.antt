pub mod Areas
pub mod Inks
pub mod Painted
