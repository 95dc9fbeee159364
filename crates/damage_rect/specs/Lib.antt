pub mod Areas
pub mod Damages
pub mod Within
