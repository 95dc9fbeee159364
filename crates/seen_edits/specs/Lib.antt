pub mod Differing
pub mod Scrolled
pub mod Shown
