pub mod Focus
pub mod Sights
