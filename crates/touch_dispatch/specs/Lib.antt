pub mod Dispatch
pub mod Once
pub mod gesture
pub mod handling
pub mod reaching
