pub mod Frames
pub mod Meeting
