-- What is kept of a gesture between its events.
pub mod Gestures
pub mod Kept
