-- Laws of what measuring keeps of views, and of what it leaves as it was.
pub mod Calm
pub mod Frames
pub mod Grows
pub mod Own
pub mod Parts
pub mod Resized
pub mod Rests
