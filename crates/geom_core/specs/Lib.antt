pub mod Color
pub mod Limits
pub mod Numbers
pub mod Rects
pub mod Spec
