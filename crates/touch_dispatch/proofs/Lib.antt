mod Examples
mod counts
mod gestures
pub mod scrolls
pub mod steps
