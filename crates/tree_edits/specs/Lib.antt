pub mod Applied
pub mod Asking
pub mod Editing
pub mod Hiding
pub mod Keeping
pub mod Scene
