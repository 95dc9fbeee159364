-- What a view does with an event itself, and how a scroll view follows a pointer.
pub mod Drags
pub mod Handling
pub mod Scrolled
