-- What the calls of a tree make of it.
pub mod Attached
pub mod Bed
pub mod Detached
pub mod Directions
pub mod Grafted
pub mod Grafting
pub mod Groups
pub mod Hidden
pub mod Preorder
pub mod Requests
pub mod Sorted
pub mod Sowing
pub mod Staying
