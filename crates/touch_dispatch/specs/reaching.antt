-- The way of an event through the tree, and where its pointers are on it.
pub mod Delivery
pub mod Points
pub mod TreeEvents
