-- The nodes of a tree.
pub mod Linked
pub mod Nodes
pub mod Turning
