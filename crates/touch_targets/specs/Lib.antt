pub mod Captures
pub mod Nodes
pub mod Pool
pub mod Seats
