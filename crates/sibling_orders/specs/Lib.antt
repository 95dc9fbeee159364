pub mod Cycles
pub mod Highest
pub mod Indexes
pub mod Latest
pub mod Ordering
pub mod Staying
