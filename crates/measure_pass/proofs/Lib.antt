pub mod Counts
mod Examples
pub mod Shares
pub mod held
pub mod relatives
pub mod rules
pub mod walks
