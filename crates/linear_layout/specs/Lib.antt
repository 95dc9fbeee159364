pub mod Cursor
pub mod Line
pub mod LinearPlan
pub mod Passes
pub mod Shares
