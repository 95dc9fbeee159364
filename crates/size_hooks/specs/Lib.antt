pub mod Entries
pub mod Hook
pub mod Hooks
