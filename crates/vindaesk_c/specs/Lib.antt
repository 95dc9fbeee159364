pub mod Answer
pub mod FilesNow
pub mod Lookups
pub mod Owned
pub mod Packed
pub mod Page
pub mod Questions
pub mod Sessions
