pub mod Answers
pub mod Numbers
pub mod Restored
pub mod Restoring
pub mod Saving
pub mod State
