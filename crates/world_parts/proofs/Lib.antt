pub mod edits
pub mod touches
pub mod trees
