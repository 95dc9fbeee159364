pub mod KeptFrames
pub mod edits
pub mod grown
pub mod laid
