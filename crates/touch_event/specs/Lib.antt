pub mod Events
pub mod Numbers
pub mod PointerSets
pub mod Splitting
pub mod Touches
