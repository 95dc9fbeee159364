-- What frames lay out, measure and paint, and what lines leave of that.
pub mod Asked
pub mod Counting
pub mod Resting
pub mod Seen
pub mod Watched
pub mod Works
