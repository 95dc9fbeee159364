-- The words from which what they say is read.
pub mod ReadGravities
pub mod ReadWords
pub mod WrittenBounds
pub mod WrittenDimensions
pub mod WrittenGravities
pub mod WrittenWeights
pub mod WrittenWords
