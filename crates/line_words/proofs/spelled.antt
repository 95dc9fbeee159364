-- What words say, read from their texts.
pub mod SpelledColors
pub mod SpelledDimensions
pub mod SpelledGravities
pub mod SpelledNames
pub mod SpelledNumbers
pub mod SpelledWeights
pub mod SpelledWords
