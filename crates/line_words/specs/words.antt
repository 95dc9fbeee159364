-- The words of a line, and what one word may say.
pub mod Colors
pub mod Dimensions
pub mod Escapes
pub mod FileNames
pub mod Gravities
pub mod Names
pub mod Numbers
pub mod Weights
pub mod Words
