pub mod ClassNames
pub mod Elements
pub mod Inflating
pub mod Answers
