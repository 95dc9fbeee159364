-- What other crates use is `pub`.
pub mod CycleLists
pub mod HighestLaws
pub mod IndexLaws
pub mod LatestLaws
mod GroupLaws
