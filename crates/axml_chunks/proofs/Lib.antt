mod LimitLaws
pub mod Texts
pub mod Runs
pub mod Readings
pub mod Chunks
pub mod SpelledLaws
pub mod Pools
