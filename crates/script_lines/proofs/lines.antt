-- Laws of bytes that are cut into lines.
pub mod FeedLaws
pub mod LineExamples
pub mod LineLaws
pub mod PassedLaws
pub mod PieceLaws
