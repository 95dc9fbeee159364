-- Laws of whole worlds, and of the marks beside them.
pub mod AfterLineLaws
pub mod Examples
pub mod FitLaws
pub mod MarkExamples
pub mod MarkLaws
pub mod SoundLaws
pub mod WorldLaws
