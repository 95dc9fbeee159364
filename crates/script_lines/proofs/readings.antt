-- Laws of lines that are read, and worked lines.
pub mod ActionLaws
pub mod ChangeExamples
pub mod CommandExamples
pub mod CommandLaws
pub mod HookExamples
pub mod HookLaws
pub mod NumberLaws
pub mod PartLaws
pub mod ReadLaws
pub mod ResourceExamples
pub mod StateExamples
pub mod StateLaws
pub mod TextLengthLaws
pub mod TouchExamples
pub mod VerbLaws
