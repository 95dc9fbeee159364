-- Laws of how a run ends.
pub mod EndLaws
pub mod StatusLaws
pub mod ToolLaws
