-- Laws of the rules by which classes measure their children.
pub mod AlikeLaws
pub mod FrameLaws
pub mod Lawful
pub mod Laws
pub mod LeafLaws
pub mod LinearLaws
