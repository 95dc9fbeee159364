-- Laws of the children of a relative layout.
pub mod AnchorKeys
pub mod Edged
pub mod SettledLaws
pub mod SiblingTurns
