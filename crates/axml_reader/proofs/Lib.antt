mod NumberLaws
pub mod Answers
pub mod Loop
pub mod Attrs
pub mod AlikeLaws
pub mod Strings
pub mod BracketLaws
pub mod FieldLaws
pub mod NodeLaws
pub mod PartLaws
pub mod RunLaws
pub mod DocumentLaws
pub mod SoundLaws
pub mod Examples
