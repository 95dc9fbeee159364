-- Laws of words and of the bytes in them.
pub mod AfterLaws
pub mod BarLaws
pub mod BothLaws
pub mod BoundLaws
pub mod EscapeLaws
pub mod FileNameLaws
pub mod LengthLaws
pub mod NumberLaws
pub mod OffsetLaws
pub mod OkLaws
pub mod PlainLaws
pub mod TextLaws
pub mod WordLaws
