-- Laws of what contracts see of a tree.
pub mod ChangeLaws
pub mod GeometryLaws
pub mod KeptLaws
pub mod LayoutLaws
pub mod OffsetLaws
pub mod SameLaws
pub mod ViewsLaws
