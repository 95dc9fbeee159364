mod BlackLaws
pub mod CutLaws
mod Examples
mod MarkLaws
mod MixLaws
pub mod PictureLaws
mod PieceLaws
mod RowLaws
mod RunLaws
mod SeenLaws
pub mod StripLaws
pub mod TestLaws
mod WritingLaws
