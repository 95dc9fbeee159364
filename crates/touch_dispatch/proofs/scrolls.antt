-- Laws of views that scroll, and of their offsets.
pub mod FitLaws
pub mod RangeLaws
pub mod ScrollLaws
pub mod ScrollSteps
pub mod WideLaws
