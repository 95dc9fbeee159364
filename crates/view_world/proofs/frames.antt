-- Laws of what frames lay out, measure and paint, and of what lines leave of that.
pub mod AskedLaws
pub mod EditRest
pub mod FrameLaws
pub mod RestLaws
pub mod SeenLaws
pub mod ShiftLaws
pub mod WorkExamples
pub mod WorthLaws
