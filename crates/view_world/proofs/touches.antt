-- Laws of pointers, of events and of gestures.
pub mod EditedCaught
pub mod EventLaws
pub mod GestureAfterReports
pub mod TouchExamples
pub mod TouchLaws
