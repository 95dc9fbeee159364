mod AroundLaws
mod BesideLaws
mod DifferingLaws
mod GivenLaws
pub mod StillLaws
pub mod ScrolledLaws
pub mod ShownLaws
mod ReportedStates
mod UnseenLaws
