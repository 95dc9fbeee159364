pub mod ChangeLaws
mod ClimbLaws
mod OriginLaws
pub mod MeetingLaws
pub mod PartLaws
pub mod PlacedLaws
pub mod SeeingLaws
pub mod SeenLaws
pub mod SightLaws
pub mod VisibleLaws
