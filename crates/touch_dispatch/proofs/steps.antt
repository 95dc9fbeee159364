-- Laws of the steps of an event through the tree.
pub mod GrowLaws
pub mod GroupEvents
pub mod KeepLaws
pub mod PartLaws
pub mod ReachSteps
pub mod RootLaws
pub mod SceneLaws
pub mod StayLaws
pub mod TargetLaws
pub mod TryLaws
pub mod TryWalk
