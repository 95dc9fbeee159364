mod ChangeLaws
mod ComposedLaws
mod CountLaws
mod GivenLaws
pub mod IsolationLaws
mod OpenLaws
mod PlaceLaws
mod SizeLaws
pub mod StackLaws
