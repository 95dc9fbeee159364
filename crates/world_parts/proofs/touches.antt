-- Laws of pointers, and of gestures.
pub mod CancelLaws
pub mod CaughtLaws
pub mod ClimbLaws
pub mod CutCaught
pub mod GrownCaught
pub mod PointerLaws
pub mod PointerSetLaws
pub mod SceneLaws
