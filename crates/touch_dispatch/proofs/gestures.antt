-- Laws of a gesture: its targets, the open views and the pointers.
pub mod CaughtLaws
pub mod DistinctLaws
pub mod IdLaws
pub mod ParentLaws
pub mod PlaceLaws
pub mod RoomLaws
