-- Laws of edits, and of the requests that go with them.
pub mod AroundEdits
pub mod AskedViews
pub mod Dragged
pub mod EditParts
pub mod Edits
pub mod Emptied
pub mod InPass
pub mod Lines
pub mod Paths
pub mod PressedKept
pub mod Quiet
pub mod QuietEdits
pub mod Replaced
pub mod Requested
