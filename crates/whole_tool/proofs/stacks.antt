-- Laws of stacks of windows.
pub mod StackPageLaws
pub mod WatchedLaws
