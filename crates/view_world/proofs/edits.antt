-- Laws of lines that change the tree: of files, names, texts and hooks, and of views that are added or go away.
pub mod ArmedLaws
pub mod FileLaws
pub mod GraftingLaws
pub mod GrowingLaws
pub mod GrownShown
pub mod HookLaws
pub mod InflatingLaws
pub mod LeaveLaws
pub mod LeaveSound
pub mod NamedLaws
pub mod PlainLaws
