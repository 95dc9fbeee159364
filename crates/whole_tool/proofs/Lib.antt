mod FocusLaws
mod LoadLaws
pub mod costs
pub mod endings
pub mod lines
mod promises
pub mod stacks
