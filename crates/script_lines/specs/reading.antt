-- The grammar of lines.
pub mod Actions
pub mod Changes
pub mod Commands
pub mod Gathered
pub mod Hooks
pub mod Pixels
pub mod Resources
pub mod Rules
pub mod States
pub mod Touches
pub mod Verbs
