-- The words from which commands are read.
pub mod ReadActions
pub mod ReadLines
pub mod WrittenActs
pub mod WrittenCommands
pub mod WrittenHooks
pub mod WrittenTables
