-- Commands as contracts see them, their texts, and the lines that give them.
pub mod PlainCommands
pub mod Spelled
pub mod Written
