-- What contracts see of a screen, and what it keeps.
pub mod Changed
pub mod KeyedScreen
pub mod Numbering
pub mod Sound
