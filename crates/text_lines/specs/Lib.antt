pub mod Prefix
pub mod Hex
pub mod Joined
pub mod BufferedText
pub mod Delivered
