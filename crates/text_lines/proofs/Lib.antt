pub mod Prefixes
pub mod Sending
pub mod Items
