pub mod Drawing
pub mod Load
pub mod Made
