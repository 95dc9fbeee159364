pub mod Codes
pub mod Faults
pub mod Rows
pub mod Views
pub mod node
pub mod table
pub mod tree
