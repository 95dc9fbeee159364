pub mod lines
pub mod readings
pub mod spelled
mod written
