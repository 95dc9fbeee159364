pub mod spelled
pub mod texts
pub mod written
