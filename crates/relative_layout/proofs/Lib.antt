pub mod orders
pub mod plans
