pub mod Bounds
pub mod Deliveries
pub mod Replies
pub mod Responses
