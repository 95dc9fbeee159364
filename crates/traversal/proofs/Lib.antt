pub mod SharesLaid
pub mod frames
pub mod hooks
pub mod laid
mod offsets
mod sight
