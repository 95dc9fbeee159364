-- What other crates use is `pub`.
pub mod forest
pub mod values
mod calls
mod grafts
mod nodes
mod orders
