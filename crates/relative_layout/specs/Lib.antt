pub mod ordering
pub mod plan
