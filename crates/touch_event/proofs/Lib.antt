mod Examples
mod NumberLaws
pub mod PointerSetLaws
