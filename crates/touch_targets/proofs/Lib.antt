mod Examples
mod MaskLaws
mod chains
pub mod entries
pub mod pools
