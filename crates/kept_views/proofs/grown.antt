-- Laws of views that are added or removed.
pub mod Fresh
pub mod GraftedKept
pub mod Grown
pub mod Pruned
