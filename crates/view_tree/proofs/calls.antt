-- Laws for single calls. No other crate uses them.
pub mod ClimbLaws
pub mod DetachedOrders
pub mod EmptyingLaws
pub mod GrowthTests
pub mod LeafOrders
pub mod PlantedTrees
