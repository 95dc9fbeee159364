-- What commands do to the plain world, and what contracts see of a world.
pub mod AfterLine
pub mod Carried
pub mod KeyedWorld
pub mod Marked
pub mod Marks
pub mod Step
