-- The orders in which a relative layout measures its children, and what they are made from.
pub mod Components
pub mod Naming
pub mod Points
pub mod Sorting
pub mod Topological
