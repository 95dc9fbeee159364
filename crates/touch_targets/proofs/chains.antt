-- Laws of the chains in which nodes hold the targets of groups.
pub mod Chains
pub mod Dropping
pub mod Linking
pub mod Pointing
pub mod Reading
pub mod Unlinking
pub mod Walks
