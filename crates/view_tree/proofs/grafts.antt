-- Laws of saplings that are added to a tree. No other crate uses them.
pub mod CheckedSprouts
pub mod EntryLaws
pub mod GainLaws
pub mod Grafts
pub mod GrownGroups
pub mod OnlyGrafted
pub mod Paths
pub mod Refusing
pub mod Saplings
pub mod Sown
pub mod SownSprouts
pub mod SproutGroups
