-- Laws of the kept orders of relative layouts. No other crate uses them.
pub mod BackSearch
pub mod CycleLaws
pub mod FirstCycles
pub mod GroupReads
pub mod IdPlaces
pub mod LastLaws
pub mod ListLaws
pub mod NamedLaws
pub mod OnlyLayouts
pub mod RowLaws
pub mod StayLaws
pub mod ReportedParents
pub mod TreeLaws
