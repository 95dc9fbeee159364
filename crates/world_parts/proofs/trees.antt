-- Laws of plain trees: of numbers, parts, ancestors and directions.
pub mod AncestorLaws
pub mod DirectedLaws
pub mod PartCounts
pub mod PartLaws
pub mod ShapeLaws
