-- Laws of views that are laid out, one by one and a whole tree.
pub mod BackWalk
pub mod FitLaws
pub mod GrownLaid
pub mod LaidAt
pub mod LaidStages
pub mod LaidWalk
pub mod LaidWhole
pub mod LastAsked
pub mod NarrowSides
pub mod PartLaws
pub mod ShapeLaws
