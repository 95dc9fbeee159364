mod AreaLaws
mod ColumnLaws
pub mod CoveredAreas
mod InkLaws
mod OwnLaws
mod PainterLaws
mod TreeLaws
mod UnderWay
