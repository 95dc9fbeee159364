pub mod LinedLaws
pub mod LeavingLaws
mod PassLaws
pub mod PlacingLaws
pub mod PlanLaws
pub mod ShareLaws
pub mod SizedLaws
