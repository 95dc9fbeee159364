-- Laws of walks over the children of a view, each of which is measured in its turn.
pub mod AtPlace
pub mod LeftPhase
pub mod MeasureKid
pub mod Places
pub mod PlanPhases
pub mod PlanTurns
pub mod PlanWalk
pub mod Turns
pub mod Walk
pub mod Whole
