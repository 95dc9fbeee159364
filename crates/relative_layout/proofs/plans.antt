-- Laws of a plan and of the anchors of its children.
pub mod AnchorLaws
pub mod CourseLaws
pub mod PlanLaws
