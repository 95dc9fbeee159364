-- How a relative layout measures and places its children.
pub mod RelativePlan
