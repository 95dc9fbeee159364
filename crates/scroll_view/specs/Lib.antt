pub mod ScrollPlan
