pub mod FramePlan
pub mod Room
