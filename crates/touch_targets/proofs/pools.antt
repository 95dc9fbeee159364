-- Laws of what a pool of nodes represents.
pub mod CaughtLaws
pub mod Membership
pub mod NewNodes
pub mod Opening
pub mod Putting
pub mod Removing
pub mod SeatLaws
pub mod SeatOrder
