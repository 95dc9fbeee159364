-- Laws of orders: of names and points, of the search for cycles, and of children that are taken one after the other.
pub mod Counting
pub mod NamingLaws
pub mod OrderLaws
pub mod PartLaws
pub mod PointLaws
pub mod SearchLaws
pub mod SettleLaws
pub mod TakingLaws
pub mod TurnLaws
