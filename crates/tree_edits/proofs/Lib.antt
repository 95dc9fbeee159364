mod ActLaws
mod ConsistentLaws
mod CycleLaws
mod EditLaws
mod Examples
pub mod FactLaws
pub mod KeepLaws
mod ParentLaws
pub mod RequestLaws
mod SceneLaws
pub mod SpreadLaws
mod TurnLaws
pub mod UnaskedLaws
