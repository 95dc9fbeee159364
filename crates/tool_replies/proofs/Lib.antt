pub mod DumpLaws
pub mod EndingLaws
mod LookupLaws
pub mod NameLaws
mod RefusalExamples
