-- Laws of hooks: which one fires, what its edits leave, and what is reported to them.
pub mod EditLaws
pub mod FiringLaws
pub mod PassEdits
pub mod QuietHooks
pub mod ReportLaws
pub mod ReportedLaws
pub mod Unedited
