-- Laws of what lines give, and of views that are added or go away.
pub mod EscapeLaws
pub mod ForgettingLaws
pub mod FreshLaws
pub mod GraftedLaws
pub mod OpeningLaws
pub mod RemovalLaws
pub mod ResolvedLaws
pub mod SeedOffsets
