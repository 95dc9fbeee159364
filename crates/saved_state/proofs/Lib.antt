mod EntryLaws
mod Examples
mod FoundLaws
pub mod NoEntryLaws
mod NumberLaws
mod OffsetLaws
pub mod RestoredLaws
mod ReadingLaws
mod RestoringLaws
pub mod RestatedLaws
pub mod RestatedParts
mod SavingLaws
mod StateLaws
mod TextLaws
