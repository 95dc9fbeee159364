mod EntryLaws
mod Examples
mod MapLaws
