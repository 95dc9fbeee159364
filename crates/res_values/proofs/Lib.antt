mod EntryLaws
