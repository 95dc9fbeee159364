mod Examples
mod NamedLaws
mod NumberLaws
mod TableLaws
mod TakingLaws
