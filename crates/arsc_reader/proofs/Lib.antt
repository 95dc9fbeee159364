mod Loop
mod Latest
mod Followed
mod NumberLaws
mod Examples
