-- Laws of what lines cost, and of what is counted for it.
pub mod CostLaws
pub mod SumLaws
pub mod TallyLaws
pub mod WorkLaws
