-- Laws of offsets that are brought into their ranges.
pub mod Ranging
pub mod Unranged
