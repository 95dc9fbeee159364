pub mod Numbers
pub mod commands
pub mod cutting
pub mod reading
