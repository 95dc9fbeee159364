pub mod Numbers
pub mod Spelled
pub mod Written
pub mod words
