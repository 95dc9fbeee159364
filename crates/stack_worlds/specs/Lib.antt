pub mod Composed
pub mod Isolation
pub mod KeptStack
pub mod Numbers
pub mod PlainStack
pub mod StackCarried
pub mod WindowLines
