pub mod KeptPanes
pub mod Numbers
pub mod PlainPanes
pub mod StackLines
