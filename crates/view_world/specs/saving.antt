-- States that are saved and restored.
pub mod Offsets
pub mod Stated
