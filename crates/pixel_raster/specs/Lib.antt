pub mod Bytes
pub mod Cuts
pub mod Marks
pub mod Raster
pub mod Shares
pub mod Strips
pub mod Surfaces
