-- Laws of views that are laid out.
pub mod Brought
pub mod LaidCalm
pub mod LaidFrames
pub mod LaidRows
pub mod PlacedKids
pub mod SameCourse
