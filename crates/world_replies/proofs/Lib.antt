mod HexLaws
pub mod PixelLaws
mod ResponseLaws
mod WalkLaws
