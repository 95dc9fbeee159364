pub mod AreaLaws
pub mod RectLaws
