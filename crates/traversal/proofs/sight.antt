-- Laws of what is seen of views while they are laid out.
pub mod CoverLaws
pub mod FollowedViews
pub mod SightLaws
