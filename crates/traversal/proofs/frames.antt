-- Laws of whole frames: how one ends, and what its passes count.
pub mod ChangeLaws
pub mod CountLaws
pub mod CountedLaws
pub mod Examples
pub mod FrameLaws
pub mod GrownKeys
pub mod RestLaws
pub mod StillKeys
