-- Laws of saved states, and of the offsets that they have.
pub mod CommandLaws
pub mod OffsetLaws
pub mod RestoredAsked
pub mod StateLaws
