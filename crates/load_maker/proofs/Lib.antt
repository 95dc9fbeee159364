mod LengthLaws
mod MakerLaws
