mod Examples
mod LeastLaws
mod PlainLaws
mod SightLaws
