-- Mixing of channels without a division by 255.
use Rattle.std.specs.Prelude.{ℕ, ◌+◌, ◌-◌, ◌*◌, ◌/◌}

-- 255 times a channel of a colour with this alpha over the same channel of another one, and 128 more
abbrev pub share_of : ℕ → ℕ → ℕ → ℕ
share_of alpha over under = over * alpha + under * (255 - alpha) + 128

-- the nearest number to a 255th part of what is 128 less
abbrev pub part_of : ℕ → ℕ
part_of share = (share + share / 256) / 256
