-- Bytes in memory that calls take from the front.
use Rattle.std.specs.Prelude.{ℕ, ◌<◌, List, length, drop, min}

-- the bytes that are left, and how many one call takes at most
pub record Left : Type 0 where
  pub bytes : List ℕ
  pub most : ℕ

-- how many bytes a call moves into a buffer with this room: as many as there are, as it may and as fit
abbrev pub moved_count : Left → ℕ → ℕ
moved_count left room = min (min (length left.bytes) left.most) room

-- what is left after that call
abbrev pub after_move : Left → ℕ → Left
after_move left room = record left { bytes = drop (moved_count left room) left.bytes }

-- a call moves at most this many bytes, and may move one
abbrev pub MovesSome : ℕ → Type 0
MovesSome most = 0 < most
