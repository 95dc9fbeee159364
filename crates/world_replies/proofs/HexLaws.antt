-- Bytes in hexadecimal digits, one after the other.
use Rattle.std.proofs.Common.{◌≡◌, ℕ, ◌/◌, ◌%◌, List, [], ◌∷◌, slice_index, refl, ap}
use Rattle.hex.specs.Hex.{encode_lower, encode_with, lower_digits}
use Rattle.text_lines.specs.Joined.{texts_of}

-- the two digits of a byte
abbrev pub byte_text : ℕ → List ℕ
byte_text byte = encode_lower (byte ∷ [])

pub bytes_joined : (bytes : List ℕ) → texts_of byte_text bytes ≡ encode_lower bytes
unfolding texts_of encode_with
bytes_joined [] = refl
bytes_joined (byte ∷ bytes) = ap (λ (rest : List ℕ). slice_index lower_digits (byte / 16) ∷ (slice_index lower_digits (byte % 16) ∷ rest)) (bytes_joined bytes)
