-- Lengths and modes as they are kept.
use Rattle.std.proofs.Common.{◌≡◌, ◌∙◌, ◌+◌, ◌*◌, ◌/◌, ◌%◌, ℕ, ℤ, List, ap, refl, SFits, of_z, to_z, w32}
use Rattle.std.proofs.lemmas.Int.{to_z-of_z}
use Rattle.std.proofs.Math.Facts.{Fits-of_z}
use Rattle.std.proofs.lemmas.Nat.{from_le_bytes-to_le_bytes_4}
use Rattle.std.specs.Int.{cast_signed, to_le_bytes}
use Rattle.geom_core.specs.declared.measuring.Mode.{Mode}
use Rattle.geom_core.specs.declared.measuring.Mode.TheVariants.{Unspecified, Exactly, AtMost}
use Rattle.measure_cache.specs.Kept.{length_of, mode_number, numbered_mode}

-- a length that was put into bytes is read from them again
pub length_of-bytes : (size : ℤ) (bytes : List ℕ) → SFits w32 size → bytes ≡ to_le_bytes w32 (of_z w32 (to_z w32 (of_z w32 size))) → length_of bytes ≡ size
length_of-bytes size bytes fits kept =
    ap length_of (kept ∙ ap (λ z. to_le_bytes w32 (of_z w32 z)) (to_z-of_z w32 size fits))
    ∙ ap (cast_signed w32) (from_le_bytes-to_le_bytes_4 (of_z w32 size) (Fits-of_z fits).fits)
    ∙ to_z-of_z w32 size fits

-- and both modes from their one number
pub across_kept : (across down : Mode) → numbered_mode ((mode_number across + 4 * mode_number down) % 4) ≡ across
across_kept Unspecified Unspecified = refl
across_kept Unspecified Exactly = refl
across_kept Unspecified AtMost = refl
across_kept Exactly Unspecified = refl
across_kept Exactly Exactly = refl
across_kept Exactly AtMost = refl
across_kept AtMost Unspecified = refl
across_kept AtMost Exactly = refl
across_kept AtMost AtMost = refl

pub down_kept : (across down : Mode) → numbered_mode ((mode_number across + 4 * mode_number down) / 4) ≡ down
down_kept Unspecified Unspecified = refl
down_kept Unspecified Exactly = refl
down_kept Unspecified AtMost = refl
down_kept Exactly Unspecified = refl
down_kept Exactly Exactly = refl
down_kept Exactly AtMost = refl
down_kept AtMost Unspecified = refl
down_kept AtMost Exactly = refl
down_kept AtMost AtMost = refl
