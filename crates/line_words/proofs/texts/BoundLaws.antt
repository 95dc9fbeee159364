-- Numbers within their bounds.
use Rattle.std.proofs.Common.{ℤ, pos, negsuc, ◌≤ℤ◌, w32, w64, FitsSigned, to_z, of_z, arith}
use Rattle.std.proofs.lemmas.Int.{ints, to_z-of_z}
use Rattle.line_words.specs.words.Numbers.{IsWithin}

-- a number within bounds of 32 bits is the same one in 32 bits
pub kept_within : (low high n : ℤ) → FitsSigned w64 low → FitsSigned w64 high → negsuc 2147483646 ≤ℤ low → high ≤ℤ pos 2147483647
    → IsWithin (to_z w64 (of_z w64 low)) (to_z w64 (of_z w64 high)) n → IsWithin low high (to_z w32 (of_z w32 n))
kept_within low high n fits_low fits_high least most within =
    let same : IsWithin low high n = simp to_z-of_z at within in
    let small : FitsSigned w32 n = omega (arith, ints, same) in
    simp to_z-of_z same
