-- A sum that is cut at 64 bits resolves to the same size.
use Rattle.std.proofs.Common.{◌≡◌, ℤ, w32, w64, FitsSigned, arith}
use Rattle.std.specs.Int.{int_max, saturate_signed}
use Rattle.std.proofs.lemmas.Int.{ints}
use Rattle.geom_core.specs.Spec.{resolve_of}
use Rattle.geom_core.specs.declared.measuring.Mode.{Mode}
use Rattle.geom_core.specs.declared.measuring.Mode.TheVariants.{Unspecified, Exactly, AtMost}

pub resolve_saturated : (mode : Mode) (least want size : ℤ) → FitsSigned w32 least → FitsSigned w32 size
    → resolve_of (int_max least (saturate_signed w64 want)) (record { mode = mode; size = size }) ≡ resolve_of (int_max least want) (record { mode = mode; size = size })
unfolding resolve_of
resolve_saturated Unspecified least want size small fits = grind (arith, ints)
resolve_saturated Exactly least want size small fits = grind (arith, ints)
resolve_saturated AtMost least want size small fits = grind (arith, ints)
