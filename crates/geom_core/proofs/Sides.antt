-- The result of a measuring rule is a side of a size.
use Rattle.std.proofs.Common.{ℤ, arith}
use Rattle.std.proofs.lemmas.Int.{ints}
use Rattle.geom_core.specs.Limits.{IsSide, clamp_size}
use Rattle.geom_core.specs.Spec.{resolve_by, default_by, resolve_of, default_size_of}
use Rattle.geom_core.specs.declared.measuring.Spec.{Spec}

pub clamp_size-is_side : (x : ℤ) → IsSide (clamp_size x)
clamp_size-is_side x = record { low = grind (arith, ints); high = grind (arith, ints) }

pub resolve_of-is_side : (want : ℤ) (spec : Spec) → IsSide (resolve_of want spec)
unfolding resolve_of
resolve_of-is_side want spec = clamp_size-is_side (resolve_by spec.mode want spec.size)

pub default_size_of-is_side : (want : ℤ) (spec : Spec) → IsSide (default_size_of want spec)
unfolding default_size_of
default_size_of-is_side want spec = clamp_size-is_side (default_by spec.mode want spec.size)
