-- 32-bit numbers in 64-bit sums.
use Rattle.std.proofs.Common.{◌≡◌, refl, arith}
use Rattle.std.proofs.lemmas.Int.{ints, to_z-of_z}
use lib.IntN.{ℤ, ◌+ℤ◌, ◌-ℤ◌}
use Rattle.touch_dispatch.specs.reaching.Points.{is_between}
use mir.Syntax.{w32, w64}
use mir.Val.{SFits, of_z, to_z}

pub wide : (z r : ℤ) → SFits w32 z → r ≡ to_z w32 (of_z w32 z) → to_z w64 (of_z w64 r) ≡ z
wide z r fits e = grind (arith, ints, to_z-of_z)

pub minus : (a b x y : ℤ) → SFits w32 a → SFits w32 b → x ≡ a → y ≡ b → to_z w64 (of_z w64 (x -ℤ y)) ≡ a -ℤ b
minus a b x y fa fb ea eb = grind (arith, ints, to_z-of_z)

pub plus : (a b x y : ℤ) → SFits w32 a → SFits w32 b → x ≡ a → y ≡ b → to_z w64 (of_z w64 (x +ℤ y)) ≡ a +ℤ b
plus a b x y fa fb ea eb = grind (arith, ints, to_z-of_z)

pub minus_plus : (a b d x y : ℤ) → SFits w32 a → SFits w32 b → SFits w32 d → x ≡ a -ℤ b → y ≡ d → to_z w64 (of_z w64 (x +ℤ y)) ≡ a -ℤ b +ℤ d
minus_plus a b d x y fa fb fd ea eb = grind (arith, ints, to_z-of_z)

pub minus_plus-fits : (a b d x y : ℤ) → SFits w32 a → SFits w32 b → SFits w32 d → x ≡ a -ℤ b → y ≡ d → SFits w64 (x +ℤ y)
minus_plus-fits a b d x y fa fb fd ea eb = grind (arith, ints)

pub between_is : (a b d x y z : ℤ) → a ≡ x → b ≡ y → d ≡ z → is_between a b d ≡ is_between x y z
between_is a b d x y z e1 e2 e3 = rw (e1, e2, e3) refl
