-- Laws of tests, and of places between two others.
use Rattle.std.proofs.Common.{◌≡◌, ℕ, ◌<◌, ◌≤◌, Bool, true, false, if◌then◌else◌, refl, sym, arith}
use Rattle.std.specs.Prelude.{◌⊎◌}
use Rattle.std.proofs.lemmas.Bool.Decides.{nat_tests}
use Rattle.pixel_raster.specs.Cuts.{is_between}

pub chosen : {A : Type 0} (test : Bool) (p q r : A) → (test ≡ true → r ≡ p) → (test ≡ false → r ≡ q) → r ≡ (if test then p else q)
chosen true p q r f g = f refl
chosen false p q r f g = g refl

pub same_test : (s t : Bool) → (s ≡ true → t ≡ true) → (t ≡ true → s ≡ true) → s ≡ t
same_test true t f g = sym (f refl)
same_test false true f g = g refl
same_test false false f g = refl

pub between_from : (low high place : ℕ) → is_between low high place ≡ true → (low ≤ place) × (place < high)
between_from low high place is = (grind (arith, nat_tests), grind (arith, nat_tests))

pub between_to : (low high place : ℕ) → low ≤ place → place < high → is_between low high place ≡ true
between_to low high place from before = grind (arith, nat_tests)

pub beside : (low high place : ℕ) → is_between low high place ≡ false → (place < low) ⊎ (high ≤ place)
beside low high place is = grind (arith, nat_tests)
