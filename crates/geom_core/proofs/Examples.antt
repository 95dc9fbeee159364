-- The table of specs, and what views take, by computation.
use Rattle.std.specs.Prelude.{◌≡◌, ℤ, pos, negsuc, refl}
use Rattle.geom_core.specs.declared.measuring.Mode.{Mode}
use Rattle.geom_core.specs.declared.measuring.Mode.TheVariants.{Unspecified, Exactly, AtMost}
use Rattle.geom_core.specs.declared.measuring.Spec.{Spec}
use Rattle.geom_core.specs.Limits.{clamp_coordinate}
use Rattle.geom_core.specs.Spec.{child_spec_of, remaining_of, resolve_of, default_size_of}

spec : Mode → ℤ → Spec
spec mode size = record { mode = mode; size = size }

-- a parent of 100 pixels, of which 30 are taken: a number, `match` and `wrap` in each mode
number_in_exactly : child_spec_of (spec Exactly (pos 100)) (pos 30) (pos 20) ≡ spec Exactly (pos 20)
unfolding child_spec_of spec
number_in_exactly = refl

number_in_at_most : child_spec_of (spec AtMost (pos 100)) (pos 30) (pos 20) ≡ spec Exactly (pos 20)
unfolding child_spec_of spec
number_in_at_most = refl

number_in_unspecified : child_spec_of (spec Unspecified (pos 100)) (pos 30) (pos 20) ≡ spec Exactly (pos 20)
unfolding child_spec_of spec
number_in_unspecified = refl

match_in_exactly : child_spec_of (spec Exactly (pos 100)) (pos 30) (negsuc 0) ≡ spec Exactly (pos 70)
unfolding child_spec_of remaining_of spec
match_in_exactly = refl

match_in_at_most : child_spec_of (spec AtMost (pos 100)) (pos 30) (negsuc 0) ≡ spec AtMost (pos 70)
unfolding child_spec_of remaining_of spec
match_in_at_most = refl

match_in_unspecified : child_spec_of (spec Unspecified (pos 100)) (pos 30) (negsuc 0) ≡ spec Unspecified (pos 70)
unfolding child_spec_of remaining_of spec
match_in_unspecified = refl

wrap_in_exactly : child_spec_of (spec Exactly (pos 100)) (pos 30) (negsuc 1) ≡ spec AtMost (pos 70)
unfolding child_spec_of remaining_of spec
wrap_in_exactly = refl

wrap_in_at_most : child_spec_of (spec AtMost (pos 100)) (pos 30) (negsuc 1) ≡ spec AtMost (pos 70)
unfolding child_spec_of remaining_of spec
wrap_in_at_most = refl

wrap_in_unspecified : child_spec_of (spec Unspecified (pos 100)) (pos 30) (negsuc 1) ≡ spec Unspecified (pos 70)
unfolding child_spec_of remaining_of spec
wrap_in_unspecified = refl

-- more is taken than there is
nothing_remains : child_spec_of (spec AtMost (pos 5)) (pos 10) (negsuc 1) ≡ spec AtMost (pos 0)
unfolding child_spec_of remaining_of spec
nothing_remains = refl

-- a negative margin gives more than the parent has, up to the greatest size
much_remains : child_spec_of (spec Exactly (pos 16777215)) (negsuc 9) (negsuc 0) ≡ spec Exactly (pos 16777215)
unfolding child_spec_of remaining_of spec
much_remains = refl

takes_what_is_offered : default_size_of (pos 7) (spec AtMost (pos 40)) ≡ pos 40
unfolding default_size_of spec
takes_what_is_offered = refl

takes_what_it_wants : default_size_of (pos 7) (spec Unspecified (pos 40)) ≡ pos 7
unfolding default_size_of spec
takes_what_it_wants = refl

is_reported : resolve_of (pos 50) (spec Exactly (pos 40)) ≡ pos 40
unfolding resolve_of spec
is_reported = refl

is_limited : resolve_of (pos 50) (spec AtMost (pos 40)) ≡ pos 40
unfolding resolve_of spec
is_limited = refl

stays_below_the_limit : resolve_of (pos 30) (spec AtMost (pos 40)) ≡ pos 30
unfolding resolve_of spec
stays_below_the_limit = refl

has_no_limit : resolve_of (pos 50) (spec Unspecified (pos 40)) ≡ pos 50
unfolding resolve_of spec
has_no_limit = refl

is_cut : clamp_coordinate (negsuc 268435456) ≡ negsuc 268435455
unfolding clamp_coordinate
is_cut = refl
