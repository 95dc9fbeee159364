-- Worked measurings, by computation.
use Rattle.std.specs.Prelude.{◌≡◌, ℕ, ℤ, pos, negsuc, refl, [], ◌∷◌}
use Rattle.geom_core.specs.declared.measuring.Mode.TheVariants.{Exactly}
use Rattle.geom_core.specs.Spec.{child_spec_of, default_size_of, remaining_of, resolve_of}
use Rattle.kept_views.specs.Kept.{last_specs}
use Rattle.measure_pass.specs.Measured.{calls_under, finals_under, size_under}
use Rattle.view_model.proofs.ExampleViews.{at_most}
use Rattle.view_model.specs.declared.facts.Facts.{Facts}
use Rattle.view_model.specs.declared.class.Class.{Class}
use Rattle.view_model.specs.declared.class.Class.TheVariants as class
use Rattle.view_model.specs.declared.visibility.Visibility.TheVariants.{Gone}
use Rattle.view_model.specs.Facts.{new_facts}
use Rattle.view_model.specs.Forest.{Forest, Nothing, Branch}
use Rattle.view_model.specs.FrameLayout.{second_spec}
use Rattle.view_model.specs.Measuring.{Specs}
use Rattle.view_tree.specs.Rows.{Row}
use Rattle.view_tree.specs.Views.{Held, fresh}

match : ℤ
match = negsuc 0

wrap : ℤ
wrap = negsuc 1

row : ℕ → Class → Facts → Row
row key class facts = record { key = key; view = record { number = key; class = class; facts = facts; text = [] } }

-- a frame layout and a plain view of these dimensions
frame : ℕ → ℤ → ℤ → Row
frame key width height = row key class.FrameLayout (new_facts width height)

leaf : ℕ → ℤ → ℤ → Row
leaf key width height = row key class.View (new_facts width height)

gone : ℕ → Row
gone key = row key class.FrameLayout (record (new_facts (pos 90) (pos 40)) { visibility = Gone })

exactly : ℕ → ℕ → Specs
exactly w h = record { across = record { mode = Exactly; size = pos w }; down = record { mode = Exactly; size = pos h } }

-- a group as large as its content: two frames that match it, one with a view below it, around one of 30 by 20 and one
-- that is gone
group : Forest Row
group =
    Branch (frame 1 wrap wrap) (Branch (frame 2 match match) (Branch (leaf 3 (pos 10) (pos 10)) Nothing Nothing)
    (Branch (gone 4) (Branch (leaf 5 (pos 80) (pos 80)) Nothing Nothing) (Branch (frame 6 (pos 30) (pos 20)) Nothing (Branch (frame 7 match match) Nothing Nothing)))) Nothing

as_large_as_the_largest : size_under group at_most ≡ record { w = pos 30; h = pos 20 }
unfolding group frame leaf gone row at_most match wrap child_spec_of default_size_of remaining_of resolve_of second_spec
as_large_as_the_largest = refl

-- itself, then 2, 3, 6 and 7, and then 2, 3 and 7 again
below_what_matches_all_is_measured_twice : calls_under group at_most ≡ 8
unfolding group frame leaf gone row at_most match wrap child_spec_of default_size_of remaining_of resolve_of second_spec
below_what_matches_all_is_measured_twice = refl

-- those that match are given the size of the other, exactly
finals_are_exact : finals_under group at_most ≡ exactly 30 20 ∷ exactly 30 20 ∷ exactly 30 20 ∷ []
unfolding group frame leaf gone row at_most exactly match wrap child_spec_of default_size_of remaining_of resolve_of second_spec
finals_are_exact = refl

held_by_key : ℕ → Held
held_by_key key = record { state = record fresh { ws = (exactly key 1).across; hs = (exactly key 1).down }; offset = pos 0; cache = [] }

gone_has_no_last_specs : last_specs held_by_key (Branch (leaf 1 wrap wrap) Nothing (Branch (gone 2) Nothing (Branch (leaf 3 wrap wrap) Nothing Nothing))) ≡ exactly 1 1 ∷ exactly 3 1 ∷ []
unfolding held_by_key frame leaf gone row exactly wrap
gone_has_no_last_specs = refl
