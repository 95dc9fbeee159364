-- Worked captures, by computation.
use Rattle.std.specs.Prelude.{◌≡◌, ℕ, Bool, true, false, List, [], ◌∷◌, Some, None, refl, map, ◌==◌, ◌&&◌}
use Rattle.touch_event.specs.PointerSets.{has_id}
use Rattle.touch_targets.specs.Captures.{Target, drop_pointers, first_child, from_child, older, put_target, without_child}
use Rattle.std.specs.List.{list_any}

-- the children in the order of their capture, the newest first
abbrev order : List Target → List ℕ
order targets = map (λ (t : Target). t.child) targets

-- the child is captured by this pointer
abbrev holds : ℕ → ℕ → List Target → Bool
holds pointer child targets = list_any (λ (t : Target). t.child == child && t.ids pointer) targets

-- a view of the targets of a group: each child with the first three of its pointers
abbrev pointers : (ℕ → Bool) → List Bool
pointers ids = ids 0 ∷ ids 1 ∷ ids 2 ∷ []

abbrev reported : List Target → List (ℕ × List Bool)
reported targets = map (λ (t : Target). (t.child, pointers t.ids)) targets

-- the child 5 is captured by the pointer 0, and then 7 by 1
abbrev one : List Target
one = put_target 5 (has_id 1) []

abbrev two : List Target
two = put_target 7 (has_id 2) one

newest_first : order two ≡ 7 ∷ 5 ∷ []
newest_first = refl

two_reported : reported two ≡ (7, false ∷ true ∷ false ∷ []) ∷ (5, true ∷ false ∷ false ∷ []) ∷ []
unfolding has_id
two_reported = refl

-- one more pointer for the older child leaves the order
more_reported : reported (put_target 5 (has_id 4) two) ≡ (7, false ∷ true ∷ false ∷ []) ∷ (5, true ∷ false ∷ true ∷ []) ∷ []
unfolding has_id
more_reported = refl

holds_one : holds 1 7 two ≡ true
unfolding has_id
holds_one = refl

holds_no_other : holds 0 7 two ≡ false
unfolding has_id
holds_no_other = refl

after_newest : first_child (older (from_child 7 two)) ≡ Some 5
after_newest = refl

after_oldest : first_child (older (from_child 5 two)) ≡ None
after_oldest = refl

-- the pointer 1 goes up, and with it the child that had no other
dropped_reported : reported (drop_pointers (has_id 2) two) ≡ (5, true ∷ false ∷ false ∷ []) ∷ []
unfolding has_id
dropped_reported = refl

removed_reported : reported (without_child 5 two) ≡ (7, false ∷ true ∷ false ∷ []) ∷ []
unfolding has_id
removed_reported = refl
