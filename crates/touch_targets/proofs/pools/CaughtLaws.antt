-- Operations on captured children, and on the targets that they represent.
use Rattle.std.proofs.Common.{◌≡◌, ℕ, ◌<◌, ◌^◌, true, false, Bool, List, [], ◌∷◌, map, filter, refl, sym, ◌∙◌, ap, inl, inr}
use Rattle.std.specs.Prelude.{◌==◌, ◌&&◌, not, if◌then◌else◌}
use Rattle.std.specs.List.{AllByRecursion}
use Rattle.std.proofs.lemmas.Bool.{cases_Bool}
use Rattle.touch_event.specs.PointerSets.{has_id}
use Rattle.touch_targets.specs.Captures.{Target, drop_pointers, has_any, is_target, put_target, with_ids, without_child}
use Rattle.touch_targets.specs.Seats.{Caught, drop_caught, is_caught, mask_with, mask_without, put_caught, target_of}
use Rattle.touch_targets.proofs.MaskLaws.{has_any_of, has_with, has_without, mask_without_fits, none_left}

-- numbers that represent sets of pointers
abbrev pub AllFit : List Caught → Type 0
AllFit caught = AllByRecursion (λ (c : Caught). c.ids < 2 ^ 32) caught

pub is_target_of : (child : ℕ) (caught : List Caught) → is_target child (map target_of caught) ≡ is_caught child caught
is_target_of child [] = refl
is_target_of child (c ∷ caught) = rw (is_target_of child caught) refl

more_of : (child ids : ℕ) (caught : List Caught) → map target_of (map (λ (c : Caught). if c.child == child then record c { ids = mask_with c.ids ids } else c) caught)
    ≡ map (λ (t : Target). if t.child == child then with_ids (has_id ids) t else t) (map target_of caught)
more_of child ids [] = refl
more_of child ids (c ∷ caught) =
    elim (cases_Bool (c.child == child)) [
      | inl is ↦ rw (is, has_with c.ids ids, more_of child ids caught) refl
      | inr is ↦ rw (is, more_of child ids caught) refl
    ]

pub put_of : (child ids : ℕ) (caught : List Caught) → map target_of (put_caught child ids caught) ≡ put_target child (has_id ids) (map target_of caught)
put_of child ids caught =
    elim (cases_Bool (is_caught child caught)) [
      | inl is ↦ rw (is, is_target_of child caught, is) (more_of child ids caught)
      | inr is ↦ rw (is, is_target_of child caught, is) refl
    ]

pub drop_of : (ids : ℕ) (caught : List Caught) → ids < 2 ^ 32 → AllFit caught → map target_of (drop_caught ids caught) ≡ drop_pointers (has_id ids) (map target_of caught)
drop_of ids [] fits all = refl
drop_of ids (c ∷ caught) fits all =
    let later = drop_of ids caught fits all.1 in
    let set = has_without c.ids ids all.0 fits in
    let any : has_any (λ id. has_id c.ids id && not (has_id ids id)) ≡ not (mask_without c.ids ids == 0) =
    ap has_any (sym set) ∙ has_any_of (mask_without c.ids ids) (mask_without_fits c.ids ids) in
    elim (cases_Bool (mask_without c.ids ids == 0)) [
      | inl is ↦ rw (any, is) later
      | inr is ↦ rw (any, is, later, set) refl
    ]

pub without_of : (child : ℕ) (caught : List Caught) → map target_of (filter (λ (c : Caught). not (c.child == child)) caught) ≡ without_child child (map target_of caught)
without_of child [] = refl
without_of child (c ∷ caught) =
    elim (cases_Bool (c.child == child)) [
      | inl is ↦ rw is (without_of child caught)
      | inr is ↦ rw (is, without_of child caught) refl
    ]

-- without all pointers there is no target left
pub drop_all : (targets : List Target) → drop_pointers (has_id 4294967295) targets ≡ []
drop_all [] = refl
drop_all (t ∷ targets) = rw (none_left t.ids) (drop_all targets)

pub cleared : (b : Bool) (targets : List Target) → (if b then drop_pointers (has_id 4294967295) targets else targets) ≡ (if b then [] else targets)
cleared true targets = drop_all targets
cleared false targets = refl
