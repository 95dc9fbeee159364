-- A walk over the targets of a group.
use Rattle.std.proofs.Common.{◌≡◌, ◌≢◌, ℕ, ◌<◌, Bool, true, false, List, [], ◌∷◌, Option, Some, length, refl, sym, ◌∙◌, ap, arith, eqb-true, ◌⊎◌, inl, inr}
use Rattle.std.proofs.lemmas.Bool.{cases_Bool, eq-eqb, ne_eqb}
use Rattle.std.proofs.lemmas.Grind.{common_steps}
use Rattle.std.specs.Prelude.{◌==◌}
use Rattle.touch_dispatch.proofs.gestures.DistinctLaws.{drop_none, more_same}
use Rattle.touch_dispatch.specs.Dispatch.{oldest, oldest_or}
use Rattle.touch_targets.specs.Captures.{Target, drop_pointers, first_child, from_child, is_target, older, put_target, targets_from}

any_here : (child : ℕ) (t : Target) (targets : List Target) → (t.child == child) ≡ true → is_target child (t ∷ targets) ≡ true
any_here child t targets e = grind (arith, common_steps)

any_there : (child : ℕ) (t : Target) (targets : List Target) → (t.child == child) ≡ false → is_target child (t ∷ targets) ≡ is_target child targets
any_there child t targets e = grind (arith, common_steps)

-- where a walk is, there is a target
found_target : (child x : ℕ) (targets : List Target) → first_child (from_child child targets) ≡ Some x → is_target child targets ≡ true
found_target child x [] is = absurd (cc)
found_target child x (t ∷ targets) is =
    elim (cases_Bool (t.child == child)) [
      | inl e ↦ any_here child t targets e
      | inr e ↦ any_there child t targets e ∙ found_target child x targets (rw e at is)
    ]

-- a target that is there begins a rest of the list
pub record Headed (child : ℕ) (targets : List Target) : Type 0 where
  pub ids : ℕ → Bool
  pub rest : List Target
  pub is : from_child child targets ≡ record { child = child; ids = ids } ∷ rest

headed_there : (child : ℕ) (t : Target) (targets : List Target) → (t.child == child) ≡ false → Headed child targets → Headed child (t ∷ targets)
headed_there child t targets e h = record { ids = h.ids; rest = h.rest; is = rw e h.is }

pub headed : (child : ℕ) (targets : List Target) → is_target child targets ≡ true → Headed child targets
headed child [] there = absurd (cc)
headed child (t ∷ targets) there =
    elim (cases_Bool (t.child == child)) [
      | inl e ↦ record { ids = t.ids; rest = targets; is = rw e (ap (λ c. let t' : Target = record { child = c; ids = t.ids } in t' ∷ targets) (eqb-true _ _ e)) }
      | inr e ↦ headed_there child t targets e (headed child targets (sym (any_there child t targets e) ∙ there))
    ]

-- a walk falls
fewer_targets : (child : ℕ) (targets : List Target) → is_target child targets ≡ true → length (older (from_child child targets)) < length (from_child child targets)
fewer_targets child targets there = let h = headed child targets there in rw h.is (omega arith)

-- one target of a walk, and the next older one
pub record TargetStep (child : ℕ) (now next : Option ℕ) (targets : List Target) : Type 0 where
  pub there : is_target child targets ≡ true
  pub part : targets_from next targets ≡ older (from_child child targets)
  pub first : next ≡ first_child (targets_from next targets)
  pub fewer : length (targets_from next targets) < length (targets_from now targets)

pub walk_there : (child : ℕ) (now : Option ℕ) (targets : List Target) → now ≡ Some child → now ≡ first_child (targets_from now targets) → is_target child targets ≡ true
walk_there child now targets is first = found_target child child targets (sym (rw is at first))

pub target_step : (child : ℕ) (now next : Option ℕ) (targets : List Target) → now ≡ Some child → now ≡ first_child (targets_from now targets)
    → (is_target child targets ≡ true → targets_from next targets ≡ older (from_child child targets))
    → (is_target child targets ≡ true → next ≡ first_child (older (from_child child targets)))
    → TargetStep child now next targets
target_step child now next targets is first rest head =
    let there = walk_there child now targets is first in
    record {
      there = there;
      part = rest there;
      first = head there ∙ ap first_child (sym (rest there));
      fewer = rw (rest there, is) (fewer_targets child targets there);
    }

-- another child is among those that are left
pub other_target : (child x : ℕ) (targets : List Target) → is_target child targets ≡ true → child ≢ x
    → is_target x (older (from_child child targets)) ≡ is_target x (from_child child targets)
other_target child x targets there ne =
    let h = headed child targets there in
    rw h.is (sym (any_there x (record { child = child; ids = h.ids }) h.rest (ne_eqb child x ne)))

pub oldest_on : (child : ℕ) (newer : Option ℕ) (targets : List Target) → is_target child targets ≡ true
    → oldest_or (Some child) (older (from_child child targets)) ≡ oldest_or newer (from_child child targets)
oldest_on child newer targets there = let h = headed child targets there in rw h.is refl

-- what becomes of the targets when one is put
pub put_cases : (c child : ℕ) (ids : ℕ → Bool) (targets : List Target) → is_target c (put_target child ids targets) ≡ true → (child ≡ c) ⊎ (is_target c targets ≡ true)
put_cases c child ids targets there =
    elim (cases_Bool (is_target child targets)) [
      | inl e ↦ inr (let there = rw e at there in sym (more_same c child ids targets) ∙ there)
      | inr e ↦ elim (cases_Bool (child == c)) [
        | inl s ↦ inl (eqb-true _ _ s)
        | inr n ↦ inr (let there = rw e at there in sym (any_there c (record { child = child; ids = ids }) targets n) ∙ there)
      ]
    ]

-- a target that stays when pointers leave was there
pub dropped_there : (c : ℕ) (ids : ℕ → Bool) (targets : List Target) → is_target c (drop_pointers ids targets) ≡ true → is_target c targets ≡ true
dropped_there c ids targets there =
    elim (cases_Bool (is_target c targets)) [
      | inl e ↦ e
      | inr e ↦ absurd (let none = drop_none c ids targets e in cc)
    ]

-- the oldest target is a target
oldest_or_there : (child x : ℕ) (newer : List Target) (targets : List Target) → oldest_or (Some x) targets ≡ Some child → (x ≡ child) ⊎ (is_target child targets ≡ true)
oldest_or_there child x newer [] is = inl (cc)
oldest_or_there child x newer (t ∷ targets) is =
    elim (oldest_or_there child t.child newer targets is) [
      | inl e ↦ inr (any_here child t targets (eq-eqb t.child child e))
      | inr there ↦ inr (any_later child t targets there)
    ]
  where
    any_later : (child : ℕ) (t : Target) (targets : List Target) → is_target child targets ≡ true → is_target child (t ∷ targets) ≡ true
    any_later child t targets there = elim (cases_Bool (t.child == child)) [
      | inl e ↦ any_here child t targets e
      | inr e ↦ any_there child t targets e ∙ there
    ]

pub oldest_there : (child : ℕ) (targets : List Target) → oldest targets ≡ Some child → is_target child targets ≡ true
oldest_there child [] is = absurd (cc)
oldest_there child (t ∷ targets) is =
    elim (oldest_or_there child t.child [] targets is) [
      | inl e ↦ any_here child t targets (eq-eqb t.child child e)
      | inr there ↦ elim (cases_Bool (t.child == child)) [
        | inl e ↦ any_here child t targets e
        | inr e ↦ any_there child t targets e ∙ there
      ]
    ]
