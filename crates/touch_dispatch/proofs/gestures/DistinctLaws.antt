-- No group has a child twice, whatever is added to its targets or leaves them.
use Rattle.std.proofs.Common.{◌≡◌, ℕ, Bool, true, false, List, [], ◌∷◌, map, filter, refl, ◌∙◌, ap, inl, inr}
use Rattle.std.proofs.lemmas.Bool.{cases_Bool}
use Rattle.std.specs.Prelude.{◌==◌, ◌||◌, not, if◌then◌else◌}
use Rattle.touch_dispatch.specs.Once.{Distinct}
use Rattle.touch_targets.specs.Captures.{Target, drop_pointers, has_any, is_target, put_target, with_ids, without_child, without_ids}

same_child : (c child : ℕ) (ids : ℕ → Bool) (t : Target) (b : Bool) → ((if b then with_ids ids t else t).child == c) ≡ (t.child == c)
same_child c child ids t true = refl
same_child c child ids t false = refl

abbrev pub more_ids : ℕ → (ℕ → Bool) → List Target → List Target
more_ids child ids targets = map (λ (t : Target). if t.child == child then with_ids ids t else t) targets

-- more pointers of a target change no child
pub more_same : (c child : ℕ) (ids : ℕ → Bool) (targets : List Target) → is_target c (more_ids child ids targets) ≡ is_target c targets
more_same c child ids [] = refl
more_same c child ids (t ∷ targets) =
    ap (λ b. b || is_target c (more_ids child ids targets)) (same_child c child ids t (t.child == child)) ∙ ap (λ b. (t.child == c) || b) (more_same c child ids targets)

pub child_same : (child : ℕ) (ids : ℕ → Bool) (t : Target) (b : Bool) → (if b then with_ids ids t else t).child ≡ t.child
child_same child ids t true = refl
child_same child ids t false = refl

more_distinct : (child : ℕ) (ids : ℕ → Bool) (targets : List Target) → Distinct targets → Distinct (more_ids child ids targets)
more_distinct child ids [] is = tt
more_distinct child ids (t ∷ targets) is = (
  ap (λ c. is_target c (more_ids child ids targets)) (child_same child ids t (t.child == child)) ∙ more_same t.child child ids targets ∙ is.0,
  more_distinct child ids targets is.1,
)

pub put_distinct : (child : ℕ) (ids : ℕ → Bool) (targets : List Target) → Distinct targets → Distinct (put_target child ids targets)
put_distinct child ids targets is =
    elim (cases_Bool (is_target child targets)) [
      | inl e ↦ rw e (more_distinct child ids targets is)
      | inr e ↦ rw e (e, is)
    ]

-- what stays of some targets has no child that they lack
stays_no : (c : ℕ) (keeps : Target → Bool) (targets : List Target) → is_target c targets ≡ false → is_target c (filter keeps targets) ≡ false
stays_no c keeps [] none = refl
stays_no c keeps (t ∷ targets) none =
    let first : (t.child == c) ≡ false = or_first (t.child == c) (is_target c targets) none in
    let later = stays_no c keeps targets (or_second (t.child == c) (is_target c targets) none) in
    elim (cases_Bool (keeps t)) [
      | inl e ↦ rw (e, first) later
      | inr e ↦ rw e later
    ]
  where
    or_first : (a b : Bool) → (a || b) ≡ false → a ≡ false
    or_first true b e = e
    or_first false b e = refl

    or_second : (a b : Bool) → (a || b) ≡ false → b ≡ false
    or_second true true e = e
    or_second true false e = refl
    or_second false b e = e

stays_distinct : (keeps : Target → Bool) (targets : List Target) → Distinct targets → Distinct (filter keeps targets)
stays_distinct keeps [] is = tt
stays_distinct keeps (t ∷ targets) is =
    let later = stays_distinct keeps targets is.1 in
    elim (cases_Bool (keeps t)) [
      | inl e ↦ rw e (stays_no t.child keeps targets is.0, later)
      | inr e ↦ rw e later
    ]

pub without_distinct : (child : ℕ) (targets : List Target) → Distinct targets → Distinct (without_child child targets)
without_distinct child targets is = stays_distinct (λ (t : Target). not (t.child == child)) targets is

fewer_same : (c : ℕ) (ids : ℕ → Bool) (targets : List Target) → is_target c (map (without_ids ids) targets) ≡ is_target c targets
fewer_same c ids [] = refl
fewer_same c ids (t ∷ targets) = ap (λ b. (t.child == c) || b) (fewer_same c ids targets)

fewer_distinct : (ids : ℕ → Bool) (targets : List Target) → Distinct targets → Distinct (map (without_ids ids) targets)
fewer_distinct ids [] is = tt
fewer_distinct ids (t ∷ targets) is = (fewer_same t.child ids targets ∙ is.0, fewer_distinct ids targets is.1)

pub drop_distinct : (ids : ℕ → Bool) (targets : List Target) → Distinct targets → Distinct (drop_pointers ids targets)
drop_distinct ids targets is = stays_distinct (λ (t : Target). has_any t.ids) (map (without_ids ids) targets) (fewer_distinct ids targets is)

pub drop_none : (c : ℕ) (ids : ℕ → Bool) (targets : List Target) → is_target c targets ≡ false → is_target c (drop_pointers ids targets) ≡ false
drop_none c ids targets none = stays_no c (λ (t : Target). has_any t.ids) (map (without_ids ids) targets) (fewer_same c ids targets ∙ none)

pub without_none : (c child : ℕ) (targets : List Target) → is_target c targets ≡ false → is_target c (without_child child targets) ≡ false
without_none c child targets none = stays_no c (λ (t : Target). not (t.child == child)) targets none

-- a child that is taken away is no longer there
pub without_self : (c : ℕ) (targets : List Target) → is_target c (without_child c targets) ≡ false
without_self c [] = refl
without_self c (t ∷ targets) =
    elim (cases_Bool (t.child == c)) [
      | inl e ↦ rw e (without_self c targets)
      | inr e ↦ rw e (ap (λ b. b || is_target c (without_child c targets)) e ∙ without_self c targets)
    ]
