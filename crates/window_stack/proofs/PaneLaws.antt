-- How the order of windows changes.
use Rattle.std.proofs.Common.{◌≡◌, ◌≢◌, ℕ, ◌<◌, ◌≤◌, ◌+◌, ℤ, List, [], ◌∷◌, ◌++◌, length, suc, take, drop, get_or, set, Option, None, Some, true, false, refl, sym, ◌∙◌, ap, inl, inr, arith, eqb, subst}
use Rattle.std.proofs.lemmas.Bool.{cases_Bool, cases_eq, eq-eqb, ne_eqb}
use Rattle.std.proofs.lemmas.List.{append-nil, drop_all, drop-set-lt, drop_more, length-set, length-map, map-append, take_all, take_more, take_more_set}
use Rattle.std.proofs.lemmas.List.Folds.{find_at}
use Rattle.std.proofs.lemmas.Map.Steps.{length-le_from_distinct_below}
use Rattle.std.specs.List.{AllByRecursion, IsDistinct, list_any, position_or_len, refill, remove, slice_get}
use Rattle.std.specs.Option.{IfNone, OnSome, is_some}
use Rattle.std.specs.Prelude.{◌==◌, map, IfSome}
use Rattle.window_stack.specs.PlainPanes.{AreOpen, IsStack, holder_without, is_under, only, pane_at, pane_under, placed, without}
use Rattle.geom_core.specs.declared.geometry.Size.{Size}
use Rattle.window_stack.specs.Numbers.{max_pane}
use Rattle.window_stack.specs.declared.panes.Pane.{Pane}

pub pane_at-without_none : (j k : ℕ) (panes : List Pane) → pane_at panes j ≡ None → pane_at (without k panes) j ≡ None
pane_at-without_none j k [] none = refl
pane_at-without_none j k (pane ∷ panes) none = elim (cases_Bool (pane.k == j)) [
  | inl e ↦ absurd (let none = rw e at none in cc)
  | inr e ↦
      let none = rw e at none in
      elim (cases_Bool (pane.k == k)) [ inl f ↦ rw f (pane_at-without_none j k panes none) | inr f ↦ rw (f, e) (pane_at-without_none j k panes none) ]
]

pub pane_at-without_self : (k : ℕ) (panes : List Pane) → pane_at (without k panes) k ≡ None
pane_at-without_self k [] = refl
pane_at-without_self k (pane ∷ panes) = elim (cases_Bool (pane.k == k)) [ inl e ↦ rw e (pane_at-without_self k panes) | inr e ↦ rw e (rw e (pane_at-without_self k panes)) ]

-- the others stay as they are
pub pane_at-without_other : (j k : ℕ) (panes : List Pane) → j ≢ k → pane_at (without k panes) j ≡ pane_at panes j
pane_at-without_other j k [] ne = refl
pane_at-without_other j k (pane ∷ panes) ne = elim (cases_eq pane.k k) [
  | inl e ↦ rw (eq-eqb pane.k k e, ne_eqb pane.k j (λ same. ne (sym same ∙ e))) (pane_at-without_other j k panes ne)
  | inr e ↦ rw (ne_eqb pane.k k e) (elim (cases_Bool (pane.k == j)) [ inl f ↦ rw f refl | inr f ↦ rw f (pane_at-without_other j k panes ne) ])
]

pub AreOpen-without : (k : ℕ) (panes : List Pane) → AreOpen panes → AreOpen (without k panes)
AreOpen-without k [] are = tt
AreOpen-without k (pane ∷ panes) are = elim (cases_Bool (pane.k == k)) [
  | inl e ↦ rw e (AreOpen-without k panes are.2)
  | inr e ↦ rw e (are.0, pane_at-without_none pane.k k panes are.1, AreOpen-without k panes are.2)
]

-- the same windows are there
pub is_some-placed : (j : ℕ) (to : Pane) (panes : List Pane) → is_some (pane_at (map (placed to) panes) j) ≡ is_some (pane_at panes j)
is_some-placed j to [] = refl
is_some-placed j to (pane ∷ panes) = elim (cases_eq pane.k to.k) [
  | inl e ↦ rw (eq-eqb pane.k to.k e, ← e) (elim (cases_Bool (pane.k == j)) [ inl f ↦ rw f refl | inr f ↦ rw f (is_some-placed j to panes) ])
  | inr e ↦ rw (ne_eqb pane.k to.k e) (elim (cases_Bool (pane.k == j)) [ inl f ↦ rw f refl | inr f ↦ rw f (is_some-placed j to panes) ])
]

pub pane_at-placed_none : (j : ℕ) (to : Pane) (panes : List Pane) → pane_at panes j ≡ None → pane_at (map (placed to) panes) j ≡ None
pane_at-placed_none j to [] none = refl
pane_at-placed_none j to (pane ∷ panes) none = elim (cases_Bool (pane.k == j)) [
  | inl f ↦ absurd (let none = rw f at none in cc)
  | inr f ↦
      let none = rw f at none in
      elim (cases_eq pane.k to.k) [
        | inl e ↦ rw (eq-eqb pane.k to.k e, ← e, f) (pane_at-placed_none j to panes none)
        | inr e ↦ rw (ne_eqb pane.k to.k e, f) (pane_at-placed_none j to panes none)
      ]
]

pub AreOpen-placed : (to : Pane) (panes : List Pane) → AreOpen panes → AreOpen (map (placed to) panes)
AreOpen-placed to [] are = tt
AreOpen-placed to (pane ∷ panes) are = elim (cases_eq pane.k to.k) [
  | inl e ↦
      let name : to.k ≤ max_pane = subst (λ n. n ≤ max_pane) e are.0 in
      rw (eq-eqb pane.k to.k e) (name, pane_at-placed_none to.k to panes (subst (λ n. pane_at panes n ≡ None) e are.1), AreOpen-placed to panes are.2)
  | inr e ↦ rw (ne_eqb pane.k to.k e) (are.0, pane_at-placed_none pane.k to panes are.1, AreOpen-placed to panes are.2)
]

-- a window that is found has the name that was searched for
pub found_name : (k : ℕ) (panes : List Pane) (pane : Pane) → pane_at panes k ≡ Some pane → pane.k ≡ k
found_name k [] pane found = absurd (cc found)
found_name k (first ∷ panes) pane found = elim (cases_eq first.k k) [
  | inl e ↦ let found = rw (eq-eqb first.k k e) at found in ap (λ (p : Pane). p.k) (sym (some_is found)) ∙ e
  | inr e ↦ let found = rw (ne_eqb first.k k e) at found in found_name k panes pane found
]
  where
    or_first : Pane → Option Pane → Pane
    or_first other None = other
    or_first other (Some pane) = pane

    some_is : {p q : Pane} → Some p ≡ Some q → p ≡ q
    some_is {p = p} e = ap (or_first p) e

apart : (k : ℕ) (panes : List Pane) → pane_at panes k ≡ None → AllByRecursion (λ j. eqb k j ≡ false) (map (λ (pane : Pane). pane.k) panes)
apart k [] none = tt
apart k (pane ∷ panes) none = elim (cases_eq pane.k k) [
  | inl e ↦ absurd (let none = rw (eq-eqb pane.k k e) at none in cc)
  | inr e ↦ let none = rw (ne_eqb pane.k k e) at none in (ne_eqb k pane.k (λ same. e (sym same)), apart k panes none)
]

distinct : (panes : List Pane) → AreOpen panes → IsDistinct eqb (map (λ (pane : Pane). pane.k) panes)
unfolding IsDistinct
distinct [] are = tt
distinct (pane ∷ panes) are = (apart pane.k panes are.1, distinct panes are.2)

named : (panes : List Pane) → AreOpen panes → (q : ℕ) → list_any (eqb q) (map (λ (pane : Pane). pane.k) panes) ≡ true → q < 8
named [] are q any = absurd (cc any)
named (pane ∷ panes) are q any = elim (cases_eq q pane.k) [
  | inl e ↦ let k = are.0 in rw e (omega arith)
  | inr e ↦ let any = rw (ne_eqb q pane.k e) at any in named panes are.2 q any
]

-- there are no more windows than names
pub few : (panes : List Pane) → AreOpen panes → length panes ≤ 8
few panes are =
    let most = length-le_from_distinct_below (map (λ (pane : Pane). pane.k) panes) 8 (distinct panes are) (named panes are) in
    let same = length-map panes (λ (pane : Pane). pane.k) in
    omega arith

-- the windows up to an index have their new corners, and those from it on are as they were
pub record PlacedUpTo (to : Pane) (old now : List Pane) (index : ℕ) : Type 0 where
  pub all : length now ≡ length old
  pub done : take index now ≡ map (placed to) (take index old)
  pub rest : drop index now ≡ drop index old

pub placed_none : (to : Pane) (old : List Pane) → PlacedUpTo to old old 0
placed_none to old = record { all = refl; done = refl; rest = refl }

pub placed_more : (to : Pane) (old now : List Pane) (index : ℕ) (item pane : Pane) → PlacedUpTo to old now index → index < length old
    → pane ≡ placed to (get_or now index item) → PlacedUpTo to old (set now index pane) (index + 1)
placed_more to old now index item pane is within own =
    let there : index < length now = rw is.all within in
    let both : get_or now index item ∷ drop (index + 1) now ≡ get_or old index item ∷ drop (index + 1) old =
    sym (drop_more now index item there) ∙ is.rest ∙ drop_more old index item within in
    let same : get_or now index item ≡ get_or old index item = ap (first_or item) both in
    record {
      all = length-set now index pane ∙ is.all;
      done =
          take_more_set now index pane there
          ∙ ap (λ (l : List Pane). l ++ pane ∷ []) is.done
          ∙ ap (λ (h : Pane). map (placed to) (take index old) ++ h ∷ []) (own ∙ ap (λ (e : Pane). placed to e) same)
          ∙ sym (map-append (placed to) (take index old) (get_or old index item ∷ []))
          ∙ sym (ap (map (placed to)) (take_more old index item within));
      rest = drop-set-lt (index + 1) now index pane (omega arith) ∙ ap others both;
    }
  where
    first_or : Pane → List Pane → Pane
    first_or other [] = other
    first_or other (pane ∷ panes) = pane

    others : List Pane → List Pane
    others [] = []
    others (pane ∷ panes) = panes

pub placed_all : (to : Pane) (old now : List Pane) (index : ℕ) → PlacedUpTo to old now index → length old ≤ index → now ≡ map (placed to) old
placed_all to old now index is over =
    sym (take_all index now (rw is.all over)) ∙ is.done ∙ ap (map (placed to)) (take_all index old over)

-- windows that were all written again
pub refill-all : (old now : List Pane) → length now ≡ length old → refill (length old) old now ≡ now
refill-all old now same =
    ap (λ (l : List Pane). take (length old) (now ++ l)) (drop_all (length now) old (omega arith))
    ∙ ap (take (length old)) (append-nil now)
    ∙ take_all (length old) now (omega arith)

-- a window that is found has a name that a window may have
found_low : (k : ℕ) (panes : List Pane) (pane : Pane) → AreOpen panes → pane_at panes k ≡ Some pane → pane.k ≤ max_pane
found_low k [] pane are found = absurd (cc found)
found_low k (first ∷ panes) pane are found = elim (cases_eq first.k k) [
  | inl e ↦
      let found = rw (eq-eqb first.k k e) at found in
      subst (λ (o : Option Pane). IfSome o (λ p. p.k ≤ max_pane)) found are.0
  | inr e ↦ let found = rw (ne_eqb first.k k e) at found in found_low k panes pane are.2 found
]

only-none : (k : ℕ) (panes : List Pane) → pane_at panes k ≡ None → only k panes ≡ []
only-none k [] none = refl
only-none k (pane ∷ panes) none = elim (cases_Bool (pane.k == k)) [
  | inl e ↦ absurd (let none = rw e at none in cc)
  | inr e ↦ let none = rw e at none in rw e (only-none k panes none)
]

pub only-found : (k : ℕ) (panes : List Pane) (pane : Pane) → AreOpen panes → pane_at panes k ≡ Some pane → only k panes ≡ pane ∷ []
only-found k [] pane are found = absurd (cc found)
only-found k (first ∷ panes) pane are found = elim (cases_eq first.k k) [
  | inl e ↦
      let found = rw (eq-eqb first.k k e) at found in
      let others = only-none k panes (subst (λ n. pane_at panes n ≡ None) e are.1) in
      rw (eq-eqb first.k k e, others) (ap (λ o. or_none o) found)
  | inr e ↦ let found = rw (ne_eqb first.k k e) at found in rw (ne_eqb first.k k e) (only-found k panes pane are.2 found)
]
  where
    or_none : Option Pane → List Pane
    or_none None = []
    or_none (Some pane) = pane ∷ []

-- a window that is open has a name that a window may have
pub name_open : (k : ℕ) (panes : List Pane) → AreOpen panes → is_some (pane_at panes k) ≡ true → k ≤ max_pane
name_open k [] are there = absurd (cc there)
name_open k (pane ∷ panes) are there = elim (cases_eq pane.k k) [
  | inl e ↦ subst (λ n. n ≤ max_pane) e are.0
  | inr e ↦ name_open k panes are.2 (rw (ne_eqb pane.k k e) at there)
]

pub name_held : (holder : Option ℕ) (panes : List Pane) → AreOpen panes → IfSome holder (λ k. is_some (pane_at panes k) ≡ true) → IfSome holder (λ k. k ≤ max_pane)
name_held None panes are held = tt
name_held (Some k) panes are held = name_open k panes are held

pub AreOpen-raised : (k : ℕ) (panes : List Pane) (pane : Pane) → AreOpen panes → pane_at panes k ≡ Some pane → AreOpen (pane ∷ without k panes)
AreOpen-raised k panes pane are found =
    (found_low k panes pane are found, subst (λ n. pane_at (without k panes) n ≡ None) (sym (found_name k panes pane found)) (pane_at-without_self k panes), AreOpen-without k panes are)

held_raised : (holder : Option ℕ) (k : ℕ) (panes : List Pane) (pane : Pane) → pane_at panes k ≡ Some pane → IfSome holder (λ j. is_some (pane_at panes j) ≡ true)
    → IfSome holder (λ j. is_some (pane_at (pane ∷ without k panes) j) ≡ true)
held_raised None k panes pane found held = tt
held_raised (Some j) k panes pane found held = elim (cases_eq pane.k j) [
  | inl e ↦ rw (eq-eqb pane.k j e) refl
  | inr e ↦ rw (ne_eqb pane.k j e, pane_at-without_other j k panes (λ same. e (found_name k panes pane found ∙ sym same))) held
]

pub stack_raised : (holder : Option ℕ) (k : ℕ) (panes : List Pane) (pane : Pane) → pane_at panes k ≡ Some pane → IsStack (record { panes = panes; holder = holder })
    → IsStack (record { panes = pane ∷ without k panes; holder = holder })
stack_raised holder k panes pane found is = record { once = AreOpen-raised k panes pane is.once found; held = held_raised holder k panes pane found is.held }

held_closed : (holder : Option ℕ) (k : ℕ) (panes : List Pane) → IfSome holder (λ j. is_some (pane_at panes j) ≡ true)
    → IfSome (holder_without holder k) (λ j. is_some (pane_at (without k panes) j) ≡ true)
held_closed None k panes held = tt
held_closed (Some j) k panes held = elim (cases_eq j k) [
  | inl e ↦ rw (eq-eqb j k e) tt
  | inr e ↦ rw (ne_eqb j k e, pane_at-without_other j k panes e) held
]

pub stack_closed : (holder : Option ℕ) (k : ℕ) (panes : List Pane) → IsStack (record { panes = panes; holder = holder })
    → IsStack (record { panes = without k panes; holder = holder_without holder k })
stack_closed holder k panes is = record { once = AreOpen-without k panes is.once; held = held_closed holder k panes is.held }

held_placed : (holder : Option ℕ) (to : Pane) (panes : List Pane) → IfSome holder (λ j. is_some (pane_at panes j) ≡ true)
    → IfSome holder (λ j. is_some (pane_at (map (placed to) panes) j) ≡ true)
held_placed None to panes held = tt
held_placed (Some j) to panes held = is_some-placed j to panes ∙ held

pub stack_placed : (holder : Option ℕ) (to : Pane) (panes : List Pane) → IsStack (record { panes = panes; holder = holder })
    → IsStack (record { panes = map (placed to) panes; holder = holder })
stack_placed holder to panes is = record { once = AreOpen-placed to panes is.once; held = held_placed holder to panes is.held }

-- a window that holds a point is open
pub found_under : (x y : ℤ) (sizes : List (Option Size)) (panes : List Pane) → AreOpen panes → IfSome (pane_under x y sizes panes) (λ pane. (pane.k ≤ max_pane) × (is_some (pane_at panes pane.k) ≡ true))
found_under x y sizes [] are = tt
found_under x y sizes (first ∷ panes) are = elim (cases_Bool (is_under x y sizes first)) [
  | inl e ↦ rw e (are.0, rw (eq-eqb first.k first.k refl) refl)
  | inr e ↦ rw e (later (pane_under x y sizes panes) (found_under x y sizes panes are.2))
]
  where
    later : (found : Option Pane) → IfSome found (λ pane. (pane.k ≤ max_pane) × (is_some (pane_at panes pane.k) ≡ true))
        → IfSome found (λ pane. (pane.k ≤ max_pane) × (is_some (pane_at (first ∷ panes) pane.k) ≡ true))
    later None h = tt
    later (Some pane) h = (h.0, elim (cases_Bool (first.k == pane.k)) [ inl e ↦ rw e refl | inr e ↦ rw e h.1 ])

-- the first of the windows from an index on, if that holds the point
pub under_first : (x y : ℤ) (sizes : List (Option Size)) (panes : List Pane) (index : ℕ) (other : Pane) → index < length panes → is_under x y sizes (get_or panes index other) ≡ true
    → pane_under x y sizes (drop index panes) ≡ Some (get_or panes index other)
under_first x y sizes panes index other within holds =
    ap (pane_under x y sizes) (drop_more panes index other within)
    ∙ (let first : pane_under x y sizes (get_or panes index other ∷ drop (index + 1) panes) ≡ Some (get_or panes index other) = rw holds refl in first)

-- all stay where there is no such window
without-absent : (k : ℕ) (panes : List Pane) → pane_at panes k ≡ None → without k panes ≡ panes
without-absent k [] none = refl
without-absent k (pane ∷ panes) none = elim (cases_Bool (pane.k == k)) [
  | inl e ↦ absurd (let none = rw e at none in cc)
  | inr e ↦ let none = rw e at none in rw e (ap (λ (l : List Pane). pane ∷ l) (without-absent k panes none))
]

-- where a window is, if it is there
abbrev pub place_in : ℕ → List Pane → ℕ
place_in k panes = position_or_len (λ (pane : Pane). pane.k == k) panes

place_later : (k : ℕ) (pane : Pane) (panes : List Pane) → (pane.k == k) ≡ false → place_in k (pane ∷ panes) ≡ suc (place_in k panes)
place_later k pane panes e = rw e (one_more (place_in k panes))
  where
    one_more : (n : ℕ) → 1 + n ≡ suc n
    one_more n = omega arith

without_later : (k : ℕ) (pane : Pane) (panes : List Pane) → (pane.k == k) ≡ false → without k (pane ∷ panes) ≡ pane ∷ without k panes
without_later k pane panes e = rw e refl

remove-found : (k : ℕ) (panes : List Pane) → AreOpen panes → remove panes (place_in k panes) ≡ without k panes
remove-found k [] are = refl
remove-found k (pane ∷ panes) are = elim (cases_eq pane.k k) [
  | inl e ↦ rw (eq-eqb pane.k k e) (sym (without-absent k panes (subst (λ n. pane_at panes n ≡ None) e are.1)))
  | inr e ↦
      let other = ne_eqb pane.k k e in
      ap (remove (pane ∷ panes)) (place_later k pane panes other) ∙ ap (λ (l : List Pane). pane ∷ l) (remove-found k panes are.2) ∙ sym (without_later k pane panes other)
]

pub place_finds : (k : ℕ) (panes : List Pane) → slice_get panes (place_in k panes) ≡ pane_at panes k
place_finds k panes = sym (find_at (λ (pane : Pane). pane.k == k) panes)

-- what is left once a window is taken from its place
pub left_without : (k : ℕ) (old now : List Pane) (taken : Option Pane) (stays : Type 0) → AreOpen old → (stays → now ≡ old) → taken ≡ pane_at old k
    → OnSome taken (now ≡ remove old (place_in k old)) → IfNone taken stays → now ≡ without k old
left_without k old now (Some pane) stays are same found some none = some ∙ remove-found k old are
left_without k old now None stays are same found some none = same none ∙ sym (without-absent k old (sym found))
