-- A list of siblings from the last to the first.
use Rattle.std.proofs.Common.{◌≡◌, ◌≢◌, ℕ, ◌<◌, ◌≤◌, Option, Some, None, refl, ◌∙◌, arith, ◌⊎◌, inl, inr}
use Rattle.std.proofs.lemmas.Bool.{cases_eq, eq-eqb, ne_eqb}
use Rattle.view_model.specs.Forest.{Forest, Nothing, Branch, count_of}
use Rattle.view_tree.specs.Rows.{At_first, Later, Later_on, Row, part_from, last_key, last_key_or, previous_key, count_of_key, children_of_first}
use Rattle.view_tree.proofs.forest.KeyLaws.{Within, here, in_after, in_below, from_within, located, count_of_key-within, times_self}

pub count_of_key-later : {rest list : Forest Row} (key : ℕ) → Later rest list → count_of_key key rest ≤ count_of_key key list
count_of_key-later key At_first = omega arith
count_of_key-later key (Later_on l) = let h = count_of_key-later key l in omega arith

pub count-later : {rest list : Forest Row} → Later rest list → count_of rest ≤ count_of list
count-later At_first = omega arith
count-later (Later_on l) = let h = count-later l in omega arith

pub later-within : {rest list : Forest Row} → Later rest list → Within rest list
later-within At_first = here
later-within (Later_on l) = in_after (later-within l)

-- a part of a part
pub within_within : {u v t : Forest Row} → Within u v → Within v t → Within u t
within_within w here = w
within_within w (in_below v) = in_below (within_within w v)
within_within w (in_after v) = in_after (within_within w v)

-- the children of a view are a part of the tree
pub kids-within : (key : ℕ) (tree : Forest Row) → 0 < count_of_key key tree → Within (children_of_first (part_from key tree)) tree
kids-within key tree live =
    let f = located key tree live in
    rw f.is (within_within (in_below {row = f.row} {kids = f.kids} {siblings = f.siblings} here) f.within)

-- the rest of a list of children is the part from its first key
pub from_later : (tree list : Forest Row) (row : Row) (kids siblings : Forest Row) → ((key : ℕ) → count_of_key key tree ≤ 1) → Within list tree
    → Later (Branch row kids siblings) list → part_from row.key tree ≡ Branch row kids siblings
from_later tree list row kids siblings once within l =
    from_within row kids siblings (within_within (later-within l) within) (once row.key)

-- the last of a list
pub record LastIs (list : Forest Row) (key : ℕ) : Type 0 where
  pub row : Row
  pub kids : Forest Row
  pub there : Later (Branch row kids Nothing) list
  pub key_is : row.key ≡ key

some_is : {x y : ℕ} → Some x ≡ Some y → x ≡ y
some_is e = cc

pub last_or_is : (q : Option ℕ) (row : Row) (kids siblings : Forest Row) (key : ℕ) → last_key_or q (Branch row kids siblings) ≡ Some key
    → LastIs (Branch row kids siblings) key
last_or_is q row kids Nothing key is = record { row = row; kids = kids; there = At_first; key_is = some_is is }
last_or_is q row kids (Branch r b a) key is =
    let l = last_or_is (Some row.key) r b a key is in
    record { row = l.row; kids = l.kids; there = Later_on l.there; key_is = l.key_is }

pub last_is : (list : Forest Row) (key : ℕ) → last_key list ≡ Some key → LastIs list key
last_is Nothing key is = absurd (cc)
last_is (Branch row kids siblings) key is = last_or_is None row kids siblings key is

last_some : (q : Option ℕ) (x : ℕ) (list : Forest Row) → q ≡ Some x → last_key_or q list ≢ None
last_some q x Nothing is none = cc
last_some q x (Branch row kids siblings) is none = last_some (Some row.key) row.key siblings refl none

pub last_none : (list : Forest Row) → last_key list ≡ None → list ≡ Nothing
last_none Nothing is = refl
last_none (Branch row kids siblings) is = absurd (last_some (Some row.key) row.key siblings refl is)

-- what comes right before the rest of a list: nothing, or a view
pub record BeforeIs (rest list : Forest Row) (found : Option ℕ) : Type 0 where
  pub row : Row
  pub kids : Forest Row
  pub there : Later (Branch row kids rest) list
  pub found_is : found ≡ Some row.key

pub previous_in : (row : Row) (kids siblings : Forest Row) {list : Forest Row} (q : Option ℕ) → Later (Branch row kids siblings) list
    → ((key : ℕ) → count_of_key key list ≤ 1)
    → ((previous_key q row.key list ≡ q) × (Branch row kids siblings ≡ list)) ⊎ BeforeIs (Branch row kids siblings) list (previous_key q row.key list)
previous_in row kids siblings q At_first once = inl (rw (eq-eqb row.key row.key refl) refl, refl)
previous_in row kids siblings q (Later_on {row = r} {kids = b} {siblings = a} l) once =
    let there = count_of_key-later row.key l in
    let one = once row.key in
    let self = times_self row kids siblings in
    elim (cases_eq r.key row.key) [
      | inl e ↦ absurd (let one = rw (eq-eqb r.key row.key e) at one in omega arith)
      | inr ne ↦
          let one = rw (ne_eqb r.key row.key ne) at one in
          let none : count_of_key row.key b ≡ 0 = omega arith in
          let step : previous_key q row.key (Branch r b a) ≡ previous_key (Some r.key) row.key a = rw (ne_eqb r.key row.key ne, none) refl in
          elim (previous_in row kids siblings (Some r.key) l (λ key. let h = once key in omega arith)) [
            | inl p ↦ inr (record { row = r; kids = b; there = rw p.1 At_first; found_is = step ∙ p.0 })
            | inr p ↦ inr (record { row = p.row; kids = p.kids; there = Later_on p.there; found_is = step ∙ p.found_is })
          ]
    ]

-- a child's sibling before it is looked for among the children alone
pub previous_within : (key : ℕ) (row : Row) (kids siblings : Forest Row) {tree : Forest Row} (q : Option ℕ) → Within (Branch row kids siblings) tree
    → ((key : ℕ) → count_of_key key tree ≤ 1) → 0 < count_of_key key kids → previous_key q key tree ≡ previous_key None key kids
previous_within key row kids siblings q here once there =
    let one = once key in
    elim (cases_eq row.key key) [
      | inl e ↦ absurd (let one = rw (eq-eqb row.key key e) at one in omega arith)
      | inr ne ↦ let some : count_of_key key kids ≢ 0 = omega arith in rw (ne_eqb row.key key ne, ne_eqb (count_of_key key kids) 0 some) refl
    ]
previous_within key row kids siblings q (in_below {row = r} {kids = b} {siblings = a} w) once there =
    let one = once key in
    let inner = count_of_key-within key w in
    elim (cases_eq r.key key) [
      | inl e ↦ absurd (let one = rw (eq-eqb r.key key e) at one in omega arith)
      | inr ne ↦
          let some : count_of_key key b ≢ 0 = omega arith in
          rw (ne_eqb r.key key ne, ne_eqb (count_of_key key b) 0 some) (previous_within key row kids siblings None w (λ key. let h = once key in omega arith) there)
    ]
previous_within key row kids siblings q (in_after {row = r} {kids = b} {siblings = a} w) once there =
    let one = once key in
    let inner = count_of_key-within key w in
    elim (cases_eq r.key key) [
      | inl e ↦ absurd (let one = rw (eq-eqb r.key key e) at one in omega arith)
      | inr ne ↦
          let one = rw (ne_eqb r.key key ne) at one in
          let none : count_of_key key b ≡ 0 = omega arith in
          rw (ne_eqb r.key key ne, none) (previous_within key row kids siblings (Some r.key) w (λ key. let h = once key in omega arith) there)
    ]
