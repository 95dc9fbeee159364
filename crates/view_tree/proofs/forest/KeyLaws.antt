-- Trees of keyed views: where a key is, and which number it represents.
use Rattle.std.proofs.Common.{◌≡◌, ℕ, zero, suc, ◌+◌, ◌<◌, ◌≤◌, true, false, refl, sym, ◌∙◌, arith, eqb-true, ◌⊎◌, inl, inr}
use Rattle.std.proofs.lemmas.Bool.{eq-eqb, cases_Bool}
use Rattle.std.specs.Prelude.{◌==◌, if◌then◌else◌}
use Rattle.view_model.specs.Forest.{Forest, Nothing, Branch, EveryRow, or_else}
use Rattle.view_tree.specs.Rows.{Row, part_from, head_view, count_of_key, count_of_number}

pub zero_or_more : (n : ℕ) → (n ≡ 0) ⊎ (0 < n)
zero_or_more zero = inl refl
zero_or_more (suc n) = inr (omega arith)

-- a view has its key and its number
pub times_self : (row : Row) (kids siblings : Forest Row) → 0 < count_of_key row.key (Branch row kids siblings)
times_self row kids siblings = rw (eq-eqb row.key row.key refl) (omega arith)

pub own_more : (row : Row) (kids siblings : Forest Row) (key : ℕ) → row.key ≡ key → count_of_key key kids + count_of_key key siblings < count_of_key key (Branch row kids siblings)
own_more row kids siblings key e = rw (eq-eqb row.key key e) (omega arith)

pub other_key : (k : ℕ) (row : Row) (kids siblings : Forest Row) → count_of_key k (Branch row kids siblings) ≤ 1 → 0 < count_of_key k kids + count_of_key k siblings → row.key ≡ k → ⊥
other_key k row kids siblings once h e = let o : (if row.key == k then 1 else 0) + (count_of_key k kids + count_of_key k siblings) ≤ 1 = once in
    let p = rw (eq-eqb row.key k e) at o in absurd (omega arith)

pub number_self : (row : Row) (kids siblings : Forest Row) → 0 < count_of_number row.view.number (Branch row kids siblings)
number_self row kids siblings = rw (eq-eqb row.view.number row.view.number refl) (omega arith)

-- if no view has the key, there is no part from it on
pub absent : (key : ℕ) (tree : Forest Row) → count_of_key key tree ≡ 0 → part_from key tree ≡ Nothing
absent key Nothing none = refl
absent key (Branch row kids siblings) none =
    elim (row.key == key) as (λ v. (if v then 1 else 0) + (count_of_key key kids + count_of_key key siblings) ≡ 0
    → (if v then Branch row kids siblings else or_else (part_from key kids) (part_from key siblings)) ≡ Nothing) [
      | true ↦ λ none. absurd (omega arith)
      | false ↦ λ none. rw (absent key kids (omega arith)) (absent key siblings (omega arith))
    ] none

-- a part of a list of trees: from one of its views on
pub data Within (part : Forest Row) : Forest Row → Type 0 where
  here : Within part part
  in_below : {row : Row} {kids siblings : Forest Row} → Within part kids → Within part (Branch row kids siblings)
  in_after : {row : Row} {kids siblings : Forest Row} → Within part siblings → Within part (Branch row kids siblings)

pub count_of_key-within : {part tree : Forest Row} (key : ℕ) → Within part tree → count_of_key key part ≤ count_of_key key tree
count_of_key-within key here = omega arith
count_of_key-within key (in_below w) = let h = count_of_key-within key w in omega arith
count_of_key-within key (in_after w) = let h = count_of_key-within key w in omega arith

pub number-within : {part tree : Forest Row} (number : ℕ) → Within part tree → count_of_number number part ≤ count_of_number number tree
number-within number here = omega arith
number-within number (in_below w) = let h = number-within number w in omega arith
number-within number (in_after w) = let h = number-within number w in omega arith

-- the part that begins with a key
pub record Located (key : ℕ) (tree : Forest Row) : Type 0 where
  pub row : Row
  pub kids : Forest Row
  pub siblings : Forest Row
  pub is : part_from key tree ≡ Branch row kids siblings
  pub key_is : row.key ≡ key
  pub within : Within (Branch row kids siblings) tree

pub located : (key : ℕ) (tree : Forest Row) → 0 < count_of_key key tree → Located key tree
located key Nothing live = absurd (omega arith)
located key (Branch row kids siblings) live =
    elim (row.key == key) as (λ v. (row.key == key) ≡ v → 0 < (if v then 1 else 0) + (count_of_key key kids + count_of_key key siblings) → Located key (Branch row kids siblings)) [
      | true ↦ λ e live. record { row = row; kids = kids; siblings = siblings; is = rw e; key_is = eqb-true _ _ e; within = here }
      | false ↦ λ e live. elim (zero_or_more (count_of_key key kids)) [
        | inl z ↦ let f = located key siblings (omega arith) in
            record { row = f.row; kids = f.kids; siblings = f.siblings; is = rw (e, absent key kids z) f.is; key_is = f.key_is; within = in_after f.within }
        | inr p ↦ let f = located key kids p in
            record { row = f.row; kids = f.kids; siblings = f.siblings; is = rw (e, f.is); key_is = f.key_is; within = in_below f.within }
      ]
    ] refl live

-- a part is the one that begins with its key
pub from_within : (row : Row) (kids siblings : Forest Row) {tree : Forest Row}
    → Within (Branch row kids siblings) tree → count_of_key row.key tree ≤ 1 → part_from row.key tree ≡ Branch row kids siblings
from_within row kids siblings here once = rw (eq-eqb row.key row.key refl)
from_within row kids siblings (in_below {row = r} {kids = b} {siblings = a} w) once =
    elim (r.key == row.key) as (λ v. (if v then 1 else 0) + (count_of_key row.key b + count_of_key row.key a) ≤ 1
    → (if v then Branch r b a else or_else (part_from row.key b) (part_from row.key a)) ≡ Branch row kids siblings) [
      | true ↦ λ once. let h = count_of_key-within row.key w in absurd (omega (arith, times_self row kids siblings))
      | false ↦ λ once. rw (from_within row kids siblings w (omega arith))
    ] once
from_within row kids siblings (in_after {row = r} {kids = b} {siblings = a} w) once =
    elim (r.key == row.key) as (λ v. (if v then 1 else 0) + (count_of_key row.key b + count_of_key row.key a) ≤ 1
    → (if v then Branch r b a else or_else (part_from row.key b) (part_from row.key a)) ≡ Branch row kids siblings) [
      | true ↦ λ once. let h = count_of_key-within row.key w in absurd (omega (arith, times_self row kids siblings))
      | false ↦ λ once.
          let h = count_of_key-within row.key w in
          let z : count_of_key row.key b ≡ 0 = omega (arith, times_self row kids siblings) in
          rw (absent row.key b z) (from_within row kids siblings w (omega arith))
    ] once

-- each view of a tree has the key exactly if it has the number
abbrev pub Agree : ℕ → ℕ → Forest Row → Type 0
Agree key number tree = EveryRow (λ (row : Row). (row.view.number == number) ≡ (row.key == key)) tree

-- the number of a view occurs
pub number_live : (key : ℕ) (tree : Forest Row) → 0 < count_of_key key tree → 0 < count_of_number (head_view (part_from key tree)).number tree
number_live key tree live =
    let f = located key tree live in
    let n = number-within f.row.view.number f.within in
    rw f.is (omega (arith, number_self f.row f.kids f.siblings))

-- if neither occurs, they agree
pub agree_absent : (key number : ℕ) (tree : Forest Row) → count_of_key key tree ≡ 0 → count_of_number number tree ≡ 0 → Agree key number tree
agree_absent key number Nothing k n = tt
agree_absent key number (Branch row kids siblings) k n = (
  elim (cases_Bool (row.key == key)) [
    | inl e ↦ absurd (let k = rw e at k in omega arith)
    | inr e ↦ elim (cases_Bool (row.view.number == number)) [
      | inl f ↦ absurd (let n = rw f at n in omega arith)
      | inr f ↦ f ∙ sym e
    ]
  ],
  agree_absent key number kids (omega arith) (omega arith),
  agree_absent key number siblings (omega arith) (omega arith),
)

-- agreement of a view that is not the first, from that of its children and of its later siblings
agreed_apart : (key number : ℕ) (row : Row) (kids siblings : Forest Row) → (row.key == key) ≡ false
    → 0 < count_of_key key kids + count_of_key key siblings → count_of_key key kids + count_of_key key siblings ≤ 1 → count_of_number number (Branch row kids siblings) ≤ 1
    → (head_view (or_else (part_from key kids) (part_from key siblings))).number ≡ number
    → (0 < count_of_key key kids → (head_view (part_from key kids)).number ≡ number → Agree key number kids)
    → (0 < count_of_key key siblings → (head_view (part_from key siblings)).number ≡ number → Agree key number siblings)
    → Agree key number (Branch row kids siblings)
agreed_apart key number row kids siblings e live once one is in_kids in_siblings =
    elim (zero_or_more (count_of_key key kids)) [
      | inl z ↦
          let l : 0 < count_of_key key siblings = omega arith in
          let head : (head_view (part_from key siblings)).number ≡ number = rw (absent key kids z) at is in
          let there : 0 < count_of_number number siblings = rw (← head) (number_live key siblings l) in (
            elim (cases_Bool (row.view.number == number)) [
              | inl f ↦ absurd (let one = rw f at one in omega arith)
              | inr f ↦ f ∙ sym e
            ],
            agree_absent key number kids z (omega arith),
            in_siblings l head,
          )
      | inr l ↦
          let found = located key kids l in
          let head : (head_view (part_from key kids)).number ≡ number = rw found.is (rw found.is at is) in
          let there : 0 < count_of_number number kids = rw (← head) (number_live key kids l) in (
            elim (cases_Bool (row.view.number == number)) [
              | inl f ↦ absurd (let one = rw f at one in omega arith)
              | inr f ↦ f ∙ sym e
            ],
            in_kids l head,
            agree_absent key number siblings (omega arith) (omega arith),
          )
    ]

-- a key that occurs once and a number that occurs once agree, if the number is that of the key
pub agreed : (key number : ℕ) (tree : Forest Row) → 0 < count_of_key key tree → count_of_key key tree ≤ 1 → count_of_number number tree ≤ 1
    → (head_view (part_from key tree)).number ≡ number → Agree key number tree
agreed key number Nothing live once one is = absurd (omega arith)
agreed key number (Branch row kids siblings) live once one is =
    elim (cases_Bool (row.key == key)) [
      | inl e ↦
          let once = rw e at once in
          let head = rw e at is in
          let f = eq-eqb row.view.number number head in
          let one = rw f at one in
          (f ∙ sym e, agree_absent key number kids (omega arith) (omega arith), agree_absent key number siblings (omega arith) (omega arith))
      | inr e ↦
          let live = rw e at live in
          let once = rw e at once in
          let head = rw e at is in
          agreed_apart key number row kids siblings e (omega arith) (omega arith) one head
          (λ l h. agreed key number kids l (omega arith) (omega arith) h)
          (λ l h. agreed key number siblings l (omega arith) (omega arith) h)
    ]

-- the part of a key among the children comes first
pub or_else_live : (key : ℕ) (list other : Forest Row) → 0 < count_of_key key list → or_else (part_from key list) other ≡ part_from key list
or_else_live key list other live = let f = located key list live in rw f.is
