-- How often a number occurs in a plain tree, in its parts, and in what edits make of it.
use Rattle.std.proofs.Common.{◌≡◌, ℕ, suc, ◌+◌, ◌<◌, ◌≤◌, Bool, false, List, [], ◌∷◌, ◌++◌, map, refl, sym, ◌∙◌, ap, arith, eqb-true, inl, inr}
use Rattle.std.proofs.lemmas.Bool.{cases_Bool, eq-eqb}
use Rattle.std.specs.List.{list_any}
use Rattle.std.specs.Prelude.{◌==◌}
use Rattle.view_model.specs.Forest.{Forest, Nothing, Branch, count_of, joined, or_else, rows}
use Rattle.view_model.specs.PlainTree.{PlainView, grown, numbers_of, part_of, pruned}
use Rattle.view_model.specs.Sprouts.{Seed, numbered}
use Rattle.view_tree.proofs.forest.ForestLaws.{times_in}
use Rattle.view_tree.proofs.forest.KeyLaws.{zero_or_more}

-- a number that does not occur has no part
pub part_none : (number : ℕ) (tree : Forest PlainView) → times_in number tree ≡ 0 → part_of number tree ≡ Nothing
part_none number Nothing none = refl
part_none number (Branch view below after) none =
    elim (cases_Bool (view.number == number)) [
      | inl e ↦ absurd (let none = rw e at none in omega arith)
      | inr e ↦ rw (e, part_none number below (omega arith), part_none number after (omega arith)) refl
    ]

-- and one that occurs has
pub record PartFound (number : ℕ) (tree : Forest PlainView) : Type 0 where
  pub view : PlainView
  pub below : Forest PlainView
  pub is : part_of number tree ≡ Branch view below Nothing

pub part_found : (number : ℕ) (tree : Forest PlainView) → 0 < times_in number tree → PartFound number tree
part_found number Nothing there = absurd (omega arith)
part_found number (Branch view below after) there =
    elim (cases_Bool (view.number == number)) [
      | inl e ↦ record { view = view; below = below; is = rw e refl }
      | inr e ↦
          let more : 0 < 0 + (times_in number below + times_in number after) = rw e at there in
          elim (zero_or_more (times_in number below)) [
            | inl z ↦ following view below after e z (part_found number after (omega arith))
            | inr l ↦ under view below after e (part_found number below l)
          ]
    ]
  where
    following : (view : PlainView) (below after : Forest PlainView) → (view.number == number) ≡ false → times_in number below ≡ 0 → PartFound number after → PartFound number (Branch view below after)
    following view below after e none f = record { view = f.view; below = f.below; is = rw (e, part_none number below none) f.is }

    under : (view : PlainView) (below after : Forest PlainView) → (view.number == number) ≡ false → PartFound number below → PartFound number (Branch view below after)
    under view below after e f = record { view = f.view; below = f.below; is = rw (e, f.is) refl }

pub part_first : (number : ℕ) (tree other : Forest PlainView) → 0 < times_in number tree → or_else (part_of number tree) other ≡ part_of number tree
part_first number tree other there = let f = part_found number tree there in rw f.is refl

-- what is no part of either of two lists
pub record IsApart (other number : ℕ) (below after : Forest PlainView) : Type 0 where
  pub first : times_in other (part_of number below) ≡ 0
  pub second : times_in other (part_of number after) ≡ 0

pub apart : (other number : ℕ) (below after : Forest PlainView) → times_in number below + times_in number after ≤ 1
    → times_in other (or_else (part_of number below) (part_of number after)) ≡ 0 → IsApart other number below after
apart other number below after once none =
    elim (zero_or_more (times_in number below)) [
      | inl z ↦
          let nothing = part_none number below z in
          let none : times_in other (part_of number after) ≡ 0 = rw nothing at none in
          record { first = rw nothing refl; second = none }
      | inr l ↦
          let nothing = part_none number after (omega arith) in
          record { first = sym (ap (times_in other) (part_first number below (part_of number after) l)) ∙ none; second = rw nothing refl }
    ]

-- what is joined, grown or pruned
pub times-joined : (number : ℕ) (list more : Forest PlainView) → times_in number (joined list more) ≡ times_in number list + times_in number more
times-joined number Nothing more = omega arith
times-joined number (Branch view below after) more = let i = times-joined number after more in omega arith

pub part-joined : (number : ℕ) (list more : Forest PlainView) → times_in number more ≡ 0 → part_of number (joined list more) ≡ part_of number list
part-joined number Nothing more none = part_none number more none
part-joined number (Branch view below after) more none =
    elim (cases_Bool (view.number == number)) [
      | inl e ↦ rw e refl
      | inr e ↦ rw e (ap (or_else (part_of number below)) (part-joined number after more none))
    ]

pub times_grown_none : (number parent : ℕ) (new tree : Forest PlainView) → times_in number new ≡ 0 → times_in number tree ≡ 0 → times_in number (grown parent new tree) ≡ 0
times_grown_none number parent new Nothing none before = refl
times_grown_none number parent new (Branch view below after) none before =
    elim (cases_Bool (view.number == parent)) [
      | inl e ↦ let more = times-joined number below new in rw e (omega arith)
      | inr e ↦
          let first = times_grown_none number parent new below none (omega arith) in
          let second = times_grown_none number parent new after none (omega arith) in
          rw e (omega arith)
    ]

pub times-pruned : (other number : ℕ) (tree : Forest PlainView) → times_in number tree ≤ 1 → times_in other (pruned number tree) + times_in other (part_of number tree) ≡ times_in other tree
times-pruned other number Nothing once = refl
times-pruned other number (Branch view below after) once =
    elim (cases_Bool (view.number == number)) [
      | inl e ↦ rw e (omega arith)
      | inr e ↦
          let once : 0 + (times_in number below + times_in number after) ≤ 1 = rw e at once in
          let first = times-pruned other number below (omega arith) in
          let second = times-pruned other number after (omega arith) in
          elim (zero_or_more (times_in number below)) [
            | inl z ↦ let nothing = part_none number below z in let first = rw nothing at first in rw (e, nothing) (omega arith)
            | inr l ↦
                let nothing = part_none number after (omega arith) in
                let second = rw nothing at second in
                let whole = ap (times_in other) (part_first number below (part_of number after) l) in
                rw e (omega arith)
          ]
    ]

-- the numbers of new views are the next ones
pub numbered_within : (number first : ℕ) (seeds : Forest Seed) → 0 < times_in number (numbered first seeds) → (first ≤ number) × (number < first + count_of seeds)
numbered_within number first Nothing there = absurd (omega arith)
numbered_within number first (Branch seed below after) there =
    elim (cases_Bool (first == number)) [
      | inl e ↦ let own : first ≡ number = eqb-true _ _ e in (omega arith, omega arith)
      | inr e ↦
          let more : 0 < 0 + (times_in number (numbered (suc first) below) + times_in number (numbered (suc first + count_of below) after)) = rw e at there in
          elim (zero_or_more (times_in number (numbered (suc first) below))) [
            | inl z ↦ let i = numbered_within number (suc first + count_of below) after (omega arith) in let least = i.0 in let most = i.1 in (omega arith, omega arith)
            | inr l ↦ let i = numbered_within number (suc first) below l in let least = i.0 in let most = i.1 in (omega arith, omega arith)
          ]
    ]

-- a number that is none of the numbers of a tree
none_both : (test : ℕ → Bool) (first second : List PlainView) → list_any test (map (λ (view : PlainView). view.number) (first ++ second)) ≡ false
    → (list_any test (map (λ (view : PlainView). view.number) first) ≡ false) × (list_any test (map (λ (view : PlainView). view.number) second) ≡ false)
none_both test [] second none = (refl, none)
none_both test (view ∷ first) second none =
    elim (cases_Bool (test view.number)) [
      | inl e ↦ absurd (let none = rw e at none in cc)
      | inr e ↦ let i = none_both test first second (rw e at none) in (rw e i.0, i.1)
    ]

pub none_numbered : (number : ℕ) (tree : Forest PlainView) → list_any (λ own. number == own) (numbers_of tree) ≡ false → times_in number tree ≡ 0
none_numbered number Nothing none = refl
none_numbered number (Branch view below after) none =
    elim (cases_Bool (number == view.number)) [
      | inl e ↦ absurd (let none = rw e at none in cc)
      | inr e ↦
          let both = none_both (λ own. number == own) (rows below) (rows after) (rw e at none) in
          elim (cases_Bool (view.number == number)) [
            | inl f ↦ absurd (let same = eq-eqb number view.number (sym (eqb-true _ _ f)) in cc)
            | inr f ↦ rw (f, none_numbered number below both.0, none_numbered number after both.1) refl
          ]
    ]
