-- The views of a list, one entry each, when the tree that the list is of is edited.
use Rattle.std.proofs.Common.{◌≡◌, ◌≢◌, ◌⊎◌, ℕ, zero, suc, ◌<◌, ◌≤◌, inl, inr, List, [], ◌∷◌, ◌++◌, length, get_or, refl, ◌∙◌, ap, arith}
use Rattle.std.proofs.lemmas.Bool.{cases_eq, eq-eqb, ne_eqb}
use Rattle.std.specs.List.{remove}
use Rattle.std.specs.Prelude.{◌==◌}
use Rattle.view_model.specs.Forest.{Forest, Nothing, Branch, EveryBranch, EveryRow, edited_where, changed_where, joined}
use Rattle.view_model.specs.PlainTree.{PlainView, grown, pruned}
use Rattle.view_model.specs.Cycles.{each, numbers_in}
use Rattle.view_tree.proofs.forest.ForestLaws.{times_in}
use Rattle.sibling_orders.specs.Ordering.{place_in}

-- a number among the views of a list
abbrev pub IsAmong : ℕ → Forest PlainView → Type 0
IsAmong number Nothing = ⊥
IsAmong number (Branch view below after) = (view.number ≡ number) ⊎ IsAmong number after

pub among_times : (number : ℕ) (list : Forest PlainView) → IsAmong number list → 0 < times_in number list
among_times number Nothing none = absurd none
among_times number (Branch view below after) (inl is) = rw (eq-eqb view.number number is) (omega arith)
among_times number (Branch view below after) (inr more) = let rest = among_times number after more in omega arith

pub among_or_not : (number : ℕ) (list : Forest PlainView) → IsAmong number list ⊎ (IsAmong number list → ⊥)
among_or_not number Nothing = inr (λ none. none)
among_or_not number (Branch view below after) =
    elim (cases_eq view.number number) [
      | inl is ↦ inl (inl is)
      | inr isnt ↦ elim (among_or_not number after) [
        | inl later ↦ inl (inr later)
        | inr nowhere ↦ inr (λ among. elim among [ inl is ↦ isnt is | inr later ↦ nowhere later ])
      ]
    ]

pub later : (number : ℕ) (view : PlainView) (below after : Forest PlainView) → IsAmong number (Branch view below after) → view.number ≢ number → IsAmong number after
later number view below after (inl is) isnt = absurd (isnt is)
later number view below after (inr more) isnt = more

-- an edit if there is no such view
pub edited_nowhere : (number : ℕ) (edit : PlainView → Forest PlainView → Forest PlainView → Forest PlainView) (tree : Forest PlainView) → times_in number tree ≡ 0
    → edited_where (λ (view : PlainView). view.number == number) edit tree ≡ tree
edited_nowhere number edit Nothing none = refl
edited_nowhere number edit (Branch view below after) none =
    elim (cases_eq view.number number) [
      | inl is ↦ absurd (let own = among_times number (Branch view below after) (inl is) in omega arith)
      | inr isnt ↦ rw (ne_eqb view.number number isnt, edited_nowhere number edit below (omega arith), edited_nowhere number edit after (omega arith))
    ]

module _ {X : Type 0} (f : PlainView → X) where
  pub length-each : (list : Forest PlainView) → length (each f list) ≡ length (numbers_in list)
  length-each Nothing = refl
  length-each (Branch view below after) = ap suc (length-each after)

  pub each-joined : (list more : Forest PlainView) → each f (joined list more) ≡ each f list ++ each f more
  each-joined Nothing more = refl
  each-joined (Branch view below after) more = ap (λ rest. f view ∷ rest) (each-joined after more)

  -- what is added further below is no entry
  pub each-grown : (parent : ℕ) (new list : Forest PlainView) → each f (grown parent new list) ≡ each f list
  each-grown parent new Nothing = refl
  each-grown parent new (Branch view below after) =
      elim (cases_eq view.number parent) [
        | inl is ↦ rw (eq-eqb view.number parent is)
        | inr isnt ↦ rw (ne_eqb view.number parent isnt) (ap (λ rest. f view ∷ rest) (each-grown parent new after))
      ]

  -- the removal of a view takes its entry out
  pub each-pruned : (number : ℕ) (list : Forest PlainView) → IsAmong number list → each f (pruned number list) ≡ remove (each f list) (place_in number (numbers_in list))
  each-pruned number Nothing none = absurd none
  each-pruned number (Branch view below after) among =
      elim (cases_eq view.number number) [
        | inl is ↦ rw (eq-eqb view.number number is)
        | inr isnt ↦
            rw (ne_eqb view.number number isnt)
            (ap (λ rest. f view ∷ rest) (each-pruned number after (later number view below after among isnt))
            ∙ remove_on (f view) (each f after) (place_in number (numbers_in after)))
      ]
    where
      remove_on : (x : X) (xs : List X) (place : ℕ) → x ∷ remove xs place ≡ remove (x ∷ xs) (suc place)
      remove_on x xs place = refl

  pub each-pruned_below : (number : ℕ) (list : Forest PlainView) → (IsAmong number list → ⊥) → each f (pruned number list) ≡ each f list
  each-pruned_below number Nothing none = refl
  each-pruned_below number (Branch view below after) none =
      rw (ne_eqb view.number number (λ is. none (inl is))) (ap (λ rest. f view ∷ rest) (each-pruned_below number after (λ among. none (inr among))))

  -- a change that leaves what the entry reads
  pub each-changed : (number : ℕ) (change : PlainView → PlainView) (list : Forest PlainView) → EveryRow (λ (view : PlainView). view.number ≡ number → f (change view) ≡ f view) list
      → each f (changed_where (λ (view : PlainView). view.number == number) change list) ≡ each f list
  each-changed number change Nothing same = refl
  each-changed number change (Branch view below after) same =
      elim (cases_eq view.number number) [
        | inl is ↦ rw (eq-eqb view.number number is) (ap (λ first. first ∷ each f after) (same.0 is))
        | inr isnt ↦ rw (ne_eqb view.number number isnt) (ap (λ rest. f view ∷ rest) (each-changed number change after same.2))
      ]

  pub each-changed_below : (number : ℕ) (change : PlainView → PlainView) (list : Forest PlainView) → (IsAmong number list → ⊥)
      → each f (changed_where (λ (view : PlainView). view.number == number) change list) ≡ each f list
  each-changed_below number change Nothing none = refl
  each-changed_below number change (Branch view below after) none =
      rw (ne_eqb view.number number (λ is. none (inl is))) (ap (λ rest. f view ∷ rest) (each-changed_below number change after (λ among. none (inr among))))

-- a number that is among those of a list has its place there, and no other has
pub place_within : (number : ℕ) (list : Forest PlainView) → IsAmong number list → place_in number (numbers_in list) < length (numbers_in list)
place_within number Nothing none = absurd none
place_within number (Branch view below after) among =
    elim (cases_eq view.number number) [
      | inl is ↦ rw (eq-eqb view.number number is) (omega arith)
      | inr isnt ↦ rw (ne_eqb view.number number isnt) (let rest = place_within number after (later number view below after among isnt) in omega arith)
    ]

pub place_past : (number : ℕ) (list : Forest PlainView) → (IsAmong number list → ⊥) → length (numbers_in list) ≤ place_in number (numbers_in list)
place_past number Nothing none = omega arith
place_past number (Branch view below after) none =
    rw (ne_eqb view.number number (λ is. none (inl is))) (let rest = place_past number after (λ among. none (inr among)) in omega arith)

-- a place in a list is read alike, whatever is used for one that is not there
pub read_any : {X : Type 0} (list : List X) (place : ℕ) (one other : X) → place < length list → get_or list place one ≡ get_or list place other
read_any [] place one other small = absurd (omega arith)
read_any (first ∷ list) zero one other small = refl
read_any (first ∷ list) (suc place) one other small = read_any list place one other (omega arith)

pub every_by : {R : Type 0} (P Q : R → Forest R → Type 0) (tree : Forest R) → ((row : R) (below : Forest R) → P row below → Q row below) → EveryBranch P tree → EveryBranch Q tree
every_by P Q Nothing all every = tt
every_by P Q (Branch row below after) all every = (all row below every.0, every_by P Q below all every.1, every_by P Q after all every.2)

pub every_both : {R : Type 0} (P Q : R → Forest R → Type 0) (tree : Forest R) → EveryBranch P tree → EveryBranch Q tree → EveryBranch (λ row below. P row below × Q row below) tree
every_both P Q Nothing first second = tt
every_both P Q (Branch row below after) first second = ((first.0, second.0), every_both P Q below first.1 second.1, every_both P Q after first.2 second.2)

-- what holds of every row holds of every row of what is below each one
pub every_below : {R : Type 0} (P : R → Type 0) (tree : Forest R) → EveryRow P tree → EveryBranch (λ row below. P row × EveryRow P below) tree
every_below P Nothing every = tt
every_below P (Branch row below after) every = ((every.0, every.1), every_below P below every.1, every_below P after every.2)

-- no view has a number that is not there
pub apart : (number : ℕ) (tree : Forest PlainView) → times_in number tree ≡ 0 → EveryRow (λ (view : PlainView). view.number ≢ number) tree
apart number Nothing none = tt
apart number (Branch view below after) none = (
  λ is. let own = among_times number (Branch view below after) (inl is) in absurd (omega arith),
  apart number below (omega arith),
  apart number after (omega arith),
)
