-- Edits of trees by a test, and what they keep, whatever the rows are.
use Rattle.std.proofs.Common.{◌≡◌, ℕ, Bool, ◌∷◌, map, refl, ap, inl, inr}
use Rattle.std.proofs.lemmas.Bool.{cases_Bool}
use Rattle.std.proofs.lemmas.List.{map-append}
use Rattle.std.specs.Prelude.{◌==◌, if◌then◌else◌}
use Rattle.view_model.specs.Forest.{Forest, Nothing, Branch, EveryBranch, EveryRow, edited_where, grown_where, joined, map_rows, or_else, rows, sum_of}
use Rattle.view_model.specs.PlainTree.{PlainView}

-- how many views have a number
abbrev pub times_in : ℕ → Forest PlainView → ℕ
times_in number tree = sum_of (λ (view : PlainView). if view.number == number then 1 else 0) tree

-- what holds of every row of two lists, with what is below it, holds of every row of both together
pub every_branch-joined : {R : Type 0} (P : R → Forest R → Type 0) (list more : Forest R) → EveryBranch P list → EveryBranch P more → EveryBranch P (joined list more)
every_branch-joined P Nothing more every added = added
every_branch-joined P (Branch row below after) more every added = (every.0, every.1, every_branch-joined P after more every.2 added)

pub every-joined : {R : Type 0} (P : R → Type 0) (list more : Forest R) → EveryRow P list → EveryRow P more → EveryRow P (joined list more)
every-joined P list more every added = every_branch-joined (λ row below. P row) list more every added

-- what holds of every row still holds of every row after an edit that keeps it, at the edited row and above it
pub every_branch-edited : {R : Type 0} (P : R → Forest R → Type 0) (passes : R → Bool) (edit : R → Forest R → Forest R → Forest R)
    → ((row : R) (below after : Forest R) → P row below → EveryBranch P below → EveryBranch P after → EveryBranch P (edit row below after))
    → ((row : R) (below : Forest R) → P row below → P row (edited_where passes edit below))
    → (trees : Forest R) → EveryBranch P trees → EveryBranch P (edited_where passes edit trees)
every_branch-edited P passes edit keeps above Nothing every = tt
every_branch-edited P passes edit keeps above (Branch row below after) every =
    elim (cases_Bool (passes row)) [
      | inl e ↦ rw e (keeps row below after every.0 every.1 every.2)
      | inr e ↦ rw e (
        above row below every.0,
        every_branch-edited P passes edit keeps above below every.1,
        every_branch-edited P passes edit keeps above after every.2,
      )
    ]

pub every-edited : {R : Type 0} (P : R → Type 0) (passes : R → Bool) (edit : R → Forest R → Forest R → Forest R)
    → ((row : R) (below after : Forest R) → P row → EveryRow P below → EveryRow P after → EveryRow P (edit row below after))
    → (trees : Forest R) → EveryRow P trees → EveryRow P (edited_where passes edit trees)
every-edited P passes edit keeps trees every = every_branch-edited (λ row below. P row) passes edit keeps (λ row below own. own) trees every

-- the same trees with other rows
pub map_rows-joined : {R S : Type 0} (f : R → S) (list more : Forest R) → map_rows f (joined list more) ≡ joined (map_rows f list) (map_rows f more)
map_rows-joined f Nothing more = refl
map_rows-joined f (Branch row below after) more = rw (map_rows-joined f after more)

pub map_rows-or_else : {R S : Type 0} (f : R → S) (first second : Forest R) → map_rows f (or_else first second) ≡ or_else (map_rows f first) (map_rows f second)
map_rows-or_else f Nothing second = refl
map_rows-or_else f (Branch row below after) second = refl

pub rows-map : {R S : Type 0} (f : R → S) (tree : Forest R) → rows (map_rows f tree) ≡ map f (rows tree)
rows-map f Nothing = refl
rows-map f (Branch row kids siblings) = ap (λ more. f row ∷ more) (rw (rows-map f kids, rows-map f siblings, map-append f (rows kids) (rows siblings)))

-- an edit by a test is the edit by a test that agrees on every row
pub map_rows-edited : {R S : Type 0} (f : R → S) (passes : R → Bool) (test : S → Bool)
    (edit : R → Forest R → Forest R → Forest R) (other : S → Forest S → Forest S → Forest S)
    → ((row : R) (below after : Forest R) → map_rows f (edit row below after) ≡ other (f row) (map_rows f below) (map_rows f after))
    → (trees : Forest R) → EveryRow (λ row. test (f row) ≡ passes row) trees
    → map_rows f (edited_where passes edit trees) ≡ edited_where test other (map_rows f trees)
map_rows-edited f passes test edit other same Nothing agree = refl
map_rows-edited f passes test edit other same (Branch row below after) agree =
    elim (cases_Bool (passes row)) [
      | inl e ↦ rw (agree.0, e) (same row below after)
      | inr e ↦ rw (
        agree.0,
        e,
        map_rows-edited f passes test edit other same below agree.1,
        map_rows-edited f passes test edit other same after agree.2,
      )
    ]

-- lists one after the other
pub joined-nothing : {R : Type 0} (list : Forest R) → joined list Nothing ≡ list
joined-nothing Nothing = refl
joined-nothing (Branch row below after) = rw (joined-nothing after)

pub joined-assoc : {R : Type 0} (list more rest : Forest R) → joined (joined list more) rest ≡ joined list (joined more rest)
joined-assoc Nothing more rest = refl
joined-assoc (Branch row below after) more rest = rw (joined-assoc after more rest)

-- nothing is added below a row
pub grown_where-nothing : {R : Type 0} (passes : R → Bool) (trees : Forest R) → grown_where passes Nothing trees ≡ trees
grown_where-nothing passes Nothing = refl
grown_where-nothing passes (Branch row below after) =
    elim (cases_Bool (passes row)) [
      | inl e ↦ rw (e, joined-nothing below)
      | inr e ↦ rw (e, grown_where-nothing passes below, grown_where-nothing passes after)
    ]

-- trees are added below a row, and then more
pub grown_where-again : {R : Type 0} (passes : R → Bool) (first more trees : Forest R)
    → grown_where passes more (grown_where passes first trees) ≡ grown_where passes (joined first more) trees
grown_where-again passes first more Nothing = refl
grown_where-again passes first more (Branch row below after) =
    elim (cases_Bool (passes row)) [
      | inl e ↦ rw (e, e, joined-assoc below first more)
      | inr e ↦ rw (e, e, grown_where-again passes first more below, grown_where-again passes first more after)
    ]
