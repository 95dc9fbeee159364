-- Which siblings rules may name while the orders of before stay right.
use Rattle.std.specs.Prelude.{◌≡◌, ◌⊎◌, ℕ, ◌<◌, false, List, slice_index}
use Rattle.sibling_orders.specs.Staying.{IsBefore}
use Rattle.view_model.specs.declared.relative.Axis.TheVariants.{Horizontal, Vertical}
use Rattle.view_model.specs.Forest.{Forest, Nothing, Branch}
use Rattle.view_model.specs.SiblingRules.{names}
use Rattle.view_tree.specs.Rows.{Row}

-- each view of a list that has this id comes before that of a number
abbrev pub AreBefore : ℕ → ℕ → List ℕ → List ℕ → Forest Row → Type 0
AreBefore id number numbers order Nothing = Unit {0}
AreBefore id number numbers order (Branch row kids siblings) =
    (row.view.facts.id ≡ id → IsBefore row.view.number number numbers order)
    × AreBefore id number numbers order siblings

-- an id is 0 or the one of before, or all views of a list that have it come before that of a number
abbrev pub MayName : ℕ → ℕ → ℕ → List ℕ → List ℕ → Forest Row → Type 0
MayName before id number numbers order list = (id ≡ 0) ⊎ (id ≡ before) ⊎ AreBefore id number numbers order list

-- so are all ids of the second list, by those of the first
abbrev pub MayNameAll : List ℕ → List ℕ → ℕ → List ℕ → List ℕ → Forest Row → Type 0
MayNameAll before after number numbers order list =
    (k : ℕ) → k < 8 → MayName (slice_index before k) (slice_index after k) number numbers order list

-- no view of a list names this id, on either axis
abbrev pub NamesNone : ℕ → Forest Row → Type 0
NamesNone id Nothing = Unit {0}
NamesNone id (Branch row kids siblings) =
    (names Horizontal row.view.facts.rules id ≡ false) × (names Vertical row.view.facts.rules id ≡ false)
    × NamesNone id siblings
