-- A tree of new views is consistent.
use Rattle.std.proofs.Common.{ℕ, ◌<◌, Option, [], refl, ap}
use Rattle.view_model.specs.Forest.{Forest}
use Rattle.view_tree.specs.declared.node.state.State.{State}
use Rattle.view_tree.specs.tree.Grafted.{Gained}
use Rattle.view_tree.specs.Rows.{Row, count_of_key}
use Rattle.view_tree.specs.Views.{Held, Views, held_of}
use Rattle.kept_views.specs.Kept.{IsKept, loose}
use Rattle.kept_views.proofs.edits.AroundEdits.{ClearedAt, IsCalm, cleared_each, reached_each}
use Rattle.kept_views.proofs.edits.Edits.{AllHidden, hidden_kept}

-- each view of a list needs no layout and is not marked
abbrev pub AllCalm : (ℕ → Held) → Forest Row → Type 0
AllCalm held list = (key : ℕ) → 0 < count_of_key key list → IsCalm (held key)

-- views that are forced, have no bounds and have empty caches, whatever was there before
pub new_tree : (held : ℕ → Held) (tree : Forest Row) → AllHidden held tree → AllCalm held tree → IsKept held tree
new_tree held tree all calm =
    let clear : (key : ℕ) → 0 < count_of_key key tree → ClearedAt (held key) = λ key here forced. (all key here).cache in
    record { kept = hidden_kept [] held loose tree all (λ shown. refl); reached = reached_each held tree calm; cleared = cleared_each held tree clear }

-- so are the added ones
pub came_hidden : (old new : Views) (parent : Option ℕ) (added : Forest Row) → Gained old parent added new → AllHidden (held_of new) added
came_hidden old new parent added came = λ key here. record {
  forced = ap (λ (state : State). state.forced) (came.made key here);
  bounds = ap (λ (state : State). state.bounds) (came.made key here);
  cache = came.bare key here;
}

pub came_calm : (old new : Views) (parent : Option ℕ) (added : Forest Row) → Gained old parent added new → AllCalm (held_of new) added
came_calm old new parent added came = λ key here. record {
  needed = ap (λ (state : State). state.layout_needed) (came.made key here);
  first = ap (λ (state : State). state.measure_first) (came.made key here);
}
