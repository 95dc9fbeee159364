-- What is kept with views once a state is restored: each that it gives something has it, and asks for layout.
use Rattle.std.specs.Prelude.{◌≡◌, ℕ, ◌==◌, ℤ, pos, Bool, true, false, if◌then◌else◌, is_some, List, [], ◌∷◌, ◌++◌}
use Rattle.std.specs.Prelude.{Option, Some, None}
use Rattle.kept_views.specs.Pressing.{path_of}
use Rattle.saved_state.specs.Restoring.{given}
use Rattle.saved_state.specs.State.{StateEntry}
use Rattle.saved_state.specs.declared.value.Value.{Value}
use Rattle.saved_state.specs.declared.value.Value.TheVariants.{Offset, Text}
use Rattle.view_model.specs.Forest.{Forest, map_rows, rows}
use Rattle.view_model.specs.PlainTree.{PlainView}
use Rattle.view_tree.specs.tree.Requests.{among, asking, pressed}
use Rattle.view_tree.specs.Rows.{Row, changed_at_key, head_view, part_from}
use Rattle.view_tree.specs.Views.{Held, Views}

-- what a state gives the view of a key, if it gives it something
abbrev pub wanted : List StateEntry → Forest Row → ℕ → Option Value
wanted entries tree key = given entries (head_view (part_from key tree))

-- the keys of those views of a list that are given something
abbrev pub given_keys : List StateEntry → Forest Row → List Row → List ℕ
given_keys entries tree [] = []
given_keys entries tree (row ∷ more) =
    if is_some (wanted entries tree row.key) then row.key ∷ given_keys entries tree more
    else given_keys entries tree more

-- the keys of the views of a tree, in preorder, whose offset or text a state sets
abbrev pub set_by : List StateEntry → Forest Row → List ℕ
set_by entries tree = given_keys entries tree (rows tree)

-- the value that the view of a key is given, if it is given one
abbrev pub paired : ℕ → Option Value → List (ℕ × Value)
paired key None = []
paired key (Some value) = (key, value) ∷ []

-- what the views of a list are given, by their keys
abbrev pub given_values : List StateEntry → Forest Row → List Row → List (ℕ × Value)
given_values entries tree [] = []
given_values entries tree (row ∷ more) = paired row.key (wanted entries tree row.key) ++ given_values entries tree more

-- whether a view is one of these, or is above one of them
abbrev pub on_paths : ℕ → List ℕ → Forest Row → Bool
on_paths key [] tree = false
on_paths key (view ∷ views) tree = if among key (path_of view tree) then true else on_paths key views tree

-- one view has another offset
abbrev pub moved_one : ℕ → ℤ → (ℕ → Held) → ℕ → Held
moved_one view offset held key = if key == view then record (held key) { offset = offset } else held key

-- a view asks for layout
abbrev pub asked_held : ℕ → Forest Row → (ℕ → Held) → ℕ → Held
asked_held view tree held = pressed held (asking held view tree)

-- a view that is given something asks for layout, and an offset is set; one that is given nothing stays as it is
abbrev pub given_held : Option Value → ℕ → Forest Row → (ℕ → Held) → ℕ → Held
given_held None view tree held = held
given_held (Some (Offset offset)) view tree held = asked_held view tree (moved_one view (pos offset) held)
given_held (Some (Text text)) view tree held = asked_held view tree held

-- so do these views, one after the other
abbrev pub all_given : List StateEntry → Forest Row → List ℕ → (ℕ → Held) → ℕ → Held
all_given entries tree [] held = held
all_given entries tree (view ∷ views) held =
    all_given entries tree views (given_held (wanted entries tree view) view tree held)

-- so do the views of these keys, each with its value
abbrev pub all_set : Forest Row → List (ℕ × Value) → (ℕ → Held) → ℕ → Held
all_set tree [] held = held
all_set tree (set ∷ more) held = all_set tree more (given_held (Some set.1) set.0 tree held)

-- a view with the text that it is given
abbrev pub with_text_of : Option Value → PlainView → PlainView
with_text_of None view = view
with_text_of (Some (Offset offset)) view = view
with_text_of (Some (Text text)) view = record view { text = text }

-- the rows of a tree, of which one has the text that it is given
abbrev pub with_text_at : Forest Row → ℕ × Value → Forest Row
with_text_at tree set = changed_at_key set.0 (with_text_of (Some set.1)) tree

-- the rows of a tree with the texts that a state gives; their offsets are kept beside them
abbrev pub restated : List StateEntry → Forest Row → Forest Row
restated entries tree =
    map_rows (λ (row : Row). record row { view = with_text_of (given entries row.view) row.view }) tree

-- a tree has the texts that a state gives, and is the same otherwise
pub record Restates (entries : List StateEntry) (old new : Views) : Type 0 where
  pub tree : new.tree ≡ restated entries old.tree
  pub orders : new.orders ≡ old.orders
  pub next : new.next ≡ old.next
