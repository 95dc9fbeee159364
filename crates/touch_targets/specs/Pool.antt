-- How the pool represents the open views.
use Rattle.std.specs.Prelude.{ℕ, ◌≡◌, ◌≤◌, nat_eq, Bool, List, [], Option, Some, None, is_some, map, length, count_by}
use Rattle.std.specs.Option.{option_flatten}
use Rattle.slab.specs.Slab.{Slab, get, slab_len}
use Rattle.slab_link.specs.Numbers.{links_end}
use Rattle.indexmap.specs.IndexMap.{IndexMap, get as get_key}
use Rattle.touch_targets.specs.Nodes.{AreLinked, caught_by, view_of}
use Rattle.touch_targets.specs.Seats.{Caught, Seat}
use Rattle.touch_targets.specs.declared.node.Node.{Node}

-- what the group at a slot has captured; nothing if it has no node
abbrev pub caught_from : Slab Node → Option ℕ → List Caught
caught_from nodes None = []
caught_from nodes (Some slot) = caught_by nodes slot

-- a view with what it has captured
abbrev pub seat_at : Slab Node → ℕ × Option ℕ → Seat
seat_at nodes entry = record { view = entry.0; caught = caught_from nodes entry.1 }

-- the view of an entry has a node
abbrev pub has_node : ℕ × Option ℕ → Bool
has_node entry = is_some entry.1

module _ {S : Type 0} where
  abbrev pub seats_in : Slab Node → IndexMap ℕ (Option ℕ) S → List Seat
  seats_in nodes slots = map (seat_at nodes) slots.entries

  -- the slot of a view's node, if the view is open and has one
  abbrev pub slot_in : IndexMap ℕ (Option ℕ) S → ℕ → Option ℕ
  slot_in slots view = option_flatten (get_key nat_eq slots view)

  -- targets are linked, a node has one open view, and each open view has one or room for it, where links can name it
  pub record IsSoundPool (nodes : Slab Node) (slots : IndexMap ℕ (Option ℕ) S) : Type 0 where
    pub linked : AreLinked nodes
    pub named : (view slot : ℕ) → slot_in slots view ≡ Some slot → view_of (get nodes slot) ≡ Some view
    pub found : (slot : ℕ) (node : Node) → get nodes slot ≡ Some node → slot_in slots node.view ≡ Some slot
    pub counted : slab_len nodes ≤ count_by has_node slots.entries
    pub room : length slots.entries ≤ nodes.capacity
    pub small : nodes.capacity ≤ links_end
