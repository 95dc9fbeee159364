-- How the nodes of the pool represent what groups have captured.
use Rattle.std.specs.Prelude.{ℕ, zero, suc, ◌≡◌, ◌≢◌, ◌==◌, ◌<◌, ◌^◌, true, false, Bool, not, if◌then◌else◌, List, []}
use Rattle.std.specs.Prelude.{◌∷◌, ◌++◌, Option, Some, None, option_map, IsSome, length, map, filter}
use Rattle.std.specs.List.{last_or, list_any}
use Rattle.slab.specs.Slab.{Slab, get}
use Rattle.slab_link.specs.Numbers.{links_end}
use Rattle.touch_event.specs.Numbers.{max_pointers}
use Rattle.touch_targets.specs.Seats.{Caught, mask_without}
use Rattle.touch_targets.specs.declared.node.Node.{Node}

-- what a node holds, or none if there is no node
abbrev pub newest_of : Option Node → Option ℕ
newest_of None = None
newest_of (Some node) = node.newest

abbrev pub next_of : Option Node → Option ℕ
next_of None = None
next_of (Some node) = node.next

abbrev pub view_of : Option Node → Option ℕ
view_of None = None
view_of (Some node) = Some node.view

-- there is as much room for nodes as before
abbrev pub KeepsCapacity : Slab Node → Slab Node → Type 0
KeepsCapacity old new = new.capacity ≡ old.capacity

-- each node is there for the same view as before
abbrev pub KeepsViewOfEach : Slab Node → Slab Node → Type 0
KeepsViewOfEach old new = (slot : ℕ) → view_of (get new slot) ≡ view_of (get old slot)

-- a node as a captured child
abbrev pub caught_at : Option Node → Caught
caught_at None = record { child = 0; ids = 0 }
caught_at (Some node) = record { child = node.view; ids = node.ids }

-- the slots from one on, along the links, until the fuel runs out
unfoldable pub chain : ℕ → (ℕ → Option Node) → Option ℕ → List ℕ
chain zero at start = []
chain (suc fuel) at None = []
chain (suc fuel) at (Some slot) = slot ∷ chain fuel at (next_of (at slot))

-- the slots from one on
abbrev pub slots_from : Slab Node → Option ℕ → List ℕ
slots_from nodes start = chain (length nodes.slots) (get nodes) start

-- the slots of what the group at a slot has captured, the newest first
abbrev pub slots_by : Slab Node → ℕ → List ℕ
slots_by nodes group = slots_from nodes (newest_of (get nodes group))

abbrev pub caught_by : Slab Node → ℕ → List Caught
caught_by nodes group = map (λ slot. caught_at (get nodes slot)) (slots_by nodes group)

abbrev pub has_slot : ℕ → List ℕ → Bool
has_slot slot slots = list_any (λ p. slot == p) slots

-- these are the targets of a group, from this one on
abbrev pub Chain : (ℕ → Option Node) → ℕ → Option ℕ → List ℕ → Type 0
Chain at group start [] = start ≡ None
Chain at group start (slot ∷ slots) =
    (start ≡ Some slot) × (has_slot slot slots ≡ false) × (node : Node) × (at slot ≡ Some node)
    × (node.group ≡ Some group) × Chain at group node.next slots

-- the targets of each group are linked one after the other, and each node that names a group is among them
pub record IsLinked (at : ℕ → Option Node) (slots : ℕ → List ℕ) : Type 0 where
  pub chained : (group : ℕ) (node : Node) → at group ≡ Some node → Chain at group node.newest (slots group)
  pub member : (slot group : ℕ) (node : Node) → at slot ≡ Some node → node.group ≡ Some group
      → IsSome (at group) × (has_slot slot (slots group) ≡ true)
  pub free : (slot : ℕ) (node : Node) → at slot ≡ Some node → node.group ≡ None → (node.next ≡ None) × (node.ids ≡ 0)
  pub held : (slot group : ℕ) (node : Node) → at slot ≡ Some node → node.group ≡ Some group → node.ids ≢ 0
  pub fits : (slot : ℕ) (node : Node) → at slot ≡ Some node → node.ids < 2 ^ max_pointers
  pub small : (slot : ℕ) (node : Node) → at slot ≡ Some node → slot < links_end
  pub single : (slot other : ℕ) (node its : Node) → at slot ≡ Some node → at other ≡ Some its → node.view ≡ its.view
      → slot ≡ other

abbrev pub AreLinked : Slab Node → Type 0
AreLinked nodes = IsLinked (get nodes) (slots_by nodes)

-- what nodes hold after a change of one of them
abbrev pub changed : (ℕ → Option Node) → ℕ → (Node → Node) → ℕ → Option Node
changed at slot change x = if x == slot then option_map change (at x) else at x

-- what nodes hold once this one comes after a target, or first if that is none
abbrev pub relinked : (ℕ → Option Node) → ℕ → Option ℕ → Option ℕ → ℕ → Option Node
relinked at group None next x = changed at group (λ node. record node { newest = next }) x
relinked at group (Some previous) next x = changed at previous (λ node. record node { next = next }) x

-- there is a node, and it is a target
abbrev pub IsTarget : Option Node → Type 0
IsTarget None = ⊥
IsTarget (Some node) = node.group ≢ None

-- one slot comes right after another among these, or first if that is none
pub record IsFollowing (previous : Option ℕ) (slot : ℕ) (slots : List ℕ) : Type 0 where
  pub front : List ℕ
  pub back : List ℕ
  pub whole : slots ≡ front ++ slot ∷ back
  pub before : last_or None front ≡ previous

abbrev pub without_slot : ℕ → List ℕ → List ℕ
without_slot slot slots = filter (λ p. not (p == slot)) slots

-- the view of a node as a child that is captured by these pointers
abbrev pub caught_in_slot : Option Node → ℕ → Caught
caught_in_slot None ids = record { child = 0; ids = ids }
caught_in_slot (Some node) ids = record { child = node.view; ids = ids }

abbrev pub without_caught : Option ℕ → List Caught → List Caught
without_caught None caught = caught
without_caught (Some child) caught = filter (λ (c : Caught). not (c.child == child)) caught

-- the pointers of a target that are left without these
abbrev pub left_at : Slab Node → ℕ → ℕ → ℕ
left_at nodes slot ids = mask_without (caught_at (get nodes slot)).ids ids

-- the number of the view at a slot; 0 if there is none
abbrev pub view_at : Slab Node → ℕ → ℕ
view_at nodes slot = (caught_at (get nodes slot)).child

-- the node of a view that is no target and has none
abbrev pub fresh_node : ℕ → Node
fresh_node view = record { view = view; newest = None; group = None; next = None; ids = 0 }
