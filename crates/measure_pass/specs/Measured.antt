-- What a measuring leaves with the views of a tree.
use Rattle.std.specs.Prelude.{◌≡◌, ◌≢◌, ◌≤◌, ◌⊎◌, ℕ, ℤ, ◌+◌, ◌-◌, ◌^◌, min, pos, true, false, Bool, if◌then◌else◌, List}
use Rattle.std.specs.Prelude.{[], Option, None}
use Rattle.geom_core.specs.declared.geometry.Rect.{Rect}
use Rattle.geom_core.specs.declared.geometry.Size.{Size}
use Rattle.measure_cache.specs.declared.cache.Entry.{Entry}
use Rattle.measure_cache.specs.Entries.{found, put_in, same_spec}
use Rattle.kept_views.specs.Kept.{Ready, Sized, owed}
use Rattle.view_model.specs.declared.work.Work.{Work}
use Rattle.view_model.specs.Facts.{is_shown}
use Rattle.view_model.specs.Forest.{Forest, Nothing, Branch}
use Rattle.view_model.specs.Layout.{final_edges, final_specs, measure_calls, measured_size, total_size}
use Rattle.view_model.specs.Measuring.{Specs}
use Rattle.view_tree.specs.declared.node.state.State.{State}
use Rattle.view_tree.specs.Rows.{Row, children_of_first, first_tree, head_view, part_from, views_of}
use Rattle.view_tree.specs.Views.{Held, KeepsOutside, SameTree, Views, IsLive, held_of, specs_of, state_of}

-- a view with all below it
abbrev pub tree_from : ℕ → Forest Row → Forest Row
tree_from view tree = first_tree (part_from view tree)

-- what is below a view
abbrev pub kids_from : ℕ → Forest Row → Forest Row
kids_from view tree = children_of_first (part_from view tree)

-- the size of the first view of a list under these specs
abbrev pub size_under : Forest Row → Specs → Size
size_under Nothing specs = record { w = pos 0; h = pos 0 }
size_under (Branch row kids siblings) specs = measured_size row.view (views_of kids) specs

-- what its children take along its axis
abbrev pub total_under : Forest Row → Specs → ℤ
total_under Nothing specs = pos 0
total_under (Branch row kids siblings) specs = total_size row.view (views_of kids) specs

-- its final specs for them
abbrev pub finals_under : Forest Row → Specs → List Specs
finals_under Nothing specs = []
finals_under (Branch row kids siblings) specs = final_specs row.view (views_of kids) specs

-- how many views are measured for it
abbrev pub calls_under : Forest Row → Specs → ℕ
calls_under Nothing specs = 0
calls_under (Branch row kids siblings) specs = measure_calls row.view (views_of kids) specs

-- those that it is to find
abbrev pub edges_under : Forest Row → Specs → List (Option Rect)
edges_under Nothing specs = []
edges_under (Branch row kids siblings) specs = final_edges row.view (views_of kids) specs

-- the conditions under which a view can be measured
pub record IsReady (views : Views) (view : ℕ) : Type 0 where
  pub live : IsLive views view
  pub shown : is_shown (head_view (part_from view views.tree)).facts ≡ true
  pub ready : Ready (held_of views) (first_tree (part_from view views.tree))

-- and those under which its children can be measured for its last specs
pub record IsFit (views : Views) (view : ℕ) : Type 0 where
  pub live : IsLive views view
  pub shown : is_shown (head_view (part_from view views.tree)).facts ≡ true
  pub ready : Ready (held_of views) (first_tree (part_from view views.tree))
  pub sized : Sized (held_of views) (first_tree (part_from view views.tree))

-- a view was measured under these specs, and all below it for that, down to marked ones
pub record IsMeasured (views : Views) (view : ℕ) (specs : Specs) : Type 0 where
  pub last : specs_of (state_of views view) ≡ specs
  pub size : (state_of views view).measured ≡ size_under (part_from view views.tree) specs
  pub sized : Sized (held_of views) (first_tree (part_from view views.tree))
  pub ready : Ready (held_of views) (first_tree (part_from view views.tree))

-- a measuring leaves the bounds of views, how far they have scrolled, and whether they are forced
pub record Keeps (old new : ℕ → Held) : Type 0 where
  pub bounds : (key : ℕ) → (new key).state.bounds ≡ (old key).state.bounds
  pub offsets : (key : ℕ) → (new key).offset ≡ (old key).offset
  pub forced : (key : ℕ) → (new key).state.forced ≡ (old key).state.forced

-- nothing that is kept of views changes except their sides in a relative layout
abbrev pub KeepsAllButEdges : (ℕ → Held) → (ℕ → Held) → Type 0
KeepsAllButEdges old new =
    (key : ℕ) → new key ≡ record (old key) { state = record (old key).state { edges = (new key).state.edges } }

abbrev pub entry_for : Specs → Size → Entry
entry_for specs size = record { ws = specs.across; hs = specs.down; size = size }

-- what is kept with a view that was measured under these specs, once its children were
abbrev pub done_with : Held → Specs → Size → ℤ → Held
done_with own specs size total =
    record own {
      state =
          record own.state {
            measured = size;
            ws = specs.across;
            hs = specs.down;
            total = total;
            measure_first = false;
            layout_needed = true;
          };
      cache = put_in own.cache (entry_for specs size);
    }

-- with one whose size for these specs was in its cache
abbrev pub hit_with : Held → Specs → Size → Held
hit_with own specs size =
    record own {
      state = record own.state
          { measured = size; ws = specs.across; hs = specs.down; measure_first = true; layout_needed = true };
    }

-- with one whose size was there, and whose children are right for these specs as they are
abbrev pub resized_with : Held → Specs → Size → Held
resized_with own specs size =
    record own { state = record own.state { measured = size; ws = specs.across; hs = specs.down } }

-- and with a marked one, once its children were measured for its last specs
abbrev pub made_up : Held → Size → ℤ → Held
made_up own size total =
    record own { state = record own.state { measured = size; total = total; measure_first = false } }

-- a view of this state was last measured under these specs, and is not forced
abbrev pub current : State → Specs → Bool
current state specs =
    if state.forced then false else (if same_spec state.ws specs.across then same_spec state.hs specs.down else false)

-- the size of a view for these specs is known: they are its last ones and it is not forced, or they are in its cache
abbrev pub IsKnown : Held → Specs → Type 0
IsKnown own specs = ((own.state.forced ≡ false) × (specs_of own.state ≡ specs)) ⊎ (found own.cache specs ≢ None)

-- the measuring of the views of a list raises a count by no more than this, and together with what marked ones still
-- have to measure by no more either
pub record Costs (list : Forest Row) (before held : ℕ → Held) (old calls new : ℕ) : Type 0 where
  pub spent : new ≤ old + calls
  pub owing : new + owed held list ≤ old + owed before list + calls

-- each measuring, at least n of them, was counted both in the work and in the tree; a count stays at the greatest
-- number once it is there. Nothing else was counted
pub record Counted (least : ℕ) (before after : Views) (old new : Work) : Type 0 where
  pub by : ℕ
  pub enough : least ≤ by
  pub work : min new.measured (2 ^ 64 - 1) ≡ min (old.measured + by) (2 ^ 64 - 1)
  pub tree : min after.counts.measures (2 ^ 64 - 1) ≡ min (before.counts.measures + by) (2 ^ 64 - 1)
  pub laid : after.counts.laid ≡ before.counts.laid
  pub painted : new.painted ≡ old.painted

-- what measuring the views of a list leaves: they are ready again, the tree and what is kept of other views are the
-- same, and each measuring was counted
pub record KeepsRest (before after : Views) (list : Forest Row) (old new : Work) : Type 0 where
  pub ready : Ready (held_of after) list
  pub same : SameTree before after
  pub keeps : Keeps (held_of before) (held_of after)
  pub others : KeepsOutside (held_of before) (held_of after) list
  pub counted : Counted 0 before after old new
