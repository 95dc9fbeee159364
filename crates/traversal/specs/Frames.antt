-- A frame of the plain tree: a pass, and a second one if a hook fired in the first.
use Rattle.std.specs.Prelude.{ℕ, ◌+◌, Bool, true, false, ◌&&◌, not, if◌then◌else◌, List, [], ◌∷◌, Option, Some, None}
use Rattle.std.specs.Prelude.{find, map}
use Rattle.std.specs.Option.{option_map, unwrap_or}
use Rattle.std.specs.Ordering.{int_eq}
use Rattle.geom_core.specs.declared.geometry.Size.{Size}
use Rattle.size_hooks.specs.Hook.{Hook}
use Rattle.size_hooks.specs.Hooks.{disarmed, hook_of}
use Rattle.view_model.specs.Changes.{facts_after_change}
use Rattle.view_model.specs.declared.changes.NumEdit.{NumEdit}
use Rattle.view_model.specs.Forest.{Forest}
use Rattle.view_model.specs.Geometry.{Laid, rect_in, size_of_rect}
use Rattle.view_model.specs.Layout.{full_layout, root_calls}
use Rattle.view_model.specs.Offsets.{ranged}
use Rattle.view_model.specs.PlainTree.{PlainView, with_facts}

abbrev pub same_size : Size → Size → Bool
same_size one other = int_eq one.w other.w && int_eq one.h other.h

-- whether a size is another than the one that a hook, if it is armed, has reported
abbrev pub differs : Option Hook → Size → Bool
differs None size = false
differs (Some hook) size = not (same_size size hook.reported)

-- whether the hook of a view that was laid out fires
abbrev pub fires : List Hook → Laid → Bool
fires hooks laid = differs (hook_of hooks laid.number) (size_of_rect laid.rect)

-- the first view, in preorder, whose hook fires
abbrev pub fired_in : List Hook → List Laid → Option ℕ
fired_in hooks geometry = option_map (λ (laid : Laid). laid.number) (find (fires hooks) geometry)

-- the tree after edits, in order; an edit of a view that is not there is skipped
abbrev pub edited_by : List NumEdit → Forest PlainView → Forest PlainView
edited_by [] tree = tree
edited_by (edit ∷ edits) tree = edited_by edits (with_facts edit.view (facts_after_change edit.change) tree)

-- the edits of a hook, if there is one
abbrev pub edits_of : Option Hook → List NumEdit
edits_of None = []
edits_of (Some hook) = hook.edits

-- what a pass leaves: the tree and its hooks, the bounds of its views, and whether a hook fired
pub record Pass : Type 0 where
  pub tree : Forest PlainView
  pub hooks : List Hook
  pub geometry : List Laid
  pub fired : Bool

-- the hook of the view that fired, if one did, is spent, and its edits are made
abbrev pub spent : Forest PlainView → List Hook → List Laid → Option ℕ → Pass
spent tree hooks geometry None = record { tree = tree; hooks = hooks; geometry = geometry; fired = false }
spent tree hooks geometry (Some view) =
    record {
      tree = edited_by (edits_of (hook_of hooks view)) tree;
      hooks = disarmed view hooks;
      geometry = geometry;
      fired = true;
    }

-- the same if the views have these bounds, once their offsets are in range
abbrev pub laid_so : Forest PlainView → List Hook → List Laid → Pass
laid_so tree hooks geometry = spent (ranged geometry tree) hooks geometry (fired_in hooks geometry)

-- a pass lays the whole tree out in a window of this size
abbrev pub after_pass : Forest PlainView → List Hook → Size → Pass
after_pass tree hooks window = laid_so tree hooks (full_layout tree window)

-- a hook whose view has bounds has the size of that view reported
abbrev pub reported_by : List Laid → Hook → Hook
reported_by geometry hook =
    record hook { reported = unwrap_or (option_map size_of_rect (rect_in geometry hook.view)) hook.reported }

abbrev pub reported_in : List Laid → List Hook → List Hook
reported_in geometry hooks = map (reported_by geometry) hooks

-- what a frame leaves
pub record Framed : Type 0 where
  pub tree : Forest PlainView
  pub hooks : List Hook
  pub settled : Bool
  -- how many hooks fired in it
  pub fired : ℕ
  -- the bounds of the views, if it has settled, and otherwise nothing
  pub geometry : List Laid

-- a frame with this last pass, before which this number of hooks had fired, has settled if that fired none
abbrev pub ended : ℕ → Pass → Framed
ended before pass =
    if pass.fired
    then record { tree = pass.tree; hooks = pass.hooks; settled = false; fired = before + 1; geometry = [] }
    else record {
      tree = pass.tree;
      hooks = reported_in pass.geometry pass.hooks;
      settled = true;
      fired = before;
      geometry = pass.geometry;
    }

-- a second pass follows if the first one fired a hook
abbrev pub followed : Size → Pass → Framed
followed window pass = if pass.fired then ended 1 (after_pass pass.tree pass.hooks window) else ended 0 pass

abbrev pub after_frame : Forest PlainView → List Hook → Size → Framed
after_frame tree hooks window = followed window (after_pass tree hooks window)

-- how many views are measured in a pass that follows this one, if one does
abbrev pub second_calls : Size → Pass → ℕ
second_calls window pass = if pass.fired then root_calls pass.tree window else 0

-- how many are measured in the passes of a frame
abbrev pub frame_calls : Forest PlainView → List Hook → Size → ℕ
frame_calls tree hooks window = root_calls tree window + second_calls window (after_pass tree hooks window)
