-- The armed hooks as a map from the numbers of views, and its operations.
-- It is a list in the order of arming, on which nothing depends.
use Rattle.std.specs.Prelude.{ℕ, ◌==◌, ◌≤◌, length, if◌then◌else◌, not, List, [], ◌∷◌, ◌++◌, Option, Some, None, filter}
use Rattle.std.specs.Prelude.{find, map, slice_get, All}
use Rattle.geom_core.specs.declared.geometry.Size.{Size}
use Rattle.size_hooks.specs.Hook.{Hook}
use Rattle.view_model.specs.declared.changes.NumEdit.{NumEdit}
use Rattle.view_model.specs.Numbers.{max_edits, max_hooks}

-- no hook is armed
abbrev pub no_hooks : List Hook
no_hooks = []

-- the hook of the view of this number
abbrev pub hook_of : List Hook → ℕ → Option Hook
hook_of hooks view = find (λ (hook : Hook). hook.view == view) hooks

-- at most one hook of a view, and few in all, each with few edits
pub record IsMap (hooks : List Hook) : Type 0 where
  pub single : (view : ℕ) → length (filter (λ (hook : Hook). hook.view == view) hooks) ≤ 1
  pub few : length hooks ≤ max_hooks
  pub short : All (λ (hook : Hook). length hook.edits ≤ max_edits) hooks

-- the hooks without that of this view
abbrev pub disarmed : ℕ → List Hook → List Hook
disarmed view hooks = filter (λ (hook : Hook). not (hook.view == view)) hooks

-- the hooks with this one, in place of another of its view
abbrev pub armed : Hook → List Hook → List Hook
armed hook hooks = disarmed hook.view hooks ++ hook ∷ []

-- a hook to which this size of this view is reported
abbrev pub reported_to : ℕ → Size → Hook → Hook
reported_to view size hook = if hook.view == view then record hook { reported = size } else hook

-- the hooks to which it is
abbrev pub reported_as : ℕ → Size → List Hook → List Hook
reported_as view size hooks = map (reported_to view size) hooks

-- an edit of a hook, counted from 0
abbrev pub edit_of : Option Hook → ℕ → Option NumEdit
edit_of None k = None
edit_of (Some hook) k = slice_get hook.edits k
