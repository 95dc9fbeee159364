-- Places for views that are to be added, and the table of their hooks.
use Rattle.std.specs.Prelude.{◌≡◌, ℕ, zero, suc, ◌+◌, ◌<◌, ◌≤◌, false, true, Option, None, Some, Box, List, [], ◌∷◌}
use Rattle.std.specs.Option.{option_map}
use Rattle.std.specs.declared.alloc.Global.{Global}
use Rattle.size_hooks.specs.Hook.{Hook}
use Rattle.touch_dispatch.specs.gesture.Kept.{IsUnknown, Kept, gesture_of, is_open, with_place}
use Rattle.touch_targets.specs.Captures.{is_target}
use Rattle.view_model.specs.Directed.{directed, rtl_at}
use Rattle.view_model.specs.Forest.{Forest, count_of}
use Rattle.view_model.specs.Growth.{grown_at}
use Rattle.view_model.specs.Sprouts.{Seed, numbered}
use Rattle.view_tree.specs.Views.{Views, geometry_of, number_of, plain_of}
use Rattle.size_hooks.specs.Hooks.{disarmed}
use Rattle.view_tree.specs.Rows.{Row, count_of_number}

-- places for n views, from this number on
abbrev pub with_places : ℕ → ℕ → Kept → Kept
with_places first zero kept = kept
with_places first (suc count) kept = with_place (first + count) (with_places first count kept)

-- no view of this number or a greater one has a place
abbrev pub HasNoneFrom : ℕ → Kept → Type 0
HasNoneFrom first kept = (number : ℕ) → first ≤ number → is_open kept number ≡ false

-- nor is any of these a target
pub record AreFree (first : ℕ) (kept : Kept) : Type 0 where
  pub closed : HasNoneFrom first kept
  pub free : (number : ℕ) → first ≤ number → (group : ℕ) → is_target number ((gesture_of kept).targets group) ≡ false

-- nothing is kept of n views, from this number on
abbrev pub AreUnknown : ℕ → ℕ → Kept → Type 0
AreUnknown first count kept = (number : ℕ) → first ≤ number → number < first + count → IsUnknown kept number

-- n views, from this number on, have places, and all others as before
pub record AreOpened (first count : ℕ) (old new : Kept) : Type 0 where
  pub there : (number : ℕ) → first ≤ number → number < first + count → is_open new number ≡ true
  pub below : (number : ℕ) → number < first → is_open new number ≡ is_open old number
  pub above : (number : ℕ) → first + count ≤ number → is_open new number ≡ is_open old number

-- the views of a sapling have come below a view, or as all there is, under the next numbers; each runs as its direction
-- says, or as its parent, and has no bounds
pub record HasGained (old : Views) (place : Option ℕ) (seeds : Forest Seed) (new : Views) : Type 0 where
  pub plain : let number = option_map (number_of old) place in
      plain_of new ≡ grown_at number (directed (rtl_at number (plain_of old)) (numbered old.next seeds)) (plain_of old)
  pub next : new.next ≡ old.next + count_of seeds
  pub geometry : geometry_of new ≡ geometry_of old

-- the armed hooks; without a table none is
abbrev pub hooks_in : Option (Box (List Hook) Global) → List Hook
hooks_in None = []
hooks_in (Some table) = table.value

-- a number that no view of a tree has has no place
abbrev pub HasNoneElse : Forest Row → Kept → Type 0
HasNoneElse tree kept = (number : ℕ) → count_of_number number tree ≡ 0 → is_open kept number ≡ false

-- the hook of none of these views is armed
abbrev pub all_disarmed : List ℕ → List Hook → List Hook
all_disarmed [] hooks = hooks
all_disarmed (number ∷ numbers) hooks = all_disarmed numbers (disarmed number hooks)
