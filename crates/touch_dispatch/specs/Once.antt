-- How often an event goes to a view.
use Rattle.std.specs.Prelude.{◌≡◌, ◌==◌, ◌+◌, ℕ, Bool, true, false, ◌&&◌, if◌then◌else◌, List, [], ◌∷◌}
use Rattle.touch_dispatch.specs.declared.log.Entry.{Entry}
use Rattle.touch_dispatch.specs.declared.log.Kind.{Kind}
use Rattle.touch_dispatch.specs.declared.log.Kind.TheVariants.{Ask, Touch, Click, Scroll}
use Rattle.touch_targets.specs.Captures.{Target, is_target}

-- what is counted of some entries
abbrev pub total : (Entry → ℕ) → List Entry → ℕ
total tally [] = 0
total tally (e ∷ entries) = tally e + total tally entries

-- no two targets have one child
abbrev pub Distinct : List Target → Type 0
Distinct [] = Unit {0}
Distinct (t ∷ targets) = (is_target t.child targets ≡ false) × Distinct targets

abbrev pub AllDistinct : (ℕ → List Target) → Type 0
AllDistinct targets = (group : ℕ) → Distinct (targets group)

abbrev pub is_touch : Kind → Bool
is_touch Ask = false
is_touch Touch = true
is_touch Click = false
is_touch Scroll = false

abbrev pub is_ask : Kind → Bool
is_ask Ask = true
is_ask Touch = false
is_ask Click = false
is_ask Scroll = false

-- 1 for an entry that says that the view of this number handled an event
abbrev pub touches : ℕ → Entry → ℕ
touches n entry = if is_touch entry.kind && entry.view == n then 1 else 0

-- 1 for an entry that says that it was asked about one
abbrev pub asks : ℕ → Entry → ℕ
asks n entry = if is_ask entry.kind && entry.view == n then 1 else 0
