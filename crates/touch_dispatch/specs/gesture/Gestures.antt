-- What is kept of a gesture between its events.
use Rattle.std.specs.Prelude.{ℕ, ◌==◌, pos, Bool, false, if◌then◌else◌, List, [], None}
use Rattle.touch_dispatch.specs.declared.handling.drag.Drag.{Drag}
use Rattle.touch_targets.specs.Captures.{Target, without_child}

pub record PlainGesture : Type 0 where
  -- by group, the newest first
  pub targets : ℕ → List Target
  -- the groups that may not intercept
  pub disallows : ℕ → Bool
  -- the views that are pressed
  pub presses : ℕ → Bool
  -- what each scroll view keeps of its drag
  pub drags : ℕ → Drag

-- a scroll view that follows no pointer
abbrev pub no_drag : Drag
no_drag = record { active = None; last = pos 0; dragging = false }

-- no gesture has begun
abbrev pub no_gesture : PlainGesture
no_gesture = record { targets = λ _. []; disallows = λ _. false; presses = λ _. false; drags = λ _. no_drag }

-- another value at one number
abbrev pub at_number : {A : Type 0} → ℕ → A → (ℕ → A) → ℕ → A
at_number number value old n = if n == number then value else old n

abbrev pub set_targets : ℕ → List Target → PlainGesture → PlainGesture
set_targets group targets gesture = record gesture { targets = at_number group targets gesture.targets }

abbrev pub set_disallow : ℕ → Bool → PlainGesture → PlainGesture
set_disallow group on gesture = record gesture { disallows = at_number group on gesture.disallows }

abbrev pub set_pressed : ℕ → Bool → PlainGesture → PlainGesture
set_pressed view on gesture = record gesture { presses = at_number view on gesture.presses }

abbrev pub set_drag : ℕ → Drag → PlainGesture → PlainGesture
set_drag view drag gesture = record gesture { drags = at_number view drag gesture.drags }

-- a group has no target, and may intercept
abbrev pub cleared : ℕ → PlainGesture → PlainGesture
cleared group gesture = set_disallow group false (set_targets group [] gesture)

-- a view is no target of any group
abbrev pub without_target : ℕ → PlainGesture → PlainGesture
without_target child gesture = record gesture { targets = λ group. without_child child (gesture.targets group) }

-- nothing is kept of a view
abbrev pub closed : ℕ → PlainGesture → PlainGesture
closed view gesture = record {
  targets = at_number view [] (without_target view gesture).targets;
  disallows = at_number view false gesture.disallows;
  presses = at_number view false gesture.presses;
  drags = at_number view no_drag gesture.drags;
}
