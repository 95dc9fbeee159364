-- A scroll view: a frame layout that lets its child be as high as the child wants to be, and moves it up by an offset.
use Rattle.std.specs.Prelude.{ℤ, pos, ◌+ℤ◌, ◌-ℤ◌, int_lt, Bool, true, false, ◌&&◌, not, if◌then◌else◌, List, [], ◌∷◌}
use Rattle.std.specs.Prelude.{Option, Some, None}
use Rattle.std.specs.Int.{int_min, int_max}
use Rattle.geom_core.specs.Limits.{clamp_size}
use Rattle.geom_core.specs.Spec.{remaining_of}
use Rattle.geom_core.specs.declared.geometry.Size.{Size}
use Rattle.geom_core.specs.declared.measuring.Mode.{Mode}
use Rattle.geom_core.specs.declared.measuring.Mode.TheVariants.{Unspecified, Exactly, AtMost}
use Rattle.view_model.specs.declared.facts.Facts.{Facts}
use Rattle.view_model.specs.Facts.{margins_down, padding_down}
use Rattle.view_model.specs.FrameLayout.{first_specs, frame_own_size, frame_size}
use Rattle.view_model.specs.Measuring.{Specs, Measured, Rule}

-- the specs of a child's first measuring: a frame layout's across; down, any height, with what is left of the group's
-- as a hint, whatever height the child asks for
abbrev pub free_specs : Facts → Specs → Facts → Specs
free_specs own specs kid = record {
  across = (first_specs own specs kid).across;
  down = record { mode = Unspecified; size = remaining_of specs.down.size (padding_down own +ℤ margins_down kid) };
}

-- whether a child leaves a part of a group of this height empty
unfoldable pub is_short : Facts → ℤ → Measured → Bool
is_short own height kid = int_lt kid.size.h (height -ℤ (padding_down own +ℤ margins_down kid.facts))

-- the specs of a child that is to fill a group of this height: those of its first measuring across, and all of the
-- height that is left for it
abbrev pub filling_specs : Facts → Specs → ℤ → Facts → Specs
filling_specs own specs height kid = record {
  across = (first_specs own specs kid).across;
  down = record { mode = Exactly; size = remaining_of height (padding_down own +ℤ margins_down kid) };
}

abbrev pub is_unspecified : Mode → Bool
is_unspecified Unspecified = true
is_unspecified Exactly = false
is_unspecified AtMost = false

-- whether a child is to fill the group: the group is set so, and its height has a limit
abbrev pub is_filled : Facts → Specs → Bool
is_filled own specs = own.fill && not (is_unspecified specs.down.mode)

-- the rule of a scroll view: first every child, and then, if the child is to fill the group, those that are too short
-- for that once more
abbrev pub scroll_ask : Facts → Specs → List (List Measured) → List Measured → Measured → Option Specs
scroll_ask own specs [] taken kid = Some (free_specs own specs kid.facts)
scroll_ask own specs (first ∷ more) taken kid =
    let height = (frame_size own specs first).h in
    if is_short own height kid then Some (filling_specs own specs height kid.facts) else None

abbrev pub scroll_turns : Facts → Specs → List (List Measured) → Bool
scroll_turns own specs [] = false
scroll_turns own specs (first ∷ []) = is_filled own specs
scroll_turns own specs (first ∷ second ∷ more) = false

-- its size is a frame layout's
abbrev pub scroll_rule : Facts → Specs → Rule
scroll_rule own specs = record {
  ask = scroll_ask own specs;
  turns = scroll_turns own specs;
  size = frame_own_size own specs;
  total = λ past. pos 0;
}

-- how far the child of a group of the size `room` can be moved up: by what of it is below the group's padding
abbrev pub scroll_range : Facts → Size → Option Size → ℤ
scroll_range own room None = pos 0
scroll_range own room (Some child) = clamp_size (child.h -ℤ (room.h -ℤ padding_down own))

-- an offset brought into the range from 0 to this
unfoldable pub offset_within : ℤ → ℤ → ℤ
offset_within range offset = int_max (pos 0) (int_min offset range)
