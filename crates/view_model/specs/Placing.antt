-- Where on an axis a view is in the room of its group, by its gravity and its margins.
use Rattle.std.specs.Prelude.{ℤ, pos, ◌+ℤ◌, ◌-ℤ◌, int_div, Bool, if◌then◌else◌}
use Rattle.view_model.specs.declared.placing.Across.{Across}
use Rattle.view_model.specs.declared.placing.Across.TheVariants as across
use Rattle.view_model.specs.declared.placing.Across.TheVariants.{Unset, Left, Right, Start, End}
use Rattle.view_model.specs.declared.placing.Alignment.{Alignment}
use Rattle.view_model.specs.declared.placing.Alignment.TheVariants.{Low, Middle, High}
use Rattle.view_model.specs.declared.placing.Down.{Down}
use Rattle.view_model.specs.declared.placing.Down.TheVariants as down
use Rattle.view_model.specs.declared.placing.Down.TheVariants.{Top, Bottom}
use Rattle.view_model.specs.declared.placing.Extent.{Extent}
use Rattle.view_model.specs.declared.placing.Gravity.{Gravity}
use Rattle.view_model.specs.Direction.{left_of_two, right_of_two}

-- where on an axis a child of this gravity is placed, in a group that runs from right to left or not
abbrev pub alignment_across : Bool → Across → Alignment
alignment_across rtl Unset = Low
alignment_across rtl Left = Low
alignment_across rtl Right = High
alignment_across rtl across.Center = Middle
alignment_across rtl Start = left_of_two rtl Low High
alignment_across rtl End = right_of_two rtl Low High

abbrev pub alignment_down : Down → Alignment
alignment_down down.Unset = Low
alignment_down Top = Low
alignment_down Bottom = High
alignment_down down.Center = Middle

abbrev pub or_start : Across → Across
or_start Unset = Start
or_start Left = Left
or_start Right = Right
or_start across.Center = across.Center
or_start Start = Start
or_start End = End

-- a group's gravity for its children: without a part from left to right it is start
abbrev pub started : Gravity → Gravity
started gravity = record gravity { across = or_start gravity.across }

-- the gravity by which a child is placed: its own, if one was given, or the group's
abbrev pub gravity_for : Gravity → Gravity → Gravity
gravity_for group own = if own.given then own else started group

-- the low edge of a child with its margins in a group with its padding
abbrev pub low_edge : Alignment → Extent → Extent → ℤ
low_edge Low group kid = group.before +ℤ kid.before
low_edge Middle group kid =
    group.before +ℤ int_div (group.size -ℤ group.before -ℤ group.after -ℤ kid.size) (pos 2) +ℤ kid.before -ℤ kid.after
low_edge High group kid = group.size -ℤ group.after -ℤ kid.size -ℤ kid.after
