-- The group that a line represents.
use Rattle.std.specs.Prelude.{pos, Bool, not, int_lt, ◌&&◌, ◌==◌}
use Rattle.linear_layout.specs.declared.line.Line.{Line}
use Rattle.view_model.specs.declared.facts.Facts.{Facts}
use Rattle.view_model.specs.Facts.{layout_facts, new_facts, padding_left, padding_right}
use Rattle.view_model.specs.LinearLayout.{exactly}
use Rattle.view_model.specs.Measuring.{Measured, Specs}
use Rattle.geom_core.specs.declared.geometry.Size.{Size}

-- a group of which nothing is set but what a line reads of it
abbrev pub own_in : Line → Facts
own_in line =
    record (new_facts (pos 0) (pos 0))
    { padding = line.padding; min = line.min; weight_sum = line.weight_sum; vertical = line.vertical }

-- that of a group, with the paddings that apply
abbrev pub lined : Facts → Facts
lined own = record (new_facts (pos 0) (pos 0)) {
  padding =
      record { left = padding_left own; right = padding_right own; top = own.padding.top; bottom = own.padding.bottom };
  min = own.min;
  weight_sum = own.weight_sum;
  vertical = own.vertical;
}

abbrev pub specs_in : Line → Specs
specs_in line = record { across = line.ws; down = line.hs }

-- a child that is passed in with this size
abbrev pub kid_with : Facts → Size → Measured
kid_with facts size = record { facts = layout_facts facts; size = size }

-- a child that has a number of pixels on both axes, and no weight
abbrev pub is_sized : Facts → Bool
is_sized kid = not (int_lt kid.width (pos 0)) && (not (int_lt kid.height (pos 0)) && kid.weight == 0)

-- that number on each axis
abbrev pub exact_specs : Facts → Specs
exact_specs kid = record { across = exactly kid.width; down = exactly kid.height }
