-- The specs by which a parent asks a child for a size on one axis.
use Rattle.std.specs.Prelude.{ℤ, pos, ◌-ℤ◌, int_lt, if◌then◌else◌}
use Rattle.std.specs.Int.{int_min}
use Rattle.std.specs.Ordering.{int_eq}
use Rattle.geom_core.specs.declared.measuring.Mode.{Mode}
use Rattle.geom_core.specs.declared.measuring.Mode.TheVariants.{Unspecified, Exactly, AtMost}
use Rattle.geom_core.specs.declared.measuring.Spec.{Spec}
use Rattle.geom_core.specs.Limits.{clamp_size}
use Rattle.geom_core.specs.Numbers.{match_parent}

-- what is left of a parent's size of which `used` pixels are taken, or 0 if more is taken than there is
unfoldable pub remaining_of : ℤ → ℤ → ℤ
remaining_of size used = clamp_size (size -ℤ used)

-- the mode of a child that wants to be as large as its content: at most what is left, unless its parent has no limit
abbrev pub wrap_mode : Mode → Mode
wrap_mode Unspecified = Unspecified
wrap_mode Exactly = AtMost
wrap_mode AtMost = AtMost

-- the spec for a child of this dimension: a number of pixels is that number exactly; a child that matches its parent
-- gets what is left in its parent's mode; a child that wraps its content gets what is left as a limit
unfoldable pub child_spec_of : Spec → ℤ → ℤ → Spec
child_spec_of spec used dim =
    if int_lt dim (pos 0)
    then (if int_eq dim match_parent
    then record { mode = spec.mode; size = remaining_of spec.size used }
    else record { mode = wrap_mode spec.mode; size = remaining_of spec.size used })
    else record { mode = Exactly; size = clamp_size dim }

-- the size of a view that wants this much and takes all that it is offered
abbrev pub default_by : Mode → ℤ → ℤ → ℤ
default_by Unspecified want size = want
default_by Exactly want size = size
default_by AtMost want size = size

unfoldable pub default_size_of : ℤ → Spec → ℤ
default_size_of want spec = clamp_size (default_by spec.mode want spec.size)

-- the size of a view that wants this much and no more
abbrev pub resolve_by : Mode → ℤ → ℤ → ℤ
resolve_by Unspecified want size = want
resolve_by Exactly want size = size
resolve_by AtMost want size = int_min want size

unfoldable pub resolve_of : ℤ → Spec → ℤ
resolve_of want spec = clamp_size (resolve_by spec.mode want spec.size)
