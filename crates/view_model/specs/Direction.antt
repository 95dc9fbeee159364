-- In which direction a view runs, and what that makes of start and end.
use Rattle.std.specs.Prelude.{Bool, true, false, if◌then◌else◌}
use Rattle.view_model.specs.declared.placing.Direction.{Direction}
use Rattle.view_model.specs.declared.placing.Direction.TheVariants.{Inherit, Ltr, Rtl}

-- whether a view of this direction runs from right to left, below a parent that does so or not; of a root that counts
-- as not
abbrev pub dir : Bool → Direction → Bool
dir parent Inherit = parent
dir parent Ltr = false
dir parent Rtl = true

-- which of two, one at the start and one at the end, is on the left, and which on the right
abbrev pub left_of_two : {X : Type 0} → Bool → X → X → X
left_of_two rtl start end = if rtl then end else start

abbrev pub right_of_two : {X : Type 0} → Bool → X → X → X
right_of_two rtl start end = if rtl then start else end
