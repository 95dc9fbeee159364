-- Views that ask the same of their children under any specs.
use Rattle.std.specs.Prelude.{◌≡◌, ◌⊎◌, ℕ, true, false}
use Rattle.linear_layout.specs.Line.{is_sized}
use Rattle.measure_pass.specs.Measured.{kids_from}
use Rattle.view_model.specs.declared.class.Class.{Class}
use Rattle.view_model.specs.declared.class.Class.TheVariants.{LinearLayout}
use Rattle.view_model.specs.Classes.{is_group}
use Rattle.view_model.specs.Facts.{is_shown}
use Rattle.view_model.specs.Forest.{Forest, Nothing, Branch}
use Rattle.view_tree.specs.Rows.{Row, head_view, part_from}
use Rattle.view_tree.specs.Views.{Views, state_of}

-- each view of a list that takes part in layout has a number of pixels on both axes, and no weight
abbrev pub AreSized : Forest Row → Type 0
AreSized Nothing = Unit {0}
AreSized (Branch row kids siblings) =
    (is_shown row.view.facts ≡ true → is_sized row.view.facts ≡ true) × AreSized siblings

-- a view that has no children, or a linear layout of such
abbrev pub AsksAlike : Class → Forest Row → Type 0
AsksAlike class kids = (is_group class ≡ false) ⊎ ((class ≡ LinearLayout) × AreSized kids)

-- what is below a view that was measured under other specs is right for any
pub record IsRightBelow (views : Views) (view : ℕ) : Type 0 where
  pub forced : (state_of views view).forced ≡ false
  pub marked : (state_of views view).measure_first ≡ false
  pub alike : AsksAlike (head_view (part_from view views.tree)).class (kids_from view views.tree)
