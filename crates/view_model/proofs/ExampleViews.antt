-- For its own sake: views, places and specs of which worked examples are made.
use Rattle.std.specs.Prelude.{ℕ, ℤ, pos, []}
use Rattle.geom_core.specs.declared.measuring.Mode.TheVariants.{AtMost}
use Rattle.view_model.specs.declared.facts.Facts.{Facts}
use Rattle.view_model.specs.declared.class.Class.{Class}
use Rattle.view_model.specs.declared.class.Class.TheVariants as class
use Rattle.view_model.specs.Facts.{new_facts}
use Rattle.view_model.specs.Geometry.{Laid}
use Rattle.view_model.specs.Measuring.{Specs}
use Rattle.view_model.specs.PlainTree.{PlainView}

unfoldable pub view : ℕ → Class → Facts → PlainView
view number class facts = record { number = number; class = class; facts = facts; text = [] }

-- a frame layout of these dimensions
unfoldable pub frame : ℕ → ℤ → ℤ → PlainView
frame number width height = view number class.FrameLayout (new_facts width height)

-- where a view lies
unfoldable pub at : ℕ → ℕ → ℕ → ℕ → ℕ → Laid
at number left top right bottom = record { number = number; rect = record { left = pos left; top = pos top; right = pos right; bottom = pos bottom } }

-- at most 100 wide and 50 high
unfoldable pub at_most : Specs
at_most = record { across = record { mode = AtMost; size = pos 100 }; down = record { mode = AtMost; size = pos 50 } }
