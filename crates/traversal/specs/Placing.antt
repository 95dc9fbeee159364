-- What is being placed, and how far that is.
use Rattle.std.specs.Prelude.{◌≡◌, ℕ, true, false, List, ◌++◌}
use Rattle.frame_layout.specs.Room.{IsRoom}
use Rattle.linear_layout.specs.Cursor.{PlacesLinear}
use Rattle.view_model.specs.Classes.{is_relative, lays_in_line}
use Rattle.view_model.specs.Forest.{Forest}
use Rattle.view_model.specs.Layout.{Spot}
use Rattle.view_model.specs.Measuring.{Measured}
use Rattle.view_tree.specs.Rows.{Row}
use Rattle.view_tree.specs.Views.{Held, specs_of}
use Rattle.traversal.specs.declared.laying.placer.Placer.{Placer}
use Rattle.traversal.specs.declared.laying.placer.Placer.TheVariants.{Between, Over, InLine}
use Rattle.kept_views.specs.Laying.{IsQuiet, last_sizes}

-- a group places its children in this way, after these
abbrev pub PlacesAs : Placer → Spot → List Measured → Type 0
PlacesAs (Over room) spot before =
    (lays_in_line spot.view.class ≡ false) × (is_relative spot.view.class ≡ false)
    × IsRoom room spot.view.facts spot.room
PlacesAs Between spot before = (lays_in_line spot.view.class ≡ false) × (is_relative spot.view.class ≡ true)
PlacesAs (InLine cursor) spot before =
    (lays_in_line spot.view.class ≡ true) × PlacesLinear cursor spot.view.facts spot.room spot.total before

-- a list of children that was laid, and where that leaves the placing
pub record LaidKids (placer : Placer) (spot : Spot) (before : List Measured) (old new : ℕ → Held) (list : Forest Row) :
    Type 0 where
  pub quiet : IsQuiet new spot before old list
  pub places : PlacesAs placer spot (before ++ last_sizes old list)

-- a view whose children are measured for its last specs
pub record Unmarked (old new : Held) : Type 0 where
  pub first : new.state.measure_first ≡ false
  pub specs : specs_of new.state ≡ specs_of old.state
  pub edges : new.state.edges ≡ old.state.edges
