-- What edits of a view touch besides the facts that they set, and which classes have these: a row for each.
use Rattle.std.specs.Prelude.{Bool, true, false, not, if◌then◌else◌}
use Rattle.view_model.specs.declared.changes.Act.{Act}
use Rattle.view_model.specs.declared.changes.Act.TheVariants as act
use Rattle.view_model.specs.declared.changes.Change.{Change}
use Rattle.view_model.specs.declared.changes.Change.TheVariants as change
use Rattle.view_model.specs.declared.changes.Flag.{Flag}
use Rattle.view_model.specs.declared.changes.Flag.TheVariants as flag
use Rattle.view_model.specs.declared.facets.Facet.{Facet}
use Rattle.view_model.specs.declared.facets.Facet.TheVariants.{Set, Visible, Scrolled, Turned, Named, Tied}
use Rattle.view_model.specs.declared.facets.Reach.{Reach}
use Rattle.view_model.specs.declared.facets.Reach.TheVariants.{Laid, Shown, Painted, Unread}
use Rattle.view_model.specs.declared.class.Class.{Class}
use Rattle.view_model.specs.Classes.{has_text, is_group, lays_in_line, scrolls}
use Rattle.view_model.specs.Facts.{takes_part}

-- of an act: whether it may change the layout, whether a picture shows it though nothing is laid out anew, whether it
-- takes the view and all below it out of layout at once, whether it sets a direction, which goes down the tree, and
-- whether it sets the name by which a view is found, or the names by which it finds others
pub record FacetRow : Type 0 where
  pub asks : Bool
  pub shows : Bool
  pub hides : Bool
  pub turns : Bool
  pub names : Bool

-- of what is read by layout, by pictures, by both or by neither
pub record ReachRow : Type 0 where
  pub asks : Bool
  pub shows : Bool

abbrev pub row_of_reach : Reach → ReachRow
row_of_reach Laid = record { asks = true; shows = false }
row_of_reach Shown = record { asks = true; shows = true }
row_of_reach Painted = record { asks = false; shows = true }
row_of_reach Unread = record { asks = false; shows = false }

abbrev pub row_of : Facet → FacetRow
row_of (Set reach) = record {
  asks = (row_of_reach reach).asks;
  shows = (row_of_reach reach).shows;
  hides = false;
  turns = false;
  names = false;
}
row_of (Visible hides) = record { asks = true; shows = true; hides = hides; turns = false; names = false }
row_of (Scrolled offset) = record { asks = true; shows = true; hides = false; turns = false; names = false }
row_of Turned = record { asks = true; shows = true; hides = false; turns = true; names = false }
row_of Named = record { asks = true; shows = false; hides = false; turns = false; names = true }
row_of (Tied verb) = record { asks = true; shows = false; hides = false; turns = false; names = true }

-- who reads what a change sets
abbrev pub reach_of_change : Change → Reach
reach_of_change (change.Size width height) = Laid
reach_of_change (change.Min size) = Laid
reach_of_change (change.Margins sides) = Laid
reach_of_change (change.Padding sides) = Shown
reach_of_change (change.Weight weight) = Laid
reach_of_change (change.Gravity kids gravity) = Laid
reach_of_change (change.Background color) = Painted

-- and a flag
abbrev pub reach_of_flag : Flag → Reach
reach_of_flag flag.Clip = Painted
reach_of_flag flag.Fill = Shown
reach_of_flag flag.Split = Unread

-- what an act touches
abbrev pub facet_of : Act → Facet
facet_of (act.Change change) = Set (reach_of_change change)
facet_of (act.WeightSum sum) = Set Laid
facet_of (act.Orient vertical) = Set Laid
facet_of (act.Direction direction) = Turned
facet_of (act.Flag flag on) = Set (reach_of_flag flag)
facet_of (act.Visible visibility) = Visible (not (takes_part visibility))
facet_of (act.Ink color) = Set Painted
facet_of (act.Id id) = Named
facet_of (act.Rule verb value) = Tied verb
facet_of (act.Answer answer) = Set Unread
facet_of (act.Intercept actions) = Set Unread
facet_of (act.Scroll offset) = Scrolled offset

abbrev pub touched_by : Act → FacetRow
touched_by act = row_of (facet_of act)

-- only a view that lays its children in a line has a gravity for them
abbrev pub takes_change : Class → Change → Bool
takes_change class (change.Gravity kids gravity) = if kids then lays_in_line class else true
takes_change class (change.Size width height) = true
takes_change class (change.Min size) = true
takes_change class (change.Margins sides) = true
takes_change class (change.Padding sides) = true
takes_change class (change.Weight weight) = true
takes_change class (change.Background color) = true

-- a view without children clips and splits nothing, and only a view that scrolls makes its child fill it
abbrev pub takes_flag : Class → Flag → Bool
takes_flag class flag.Clip = is_group class
takes_flag class flag.Fill = scrolls class
takes_flag class flag.Split = is_group class

-- whether a view of this class has what an act sets
abbrev pub takes : Class → Act → Bool
takes class (act.Change change) = takes_change class change
takes class (act.WeightSum sum) = lays_in_line class
takes class (act.Orient vertical) = lays_in_line class
takes class (act.Direction direction) = true
takes class (act.Flag flag on) = takes_flag class flag
takes class (act.Visible visibility) = true
takes class (act.Ink color) = has_text class
takes class (act.Id id) = true
takes class (act.Rule verb value) = true
takes class (act.Answer answer) = not (scrolls class)
takes class (act.Intercept actions) = is_group class
takes class (act.Scroll offset) = scrolls class
