-- When offsets of scroll views stay within their limits.
use Rattle.std.specs.Prelude.{pos, ◌≤ℤ◌}
use Rattle.tree_edits.specs.declared.edits.Edit.{Edit}
use Rattle.tree_edits.specs.declared.edits.Edit.TheVariants as edit
use Rattle.view_model.specs.Facets.{facet_of}
use Rattle.view_model.specs.declared.changes.Act.{Act}
use Rattle.view_model.specs.declared.facets.Facet.{Facet}
use Rattle.view_model.specs.declared.facets.Facet.TheVariants as facet
use Rattle.view_model.specs.Numbers.{max_size}

-- what scrolls a view scrolls it within the limits of sizes
abbrev pub FacetWithin : Facet → Type 0
FacetWithin (facet.Set reach) = Unit {0}
FacetWithin (facet.Visible hides) = Unit {0}
FacetWithin (facet.Scrolled offset) = (pos 0 ≤ℤ offset) × (offset ≤ℤ max_size)
FacetWithin facet.Turned = Unit {0}
FacetWithin facet.Named = Unit {0}
FacetWithin (facet.Tied verb) = Unit {0}

abbrev pub ScrollsWithin : Act → Type 0
ScrollsWithin act = FacetWithin (facet_of act)

-- so does an edit
abbrev pub EditsWithin : Edit → Type 0
EditsWithin (edit.Add parent class width height) = Unit {0}
EditsWithin (edit.Remove view) = Unit {0}
EditsWithin (edit.Act view act) = ScrollsWithin act
EditsWithin (edit.Text view text) = Unit {0}
