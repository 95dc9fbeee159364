-- The result of a view for its children, if those are alike: the same except for what is below those that are gone.
use Rattle.std.proofs.Common.{◌≡◌, List, ap, ◌∙◌}
use Rattle.std.specs.Prelude.{ℤ, map}
use Rattle.geom_core.specs.declared.geometry.Size.{Size}
use Rattle.view_model.proofs.Alike.{CourseAlike, KidsAlike, shown_alike}
use Rattle.view_model.proofs.ChildAlike.{child_alike, manner_alike}
use Rattle.view_model.specs.Course.{Child, Requested, last_of}
use Rattle.view_model.specs.Forest.{Forest}
use Rattle.view_model.specs.Layout.{Final, Placed, Spot, children_of, course_by, final_by, final_edges, final_specs, manner_of, measured_size, placed_in, placement, requested_by, total_by, total_size, for_layout}
use Rattle.view_model.specs.Measuring.{Specs}
use Rattle.view_model.specs.PlainTree.{PlainView}

-- two lists of trees as the children of one view
module _ (view : PlainView) (some more : Forest PlainView) (alike : KidsAlike (children_of some) (children_of more)) where
  courses : (specs : Specs) → CourseAlike (course_by (for_layout view) (children_of some) specs) (course_by (for_layout view) (children_of more) specs)
  courses specs = manner_alike (manner_of (for_layout view) specs) (for_layout view) specs (children_of some) (children_of more) alike

  requests : (specs : Specs) → requested_by (for_layout view) (children_of some) specs ≡ requested_by (for_layout view) (children_of more) specs
  requests specs = shown_alike (course_by (for_layout view) (children_of some) specs).kids (course_by (for_layout view) (children_of more) specs).kids (courses specs).kids

  finals : (specs : Specs) → final_by (for_layout view) (children_of some) specs ≡ final_by (for_layout view) (children_of more) specs
  finals specs = ap (λ (kids : List Requested). map (λ (kid : Requested). let f : Final = record { child = kid.child; specs = last_of specs kid.requests; edges = kid.edges } in f) kids) (requests specs)

  pub size_same : (specs : Specs) → measured_size view some specs ≡ measured_size view more specs
  size_same specs = ap (λ (c : Child). c.measure specs) (child_alike (for_layout view) (children_of some) (children_of more) alike)

  pub total_same : (specs : Specs) → total_size view some specs ≡ total_size view more specs
  total_same specs = (courses specs).total

  pub specs_same : (specs : Specs) → final_specs view some specs ≡ final_specs view more specs
  specs_same specs = ap (λ (l : List Final). map (λ (kid : Final). kid.specs) l) (finals specs)

  pub edges_same : (specs : Specs) → final_edges view some specs ≡ final_edges view more specs
  edges_same specs = ap (λ (l : List Final). map (λ (kid : Final). kid.edges) l) (finals specs)

  pub places_same : (specs : Specs) (room : Size) → placement view some specs room ≡ placement view more specs room
  places_same specs room =
      let placed = λ (total : ℤ) (l : List Final). map (λ (kid : Placed). kid.rect) (placed_in (let s : Spot = record { view = for_layout view; specs = specs; room = room; total = total } in s) l) in
      ap (λ total. placed total (final_by (for_layout view) (children_of some) specs)) (total_same specs)
      ∙ ap (placed (total_by (for_layout view) (children_of more) specs)) (finals specs)
