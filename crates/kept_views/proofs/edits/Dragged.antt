-- Offsets that are set within their ranges keep what is kept, without a request.
use Rattle.std.proofs.Common.{◌≡◌, ℕ, Bool, false, Some, List, [], ◌∷◌, ap, ◌∙◌, refl}
use Rattle.std.specs.Prelude.{ℤ, if◌then◌else◌}
use Rattle.geom_core.specs.declared.geometry.Rect.{Rect}
use Rattle.view_model.specs.Facts.{is_shown}
use Rattle.view_model.specs.Forest.{Forest, Nothing, Branch}
use Rattle.view_model.specs.Offsets.{brought, range_by}
use Rattle.view_tree.specs.Rows.{Row}
use Rattle.view_tree.specs.Views.{Held, specs_of}
use Rattle.kept_views.specs.Kept.{Around, Cleared, InRange, IsKept, Kept, Reached, ShownView, first_place, inside, last_edges, last_places, last_specs, loose}
use Rattle.view_model.specs.RelativeLayout.{sides_of}

module _ (offsets : ℕ → ℤ) (held : ℕ → Held) where
  abbrev pub with_offsets : ℕ → Held
  with_offsets key = record (held key) { offset = offsets key }

  -- each offset is within the range that it had with the one before
  abbrev pub InRanges : Forest Row → Type 0
  InRanges Nothing = Unit {0}
  InRanges (Branch row kids siblings) =
      ((rect : Rect) → (held row.key).state.bounds ≡ Some rect → InRange held (held row.key) row kids rect → InRange held (with_offsets row.key) row kids rect)
      × InRanges kids × InRanges siblings

  specs-still : (list : Forest Row) → last_specs with_offsets list ≡ last_specs held list
  specs-still Nothing = refl
  specs-still (Branch row kids siblings) = ap (λ rest. if is_shown row.view.facts then specs_of (held row.key).state ∷ rest else rest) (specs-still siblings)

  edges-still : (list : Forest Row) → last_edges with_offsets list ≡ last_edges held list
  edges-still Nothing = refl
  edges-still (Branch row kids siblings) = ap (λ rest. if is_shown row.view.facts then sides_of (held row.key).state.edges ∷ rest else rest) (edges-still siblings)

  places-still : (list : Forest Row) → last_places with_offsets list ≡ last_places held list
  places-still Nothing = refl
  places-still (Branch row kids siblings) = ap (λ rest. if is_shown row.view.facts then (held row.key).state.bounds ∷ rest else rest) (places-still siblings)

  first-still : (list : Forest Row) → first_place with_offsets list ≡ first_place held list
  first-still Nothing = refl
  first-still (Branch row kids siblings) = refl

  shown-still : (keys : List ℕ) (up : Around) (row : Row) (kids : Forest Row)
      → ((rect : Rect) → (held row.key).state.bounds ≡ Some rect → InRange held (held row.key) row kids rect → InRange held (with_offsets row.key) row kids rect)
      → ShownView keys held up (held row.key) row kids → ShownView keys with_offsets up (with_offsets row.key) row kids
  shown-still keys up row kids range v = record {
    flags = v.flags;
    cache = v.cache;
    sized = λ z f. let i = v.sized z f in record {
      size = i.size;
      finals = λ m. specs-still kids ∙ i.finals m;
      total = i.total;
      edges = λ m c. edges-still kids ∙ i.edges m c;
    };
    placed = λ z f n rect e. places-still kids ∙ v.placed z f n rect e;
    ranged = λ z f n rect e.
        ap (λ first. brought (range_by row.view.class row.view.facts (Some rect) first) (offsets row.key)) (first-still kids) ∙ range rect e (v.ranged z f n rect e);
  }

  pub Kept_offsets : (keys : List ℕ) (up : Around) (list : Forest Row) → InRanges list → Kept keys held up list → Kept keys with_offsets up list
  Kept_offsets keys up Nothing r k = tt
  Kept_offsets keys up (Branch row kids siblings) r k = (
    λ h. let v = k.0 h in record { forced = v.forced; bounds = v.bounds; cache = v.cache },
    λ h. shown-still keys up row kids r.0 (k.1 h),
    Kept_offsets keys (inside up row (held row.key)) kids r.1 k.2,
    Kept_offsets keys up siblings r.2 k.3,
  )

  reached-still : (up : Bool) (list : Forest Row) → Reached held up list → Reached with_offsets up list
  reached-still up Nothing r = tt
  reached-still up (Branch row kids siblings) r = (r.0, r.1, reached-still (held row.key).state.layout_needed kids r.2, reached-still up siblings r.3)

  cleared-still : (list : Forest Row) → Cleared held list → Cleared with_offsets list
  cleared-still Nothing c = tt
  cleared-still (Branch row kids siblings) c = (c.0, cleared-still kids c.1, cleared-still siblings c.2)

  pub offsets_kept : (tree : Forest Row) → InRanges tree → IsKept held tree → IsKept with_offsets tree
  offsets_kept tree r k = record { kept = Kept_offsets [] loose tree r k.kept; reached = reached-still false tree k.reached; cleared = cleared-still tree k.cleared }
