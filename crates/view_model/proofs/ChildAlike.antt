-- A view of any class looks the same to its group, whatever is below those of its children that are gone.
use Rattle.std.proofs.Common.{◌≡◌, ◌+◌, List, [], ◌∷◌, ap, ◌∙◌}
use mathlib.Core.Path.{fun_ext}
use Rattle.std.specs.Prelude.{ℤ, if◌then◌else◌, map, sum_by}
use Rattle.std.specs.List.{flat_map}
use Rattle.geom_core.specs.declared.geometry.Rect.{Rect}
use Rattle.view_model.proofs.Alike.{CourseAlike, KidsAlike, course_alike, shown_alike}
use Rattle.view_model.proofs.RelativeAlike.{relative_alike}
use Rattle.view_model.specs.Course.{Child, Requested, last_of}
use Rattle.view_model.specs.Facts.{is_shown}
use Rattle.view_model.specs.Geometry.{Laid, size_of_rect}
use Rattle.view_model.specs.Layout.{Placed, calls_by, child_by, course_by, course_in, laid_by, manner_of, measured_by, placed_in, requested_by, total_by}
use Rattle.view_model.specs.Measuring.{Manner, ByRule, BySiblings, Specs}
use Rattle.view_model.specs.PlainTree.{PlainView}

pub manner_alike : (manner : Manner) (view : PlainView) (specs : Specs) (some more : List Child) → KidsAlike some more → CourseAlike (course_in manner view some specs) (course_in manner view more specs)
manner_alike (ByRule rule) view specs some more h = course_alike rule some more h
manner_alike BySiblings view specs some more h = relative_alike view.facts specs some more h

pub child_alike : (view : PlainView) (some more : List Child) → KidsAlike some more → child_by view some ≡ child_by view more
child_alike view some more h =
    let alike = λ (specs : Specs). manner_alike (manner_of view specs) view specs some more h in
    let measure : measured_by view some ≡ measured_by view more = fun_ext (λ specs. (alike specs).size) in
    let requested : (specs : Specs) → requested_by view some specs ≡ requested_by view more specs =
    λ specs. shown_alike (course_by view some specs).kids (course_by view more specs).kids (alike specs).kids in
    let calls : calls_by view some ≡ calls_by view more =
    fun_ext (λ specs. ap (λ (kids : List Requested). 1 + sum_by (λ (kid : Requested). sum_by kid.child.calls kid.requests) kids) (requested specs)) in
    let lay : laid_by view some ≡ laid_by view more = fun_ext (λ specs. fun_ext (λ rect. lays specs rect (requested specs) (alike specs).total)) in
    ap (λ m. let c : Child = record { facts = view.facts; measure = m; calls = calls_by view some; lay = laid_by view some } in c) measure
    ∙ ap (λ m. let c : Child = record { facts = view.facts; measure = measured_by view more; calls = m; lay = laid_by view some } in c) calls
    ∙ ap (λ m. let c : Child = record { facts = view.facts; measure = measured_by view more; calls = calls_by view more; lay = m } in c) lay
  where
    laid_for : Specs → Rect → ℤ → List Requested → List Laid
    laid_for specs rect total kids =
        if is_shown view.facts
        then record { number = view.number; rect = rect }
        ∷ flat_map (λ (kid : Placed). kid.child.lay kid.specs kid.rect)
        (placed_in (record { view = view; specs = specs; room = size_of_rect rect; total = total })
        (map (λ (kid : Requested). record { child = kid.child; specs = last_of specs kid.requests; edges = kid.edges }) kids))
        else []

    lays : (specs : Specs) (rect : Rect) → requested_by view some specs ≡ requested_by view more specs → total_by view some specs ≡ total_by view more specs
        → laid_by view some specs rect ≡ laid_by view more specs rect
    lays specs rect kids total =
        ap (λ (kids : List Requested). laid_for specs rect (total_by view some specs) kids) kids
        ∙ ap (λ total. laid_for specs rect total (requested_by view more specs)) total
