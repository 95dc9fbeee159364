-- What a plan becomes with a child that it takes, phase by phase.
use Rattle.std.proofs.Common.{◌≡◌, ℤ, Bool, ◌+ℤ◌, pos, List, [], ◌∷◌, ◌++◌, Option, refl, ap, sym, ◌∙◌}
use Rattle.std.specs.Int.{int_max}
use Rattle.std.proofs.lemmas.Grind.{fold-append}
use Rattle.geom_core.specs.Spec.{resolve_of}
use Rattle.geom_core.specs.declared.geometry.Size.{Size}
use Rattle.relative_layout.specs.declared.plan.extent.AxisExtent.{AxisExtent}
use Rattle.relative_layout.specs.declared.plan.RelativePlan.{RelativePlan}
use Rattle.relative_layout.specs.plan.RelativePlan.{IsExtent, RepresentsRelative, spanned_as}
use Rattle.view_model.specs.declared.facts.Facts.{Facts}
use Rattle.view_model.specs.declared.relative.Anchors.{Anchors}
use Rattle.view_model.specs.declared.relative.Axis.{Axis}
use Rattle.view_model.specs.declared.relative.Axis.TheVariants.{Horizontal, Vertical}
use Rattle.view_model.specs.declared.relative.ChildAxis.{ChildAxis}
use Rattle.view_model.specs.Measuring.{Specs}
use Rattle.view_model.specs.RelativeLayout.{Spanned, far_margin, final_span, greatest_reach, length_on, moved_span, own_length, reach_of, settled_span, span_on, span_or_none, child_on}

greatest_reach-push : (axis : Axis) (kids : List Spanned) (kid : Spanned) → greatest_reach axis (kids ++ kid ∷ []) ≡ int_max (greatest_reach axis kids) (reach_of axis kid)
greatest_reach-push axis kids kid = fold-append (λ most k. int_max most (reach_of axis k)) (pos 0) kids (kid ∷ [])

-- an axis that takes in a child, by the sides that it gives it
pub record TakesIn (old new : AxisExtent) (rtl : Bool) (axis : Axis) (kid : Facts) (anchors : Anchors) (size : Size) (tied : ChildAxis) (span : ℤ × ℤ) : Type 0 where
  pub of_kid : tied ≡ child_on rtl axis kid
  pub of_span : span ≡ settled_span old.group tied anchors (length_on axis size)
  pub group : new.group ≡ old.group
  pub most : new.most ≡ int_max old.most (span.1 +ℤ tied.margin_far)

far_margin_of : (rtl : Bool) (axis : Axis) (kid : Facts) → (child_on rtl axis kid).margin_far ≡ far_margin axis kid
far_margin_of rtl Horizontal kid = refl
far_margin_of rtl Vertical kid = refl

IsExtent-push : (old new : AxisExtent) (axis : Axis) (own : Facts) (specs : Specs) (kids : List Spanned) (kid : Facts) (anchors : Anchors) (size : Size) (tied : ChildAxis) (span : ℤ × ℤ)
    → TakesIn old new own.rtl axis kid anchors size tied span → IsExtent old axis own specs kids
    → IsExtent new axis own specs (kids ++ record { facts = kid; span = span_on axis own specs kid anchors size } ∷ [])
IsExtent-push old new axis own specs kids kid anchors size tied span takes is =
    let new_kid : Spanned = record { facts = kid; span = span_on axis own specs kid anchors size } in
    let same : span ≡ new_kid.span = takes.of_span ∙ ap (λ t. settled_span old.group t anchors (length_on axis size)) takes.of_kid
    ∙ ap (λ group. settled_span group (child_on own.rtl axis kid) anchors (length_on axis size)) is.of_band in
    let reach : span.1 +ℤ tied.margin_far ≡ reach_of axis new_kid = ap (λ (s : ℤ × ℤ). s.1 +ℤ tied.margin_far) same ∙ ap (λ (t : ChildAxis). new_kid.span.1 +ℤ t.margin_far) takes.of_kid ∙ ap (λ margin. new_kid.span.1 +ℤ margin) (far_margin_of own.rtl axis kid) in
    record {
      of_band = takes.group ∙ is.of_band;
      of_most = takes.most ∙ ap (int_max old.most) reach ∙ ap (λ most. int_max most (reach_of axis new_kid)) is.of_most ∙ sym (greatest_reach-push axis kids new_kid);
    }

-- a plan is in one phase at a time
first_only : {A : Type 0} {axis : Axis} → axis ≡ Horizontal → axis ≡ Vertical → A
first_only is other = absurd (cc)

pub take-across : (plan : RelativePlan) (across : AxisExtent) (own : Facts) (specs : Specs) (past : List (List Spanned)) (taken : List Spanned) (kid : Facts) (anchors : Anchors) (size : Size) (tied : ChildAxis) (span : ℤ × ℤ)
    → plan.axis ≡ Horizontal → TakesIn plan.across across plan.rtl Horizontal kid anchors size tied span → RepresentsRelative plan own specs past taken
    → RepresentsRelative (record plan { across = across }) own specs past (taken ++ spanned_as own specs past kid anchors size ∷ [])
take-across plan across own specs [] taken kid anchors size tied span is takes represents = record {
  of_axis = is;
  of_rtl = represents.of_rtl;
  of_across = IsExtent-push plan.across across Horizontal own specs taken kid anchors size tied span (rw represents.of_rtl at takes) represents.of_across;
  of_down = represents.of_down;
}
take-across plan across own specs (first ∷ []) taken kid anchors size tied span is takes represents = first_only is represents.of_axis
take-across plan across own specs (first ∷ second ∷ more) taken kid anchors size tied span is takes represents = absurd represents

pub take-down : (plan : RelativePlan) (down : AxisExtent) (own : Facts) (specs : Specs) (past : List (List Spanned)) (taken : List Spanned) (kid : Facts) (anchors : Anchors) (size : Size) (tied : ChildAxis) (span : ℤ × ℤ)
    → plan.axis ≡ Vertical → TakesIn plan.down down plan.rtl Vertical kid anchors size tied span → RepresentsRelative plan own specs past taken
    → RepresentsRelative (record plan { down = down }) own specs past (taken ++ spanned_as own specs past kid anchors size ∷ [])
take-down plan down own specs [] taken kid anchors size tied span is takes represents = first_only represents.of_axis is
take-down plan down own specs (first ∷ []) taken kid anchors size tied span is takes represents = record {
  of_axis = is;
  of_rtl = represents.of_rtl;
  of_across = represents.of_across;
  of_down = IsExtent-push plan.down down Vertical own specs taken kid anchors size tied span (rw represents.of_rtl at takes) represents.of_down;
}
take-down plan down own specs (first ∷ second ∷ more) taken kid anchors size tied span is takes represents = absurd represents

-- the final place of a child, by an axis that has all children
pub final_span-of_extent : (extent : AxisExtent) (axis : Axis) (own : Facts) (specs : Specs) (kids : List Spanned) (kid : Facts) (span : Option (ℤ × ℤ)) (size : Size)
    → IsExtent extent axis own specs kids
    → moved_span extent.group (child_on own.rtl axis kid) (resolve_of (int_max extent.group.min (extent.most +ℤ extent.group.padding_far)) extent.group.spec) (span_or_none span) (length_on axis size)
    ≡ final_span axis own specs (own_length axis own specs kids) (record { facts = kid; span = span_or_none span }) size
final_span-of_extent extent axis own specs kids kid span size is = rw (is.of_band, is.of_most) refl
