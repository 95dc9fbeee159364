-- The course of a relative layout's measuring, over the list of its children: what each is asked, its sides, and the
-- size of the whole.
use Rattle.std.specs.Prelude.{ℕ, zero, suc, ℤ, pos, Bool, if◌then◌else◌, List, [], ◌∷◌, filter, length, map, Option}
use Rattle.std.specs.Prelude.{Some, None, slice_index_or, unwrap_or}
use Rattle.std.specs.Option.{option_map}
use Rattle.geom_core.specs.declared.geometry.Rect.{Rect}
use Rattle.geom_core.specs.declared.geometry.Size.{Size}
use Rattle.view_model.specs.declared.facts.Facts.{Facts}
use Rattle.view_model.specs.declared.visibility.Visibility.TheVariants.{Gone}
use Rattle.view_model.specs.declared.relative.Anchor.{Anchor}
use Rattle.view_model.specs.declared.relative.Anchors.{Anchors}
use Rattle.view_model.specs.declared.relative.Axis.{Axis}
use Rattle.view_model.specs.declared.relative.Axis.TheVariants.{Horizontal, Vertical}
use Rattle.view_model.specs.declared.relative.Tie.{Tie}
use Rattle.view_model.specs.declared.relative.Tie.TheVariants.{Before, After, AlignNear, AlignFar}
use Rattle.view_model.specs.declared.relative.Link.{Link}
use Rattle.view_model.specs.Course.{Child, Requested, Course}
use Rattle.view_model.specs.Facts.{is_shown, new_facts}
use Rattle.view_model.specs.Geometry.{rect_at}
use Rattle.view_model.specs.Measuring.{Specs}
use Rattle.view_model.specs.RelativeLayout.{Spanned, across_specs, down_specs, far_margin, final_rect, near_margin}
use Rattle.view_model.specs.RelativeLayout.{relative_size, span_on}
use Rattle.view_model.specs.SiblingRules.{anchor_of}

-- a place beyond the list has a child that is gone
abbrev pub no_child : Child
no_child = record {
  facts = record (new_facts (pos 0) (pos 0)) { visibility = Gone };
  measure = λ specs. record { w = pos 0; h = pos 0 };
  calls = λ specs. 0;
  lay = λ specs rect. [];
}

abbrev pub child_at : List Child → ℕ → Child
child_at kids place = slice_index_or kids place no_child

abbrev pub link_of : Facts → Link
link_of facts = record { id = facts.id; rules = facts.rules }

abbrev pub links_of : List Child → List Link
links_of kids = map (λ (kid : Child). link_of kid.facts) kids

-- a sibling with these sides as an anchor
abbrev pub anchor_with : Axis → Facts → ℤ × ℤ → Anchor
anchor_with axis facts span =
    record { near = span.0; far = span.1; margin_near = near_margin axis facts; margin_far = far_margin axis facts }

-- the anchors of a child, if the sides of all children are known
abbrev pub anchor_by : Bool → Axis → List Child → (ℕ → ℤ × ℤ) → Tie → ℕ → Option Anchor
anchor_by rtl axis kids spans tie place =
    option_map (λ sibling. anchor_with axis (child_at kids sibling).facts (spans sibling))
    (anchor_of rtl axis tie (links_of kids) (λ sibling. is_shown (child_at kids sibling).facts) place)

abbrev pub anchors_by : Bool → Axis → List Child → (ℕ → ℤ × ℤ) → ℕ → Anchors
anchors_by rtl axis kids spans place = record {
  before = anchor_by rtl axis kids spans Before place;
  after = anchor_by rtl axis kids spans After place;
  align_near = anchor_by rtl axis kids spans AlignNear place;
  align_far = anchor_by rtl axis kids spans AlignFar place;
}

-- what a step makes of each place from what it made of the others, repeated this many times. If no place leads to
-- itself, nothing changes after as many steps as places: each place has what the step makes of its anchors'
abbrev pub following : {X : Type 0} → ((ℕ → X) → ℕ → X) → (ℕ → X) → ℕ → ℕ → X
following step start zero place = start place
following step start (suc steps) place = step (following step start steps) place

abbrev pub unknown : ℕ → ℤ × ℤ
unknown place = (pos 0, pos 0)

-- the specs of a child in the first phase, and its sides from left to right, by those of its anchors
abbrev pub asked_across : Facts → Specs → List Child → (ℕ → ℤ × ℤ) → ℕ → Specs
asked_across own specs kids spans place =
    across_specs own specs (child_at kids place).facts (anchors_by own.rtl Horizontal kids spans place)

abbrev pub span_across : Facts → Specs → List Child → (ℕ → ℤ × ℤ) → ℕ → ℤ × ℤ
span_across own specs kids spans place =
    let kid = child_at kids place in
    span_on Horizontal own specs kid.facts (anchors_by own.rtl Horizontal kids spans place)
    (kid.measure (asked_across own specs kids spans place))

abbrev pub spans_across : Facts → Specs → List Child → ℕ → ℤ × ℤ
spans_across own specs kids = following (span_across own specs kids) unknown (length kids)

-- the specs of a child in the second phase, and its sides from top to bottom
abbrev pub asked_down : Facts → Specs → List Child → (across down : ℕ → ℤ × ℤ) → ℕ → Specs
asked_down own specs kids across down place =
    down_specs own specs (child_at kids place).facts (across place) (anchors_by own.rtl Vertical kids down place)

abbrev pub span_down : Facts → Specs → List Child → (across down : ℕ → ℤ × ℤ) → ℕ → ℤ × ℤ
span_down own specs kids across down place =
    let kid = child_at kids place in
    span_on Vertical own specs kid.facts (anchors_by own.rtl Vertical kids down place)
    (kid.measure (asked_down own specs kids across down place))

abbrev pub spans_down : Facts → Specs → List Child → (ℕ → ℤ × ℤ) → ℕ → ℤ × ℤ
spans_down own specs kids across = following (span_down own specs kids across) unknown (length kids)

-- something of each child, with its place
abbrev pub each_from : {X Y : Type 0} → ℕ → (ℕ → X → Y) → List X → List Y
each_from place f [] = []
each_from place f (x ∷ xs) = f place x ∷ each_from (suc place) f xs

-- the children that take part, with their sides
abbrev pub spanned_by : List Child → (ℕ → ℤ × ℤ) → List Spanned
spanned_by kids spans =
    filter (λ (kid : Spanned). is_shown kid.facts)
    (each_from 0 (λ place (kid : Child). record { facts = kid.facts; span = spans place }) kids)

-- the sides of all children, from left to right and from top to bottom, and the size of the group
pub record Arrangement : Type 0 where
  pub across : ℕ → ℤ × ℤ
  pub down : ℕ → ℤ × ℤ
  pub size : Size

abbrev pub arranged : Facts → Specs → List Child → Arrangement
arranged own specs kids =
    let across = spans_across own specs kids in
    let down = spans_down own specs kids across in
    record {
      across = across;
      down = down;
      size = relative_size own specs (spanned_by kids across) (spanned_by kids down);
    }

-- the requests of a child that takes part
abbrev pub requests_at : Facts → Specs → List Child → Arrangement → ℕ → List Specs
requests_at own specs kids found place =
    asked_across own specs kids found.across place
    ∷ asked_down own specs kids found.across found.down place
    ∷ []

-- its four sides in the end
abbrev pub edges_at : Facts → Specs → List Child → Arrangement → ℕ → Rect
edges_at own specs kids found place =
    let kid = child_at kids place in
    let size = kid.measure (asked_down own specs kids found.across found.down place) in
    final_rect own specs found.size kid.facts
    (record { across = Some (found.across place); down = Some (found.down place) }) size

abbrev pub requested_at : Facts → Specs → List Child → Arrangement → ℕ → Child → Requested
requested_at own specs kids found place kid =
    if is_shown kid.facts
    then record {
      child = kid;
      requests = requests_at own specs kids found place;
      edges = Some (edges_at own specs kids found place);
    }
    else record { child = kid; requests = []; edges = None }

-- the course of the measuring
abbrev pub relative_course : Facts → Specs → List Child → Course
relative_course own specs kids =
    let found = arranged own specs kids in
    record { kids = each_from 0 (requested_at own specs kids found) kids; size = found.size; total = pos 0 }

-- where a child of this size is: between its sides, or at the origin if it has none
abbrev pub relative_place : Size → Option Rect → Rect
relative_place size edges = unwrap_or edges (rect_at (pos 0) (pos 0) size)
