-- If the children of a relative layout are in an order, each has what the step makes of the sides of its anchors.
use Rattle.std.proofs.Common.{◌≡◌, ℕ, Bool, zero, suc, ◌<◌, true, Option, Some, None, List, length, get_or, refl, ap, ◌∙◌, arith, subst}
use Rattle.std.specs.Prelude.{ℤ}
use Rattle.std.specs.Option.{option_map}
use Rattle.std.proofs.lemmas.List.{length-map}
use Rattle.relative_layout.proofs.plans.AnchorLaws.{anchor_before}
use Rattle.view_model.specs.declared.facts.Facts.{Facts}
use Rattle.view_model.specs.declared.relative.Anchor.{Anchor}
use Rattle.view_model.specs.declared.relative.Axis.{Axis}
use Rattle.view_model.specs.declared.relative.Tie.{Tie}
use Rattle.view_model.specs.declared.relative.Tie.TheVariants.{Before, After, AlignNear, AlignFar}
use Rattle.view_model.specs.declared.relative.Axis.TheVariants.{Horizontal, Vertical}
use Rattle.view_model.proofs.RelativeAlike.{anchor_shown, shown_at}
use Rattle.view_model.specs.Course.{Child}
use Rattle.view_model.specs.Facts.{is_shown}
use Rattle.view_model.specs.Measuring.{Specs}
use Rattle.view_model.specs.Orders.{IsOrder}
use Rattle.view_model.specs.RelativeCourse.{anchor_by, anchor_with, anchors_by, child_at, following, link_of, links_of, span_across, span_down, spans_across, spans_down, unknown}
use Rattle.view_model.specs.SiblingRules.{anchor_of, leads, named_sibling}

-- what a step makes of a place depends only on the places before it
abbrev pub LooksBefore : {X : Type 0} → List ℕ → ((ℕ → X) → ℕ → X) → Type 0
LooksBefore order step =
    (f g : ℕ → _) (p : ℕ) → p < length order → ((q : ℕ) → q < p → f (get_or order q 0) ≡ g (get_or order q 0)) → step f (get_or order p 0) ≡ step g (get_or order p 0)

-- so nothing changes after enough steps
settles : {X : Type 0} (order : List ℕ) (step : (ℕ → X) → ℕ → X) (start : ℕ → X) → LooksBefore order step → (bound p : ℕ) → p < bound → p < length order → (m n : ℕ) → p < m → p < n
    → following step start m (get_or order p 0) ≡ following step start n (get_or order p 0)
settles order step start looks zero p small inside m n few many = absurd (omega arith)
settles order step start looks (suc bound) p small inside zero n few many = absurd (omega arith)
settles order step start looks (suc bound) p small inside (suc m) zero few many = absurd (omega arith)
settles order step start looks (suc bound) p small inside (suc m) (suc n) few many =
    looks (following step start m) (following step start n) p inside (λ q before.
    settles order step start looks bound q (omega arith) (omega arith) m n (omega arith) (omega arith))

fixed : {X : Type 0} (order : List ℕ) (step : (ℕ → X) → ℕ → X) (start : ℕ → X) → LooksBefore order step → (p : ℕ) → p < length order
    → following step start (length order) (get_or order p 0) ≡ step (following step start (length order)) (get_or order p 0)
fixed order step start looks p inside = settles order step start looks (suc p) p (omega arith) inside (length order) (suc (length order)) inside (omega arith)

-- the anchors of a child, where its anchors have the same sides
map_same : {X Y : Type 0} (o : Option X) (f g : X → Y) → ((x : X) → o ≡ Some x → f x ≡ g x) → option_map f o ≡ option_map g o
map_same None f g same = refl
map_same (Some x) f g same = ap Some (same x refl)

-- an order of the children on an axis
abbrev pub IsKidOrder : Axis → List Child → List ℕ → Type 0
IsKidOrder axis kids order = IsOrder (leads axis (links_of kids)) (length (links_of kids)) order

-- sides that are the same for all that take part in layout and come before a place
abbrev pub AgreeBefore : List Child → List ℕ → (ℕ → ℤ × ℤ) → (ℕ → ℤ × ℤ) → ℕ → Type 0
AgreeBefore kids order f g p = (q : ℕ) → q < p → shown_at kids (get_or order q 0) ≡ true → f (get_or order q 0) ≡ g (get_or order q 0)

pub anchor_same : (rtl : Bool) (axis : Axis) (kids : List Child) (order : List ℕ) → IsKidOrder axis kids order → (f g : ℕ → ℤ × ℤ) (tie : Tie) (p : ℕ) → p < length order
    → AgreeBefore kids order f g p → anchor_by rtl axis kids f tie (get_or order p 0) ≡ anchor_by rtl axis kids g tie (get_or order p 0)
anchor_same rtl axis kids order is f g tie p inside same =
    let place = get_or order p 0 in
    let with : (ℕ → ℤ × ℤ) → ℕ → Anchor = λ spans sibling. anchor_with axis (child_at kids sibling).facts (spans sibling) in
    map_same (anchor_of rtl axis tie (links_of kids) (λ sibling. is_shown (child_at kids sibling).facts) place) (with f) (with g) (λ sibling found.
    let q = anchor_before rtl axis tie (links_of kids) (λ sibling. is_shown (child_at kids sibling).facts) order is.anchors p sibling inside found in
    let here = anchor_shown (length (links_of kids)) (shown_at kids) (named_sibling rtl axis tie (links_of kids)) place sibling found in
    let here' : shown_at kids (get_or order q.0 0) ≡ true = ap (shown_at kids) q.2 ∙ here in
    ap (anchor_with axis (child_at kids sibling).facts) (subst (λ at. f at ≡ g at) q.2 (same q.0 q.1 here')))

pub anchors_same : (rtl : Bool) (axis : Axis) (kids : List Child) (order : List ℕ) → IsKidOrder axis kids order → (f g : ℕ → ℤ × ℤ) (p : ℕ) → p < length order
    → AgreeBefore kids order f g p → anchors_by rtl axis kids f (get_or order p 0) ≡ anchors_by rtl axis kids g (get_or order p 0)
anchors_same rtl axis kids order is f g p inside same =
    let one : (tie : Tie) → anchor_by rtl axis kids f tie (get_or order p 0) ≡ anchor_by rtl axis kids g tie (get_or order p 0) = λ tie. anchor_same rtl axis kids order is f g tie p inside same in
    rw (one Before, one After, one AlignNear, one AlignFar) refl

across_looks : (own : Facts) (specs : Specs) (kids : List Child) (order : List ℕ) → IsKidOrder Horizontal kids order → LooksBefore order (span_across own specs kids)
across_looks own specs kids order is f g p inside same = rw (anchors_same own.rtl Horizontal kids order is f g p inside (λ q before here. same q before)) refl

down_looks : (own : Facts) (specs : Specs) (kids : List Child) (across : ℕ → ℤ × ℤ) (order : List ℕ) → IsKidOrder Vertical kids order → LooksBefore order (span_down own specs kids across)
down_looks own specs kids across order is f g p inside same = rw (anchors_same own.rtl Vertical kids order is f g p inside (λ q before here. same q before)) refl

-- the sides of all children
sized : (axis : Axis) (kids : List Child) (order : List ℕ) → IsKidOrder axis kids order → length order ≡ length kids
sized axis kids order is = is.size ∙ length-map kids (λ (kid : Child). link_of kid.facts)

pub spans_across-fixed : (own : Facts) (specs : Specs) (kids : List Child) (order : List ℕ) → IsKidOrder Horizontal kids order → (p : ℕ) → p < length order
    → spans_across own specs kids (get_or order p 0) ≡ span_across own specs kids (spans_across own specs kids) (get_or order p 0)
spans_across-fixed own specs kids order is p inside =
    let step = span_across own specs kids in
    subst (λ count. following step unknown count (get_or order p 0) ≡ step (following step unknown count) (get_or order p 0)) (sized Horizontal kids order is)
    (fixed order step unknown (across_looks own specs kids order is) p inside)

pub spans_down-fixed : (own : Facts) (specs : Specs) (kids : List Child) (across : ℕ → ℤ × ℤ) (order : List ℕ) → IsKidOrder Vertical kids order → (p : ℕ) → p < length order
    → spans_down own specs kids across (get_or order p 0) ≡ span_down own specs kids across (spans_down own specs kids across) (get_or order p 0)
spans_down-fixed own specs kids across order is p inside =
    let step = span_down own specs kids across in
    subst (λ count. following step unknown count (get_or order p 0) ≡ step (following step unknown count) (get_or order p 0)) (sized Vertical kids order is)
    (fixed order step unknown (down_looks own specs kids across order is) p inside)
