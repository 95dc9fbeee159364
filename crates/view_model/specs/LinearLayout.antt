-- A linear layout: its children form a line, from left to right or from top to bottom, and share by weight what is left
-- of its length. An axis is vertical or not: `vertical` is that of the line, and `not vertical` the one across it.
use Rattle.std.specs.Prelude.{ℤ, pos, ℕ, ◌+◌, ◌==◌, ◌+ℤ◌, ◌-ℤ◌, ◌*ℤ◌, int_div, int_lt, Bool, false, ◌&&◌, ◌||◌, not}
use Rattle.std.specs.Prelude.{if◌then◌else◌, nat_lt, List, [], ◌∷◌, fold, sum_by, Option, Some, None}
use Rattle.std.specs.Int.{int_max}
use Rattle.std.specs.List.{list_all, list_any}
use Rattle.std.specs.Ordering.{int_eq}
use Rattle.geom_core.specs.Limits.{clamp_size, clamp_coordinate}
use Rattle.geom_core.specs.Numbers.{wrap_content}
use Rattle.geom_core.specs.Spec.{child_spec_of, remaining_of, resolve_of}
use Rattle.geom_core.specs.declared.geometry.Rect.{Rect}
use Rattle.geom_core.specs.declared.geometry.Size.{Size}
use Rattle.geom_core.specs.declared.measuring.Mode.TheVariants.{Exactly}
use Rattle.geom_core.specs.declared.measuring.Spec.{Spec}
use Rattle.view_model.specs.declared.facts.Facts.{Facts}
use Rattle.view_model.specs.declared.placing.Alignment.{Alignment}
use Rattle.view_model.specs.declared.placing.Alignment.TheVariants.{Low, Middle, High}
use Rattle.view_model.specs.declared.placing.Gravity.{Gravity}
use Rattle.view_model.specs.Facts.{is_match, margin_left, margin_right, margins_across, margins_down, padding_across}
use Rattle.view_model.specs.Facts.{padding_down, padding_left, padding_right}
use Rattle.view_model.specs.FrameLayout.{is_exactly}
use Rattle.view_model.specs.Geometry.{rect_at}
use Rattle.view_model.specs.Measuring.{Specs, Measured, Rule}
use Rattle.view_model.specs.Placing.{alignment_across, alignment_down, gravity_for, low_edge, started}

-- what is read on an axis
unfoldable pub size_on : Bool → Size → ℤ
size_on vertical size = if vertical then size.h else size.w

unfoldable pub spec_on : Bool → Specs → Spec
spec_on vertical specs = if vertical then specs.down else specs.across

unfoldable pub dim_on : Bool → Facts → ℤ
dim_on vertical facts = if vertical then facts.height else facts.width

unfoldable pub min_on : Bool → Facts → ℤ
min_on vertical facts = if vertical then facts.min.h else facts.min.w

unfoldable pub margins_on : Bool → Facts → ℤ
margins_on vertical facts = if vertical then margins_down facts else margins_across facts

unfoldable pub padding_on : Bool → Facts → ℤ
padding_on vertical facts = if vertical then padding_down facts else padding_across facts

-- the margin and the padding at its low and at its high end
unfoldable pub low_margin : Bool → Facts → ℤ
low_margin vertical facts = if vertical then facts.margins.top else margin_left facts

unfoldable pub high_margin : Bool → Facts → ℤ
high_margin vertical facts = if vertical then facts.margins.bottom else margin_right facts

unfoldable pub low_padding : Bool → Facts → ℤ
low_padding vertical facts = if vertical then facts.padding.top else padding_left facts

unfoldable pub high_padding : Bool → Facts → ℤ
high_padding vertical facts = if vertical then facts.padding.bottom else padding_right facts

unfoldable pub alignment_on : Bool → Bool → Gravity → Alignment
alignment_on vertical rtl gravity =
    if vertical then alignment_down gravity.down else alignment_across rtl gravity.across

-- the two sides, the two specs and the rectangle of what is known along and beside a line
abbrev pub size_by : Bool → ℤ → ℤ → Size
size_by vertical along beside = if vertical then record { w = beside; h = along } else record { w = along; h = beside }

abbrev pub specs_by : Bool → Spec → Spec → Specs
specs_by vertical along beside =
    if vertical then record { across = beside; down = along } else record { across = along; down = beside }

abbrev pub rect_by : Bool → ℤ → ℤ → Size → Rect
rect_by vertical along beside size = if vertical then rect_at beside along size else rect_at along beside size

-- the greater of two, as one word
unfoldable pub greater : ℤ → ℤ → ℤ
greater a b = int_max a b

-- what a child takes of the line with its margins, which may be below 0
unfoldable pub extent : ℤ → ℤ → ℤ
extent size margins = int_max (size +ℤ margins) (pos 0)

abbrev pub extent_of : Bool → Measured → ℤ
extent_of vertical kid = extent (size_on vertical kid.size) (margins_on vertical kid.facts)

-- its breadth, across the line
abbrev pub breadth_of : Bool → Measured → ℤ
breadth_of vertical kid = size_on (not vertical) kid.size +ℤ margins_on (not vertical) kid.facts

-- its part in the breadth of a group that is as broad as its children are: only its margins if it wants to be as broad
-- as the group
unfoldable pub claim : Bool → ℤ → ℤ → ℤ → ℤ
claim exact dim size margins = if not exact && is_match dim then margins else size +ℤ margins

abbrev pub claim_of : Bool → Bool → Measured → ℤ
claim_of vertical exact kid =
    claim exact (dim_on (not vertical) kid.facts) (size_on (not vertical) kid.size)
    (margins_on (not vertical) kid.facts)

unfoldable pub where_even : ℕ → ℤ → ℤ
where_even weight n = if weight == 0 then n else pos 0

unfoldable pub where_weighted : ℕ → ℤ → ℤ
where_weighted weight n = if weight == 0 then pos 0 else n

-- what children take of the line, and their weights
abbrev pub length_of : Bool → List Measured → ℤ
length_of vertical kids = fold (λ sum kid. sum +ℤ extent_of vertical kid) (pos 0) kids

abbrev pub weight_of : List Measured → ℕ
weight_of kids = sum_by (λ (kid : Measured). kid.facts.weight) kids

-- the greatest of a number and what each child has
abbrev pub greatest_from : ℤ → (Measured → ℤ) → List Measured → ℤ
greatest_from least need kids = fold (λ most kid. greater most (need kid)) least kids

-- the greatest breadth, and the greatest claim of the children without weight, of those with weight, and of all
abbrev pub broadest_from : ℤ → Bool → List Measured → ℤ
broadest_from least vertical kids = greatest_from least (breadth_of vertical) kids

abbrev pub even_claim : Bool → Bool → List Measured → ℤ
even_claim vertical exact kids =
    greatest_from (pos 0) (λ kid. where_even kid.facts.weight (claim_of vertical exact kid)) kids

abbrev pub weighted_claim : Bool → Bool → List Measured → ℤ
weighted_claim vertical exact kids =
    greatest_from (pos 0) (λ kid. where_weighted kid.facts.weight (claim_of vertical exact kid)) kids

abbrev pub claim_from : ℤ → Bool → Bool → List Measured → ℤ
claim_from least vertical exact kids = greatest_from least (claim_of vertical exact) kids

-- whether the breadth of the group was given
abbrev pub is_exact_beside : Facts → Specs → Bool
is_exact_beside own specs = is_exactly (spec_on (not own.vertical) specs).mode

-- the first pass: every child, except those that get their length by weight alone
unfoldable pub is_skipped : Spec → ℤ → ℕ → Bool
is_skipped along dim weight = is_exactly along.mode && (int_eq dim (pos 0) && nat_lt 0 weight)

abbrev pub skips : Facts → Specs → Facts → Bool
skips own specs kid = is_skipped (spec_on own.vertical specs) (dim_on own.vertical kid) kid.weight

-- what was taken of the line before a child counts as used if neither it nor one before it has a weight
unfoldable pub used_before : ℕ → ℕ → ℤ → ℤ
used_before weights weight total = if weights + weight == 0 then total else pos 0

-- a child of length 0 with a weight is measured by its content
unfoldable pub first_dim : ℤ → ℕ → ℤ
first_dim dim weight = if int_eq dim (pos 0) && nat_lt 0 weight then wrap_content else dim

abbrev pub spec_beside : Facts → Specs → Facts → Spec
spec_beside own specs kid =
    let beside = not own.vertical in
    child_spec_of (spec_on beside specs) (padding_on beside own +ℤ margins_on beside kid) (dim_on beside kid)

abbrev pub first_along : Facts → Specs → List Measured → Facts → Spec
first_along own specs taken kid =
    let along = own.vertical in
    child_spec_of (spec_on along specs)
    (padding_on along own +ℤ margins_on along kid +ℤ used_before (weight_of taken) kid.weight (length_of along taken))
    (first_dim (dim_on along kid) kid.weight)

abbrev pub first_pass : Facts → Specs → List Measured → Measured → Option Specs
first_pass own specs taken kid =
    if skips own specs kid.facts then None
    else Some (specs_by own.vertical (first_along own specs taken kid.facts) (spec_beside own specs kid.facts))

-- what children and padding take of the line, the length of a group whose children got these sizes in the first pass,
-- and what is left of it, which may be below 0
abbrev pub full_length : Facts → List Measured → ℤ
full_length own kids = length_of own.vertical kids +ℤ padding_on own.vertical own

abbrev pub own_length : Facts → Specs → List Measured → ℤ
own_length own specs first =
    resolve_of (greater (full_length own first) (min_on own.vertical own)) (spec_on own.vertical specs)

abbrev pub spare_of : Facts → Specs → List Measured → ℤ
spare_of own specs first = own_length own specs first -ℤ full_length own first

-- the weight pass: what is left is shared by weight. It runs if a child was skipped, or if there is a weight and
-- something to share
abbrev pub has_weight_pass : Facts → Specs → List Measured → Bool
has_weight_pass own specs first =
    list_any (λ (kid : Measured). skips own specs kid.facts) first
    || (not (int_eq (spare_of own specs first) (pos 0)) && nat_lt 0 (weight_of first))

-- what the weights are counted against: a sum of its own, or the sum of all
unfoldable pub whole_weight : ℕ → ℕ → ℤ
whole_weight sum weights = if nat_lt 0 sum then pos sum else pos weights

-- the share of a weight in what is left
unfoldable pub share : ℤ → ℤ → ℕ → ℤ
share whole spare weight = if int_lt (pos 0) whole then int_div (pos weight *ℤ spare) whole else pos 0

-- what is left to share after some children, and the weight against which that is counted
pub record Rest : Type 0 where
  pub weight : ℤ
  pub spare : ℤ

unfoldable pub after_share : Rest → ℕ → Rest
after_share rest weight =
    record { weight = rest.weight -ℤ pos weight; spare = rest.spare -ℤ share rest.weight rest.spare weight }

abbrev pub rest_of : Facts → Specs → List Measured → List Measured → Rest
rest_of own specs first taken =
    fold (λ rest kid. after_share rest kid.facts.weight)
    (record { weight = whole_weight own.weight_sum (weight_of first); spare = spare_of own specs first }) taken

abbrev pub exactly : ℤ → Spec
exactly size = record { mode = Exactly; size = clamp_size size }

-- the length of a child after the first pass
unfoldable pub first_length : Bool → ℤ → ℤ
first_length skipped size = if skipped then pos 0 else size

abbrev pub shared_length : Facts → Specs → List Measured → List Measured → Measured → ℤ
shared_length own specs first taken kid =
    let rest = rest_of own specs first taken in
    first_length (skips own specs kid.facts) (size_on own.vertical kid.size)
    +ℤ share rest.weight rest.spare kid.facts.weight

abbrev pub weight_pass : Facts → Specs → List Measured → List Measured → Measured → Option Specs
weight_pass own specs first taken kid =
    if kid.facts.weight == 0 then None
    else Some
    (specs_by own.vertical (exactly (shared_length own specs first taken kid)) (spec_beside own specs kid.facts))

-- what the children need across the line: the greatest breadth if the group's was given or all children want to be as
-- broad as the group, otherwise the greatest claim
unfoldable pub needed_breadth : Bool → ℤ → ℤ → ℤ
needed_breadth by_breadth broadest claim = if by_breadth then broadest else claim

abbrev pub goes_by_breadth : Facts → Specs → List Measured → Bool
goes_by_breadth own specs first =
    is_exact_beside own specs || list_all (λ (kid : Measured). is_match (dim_on (not own.vertical) kid.facts)) first

-- the same after the first pass and after the weight pass
abbrev pub breadth_once : Facts → Specs → List Measured → ℤ
breadth_once own specs first =
    let exact = is_exact_beside own specs in
    needed_breadth (goes_by_breadth own specs first) (broadest_from (pos 0) own.vertical first)
    (greater (even_claim own.vertical exact first) (weighted_claim own.vertical exact first))

abbrev pub breadth_twice : Facts → Specs → List Measured → List Measured → ℤ
breadth_twice own specs first second =
    let exact = is_exact_beside own specs in
    needed_breadth (goes_by_breadth own specs first)
    (broadest_from (broadest_from (pos 0) own.vertical first) own.vertical second)
    (claim_from (even_claim own.vertical exact first) own.vertical exact second)

-- the breadth of a group whose children need this
unfoldable pub resolved_breadth : ℤ → ℤ → ℤ → Spec → ℤ
resolved_breadth least padding needed spec = resolve_of (int_max least (padding +ℤ needed)) spec

abbrev pub breadth_for : Facts → Specs → ℤ → ℤ
breadth_for own specs needed =
    let beside = not own.vertical in
    resolved_breadth (min_on beside own) (padding_on beside own) needed (spec_on beside specs)

abbrev pub own_breadth : Facts → Specs → List (List Measured) → ℤ
own_breadth own specs [] = pos 0
own_breadth own specs (first ∷ []) = breadth_for own specs (breadth_once own specs first)
own_breadth own specs (first ∷ second ∷ more) =
    breadth_for own specs
    (if has_weight_pass own specs first then breadth_twice own specs first second else breadth_once own specs first)

-- the uniform pass: children that want to be as broad as the group are. It runs if the group's breadth was not given
abbrev pub uniform_pass : Facts → ℤ → Measured → Option Specs
uniform_pass own breadth kid =
    let beside = not own.vertical in
    if is_match (dim_on beside kid.facts)
    then Some (specs_by own.vertical (exactly (size_on own.vertical kid.size))
    (record { mode = Exactly; size = remaining_of breadth (padding_on beside own +ℤ margins_on beside kid.facts) }))
    else None

-- the rule of a linear layout: the first pass, and then those of the other two that run
abbrev pub linear_ask : Facts → Specs → List (List Measured) → List Measured → Measured → Option Specs
linear_ask own specs [] taken kid = first_pass own specs taken kid
linear_ask own specs (first ∷ []) taken kid =
    if has_weight_pass own specs first then weight_pass own specs first taken kid
    else uniform_pass own (own_breadth own specs (first ∷ [])) kid
linear_ask own specs (first ∷ second ∷ more) taken kid =
    uniform_pass own (own_breadth own specs (first ∷ second ∷ [])) kid

abbrev pub linear_turns : Facts → Specs → List (List Measured) → Bool
linear_turns own specs [] = false
linear_turns own specs (first ∷ []) = has_weight_pass own specs first || not (is_exact_beside own specs)
linear_turns own specs (first ∷ second ∷ []) = has_weight_pass own specs first && not (is_exact_beside own specs)
linear_turns own specs (first ∷ second ∷ third ∷ more) = false

abbrev pub linear_size : Facts → Specs → List (List Measured) → Size
linear_size own specs [] = record { w = pos 0; h = pos 0 }
linear_size own specs (first ∷ more) =
    size_by own.vertical (own_length own specs first) (own_breadth own specs (first ∷ more))

-- what children and padding take of the line after the last pass that gave them their lengths
abbrev pub linear_total : Facts → Specs → List (List Measured) → ℤ
linear_total own specs [] = pos 0
linear_total own specs (first ∷ []) = full_length own first
linear_total own specs (first ∷ second ∷ more) =
    if has_weight_pass own specs first then full_length own second else full_length own first

abbrev pub linear_rule : Facts → Specs → Rule
linear_rule own specs = record {
  ask = linear_ask own specs;
  turns = linear_turns own specs;
  size = linear_size own specs;
  total = linear_total own specs;
}

-- whether children are in the line from the last to the first: in a horizontal one whose group runs from right to left
abbrev pub is_backwards : Facts → Bool
is_backwards own = not own.vertical && own.rtl

-- where the line begins, by the group's gravity, in a group that has `room` pixels on its axis
unfoldable pub line_begin : Alignment → ℤ → ℤ → ℤ → ℤ
line_begin Low padding room total = padding
line_begin Middle padding room total = padding +ℤ int_div (room -ℤ total) (pos 2)
line_begin High padding room total = padding +ℤ (room -ℤ total)

-- what children that were placed have taken of it
abbrev pub passed : Bool → List Measured → ℤ
passed vertical before =
    fold (λ sum kid. sum +ℤ size_on vertical kid.size +ℤ margins_on vertical kid.facts) (pos 0) before

-- the low edges of a child along the line and across it
abbrev pub edge_along : Facts → Size → ℤ → List Measured → Facts → ℤ
edge_along own room total before kid =
    let along = own.vertical in
    line_begin (alignment_on along own.rtl (started own.gravity)) (low_padding along own) (size_on along room) total
    +ℤ passed along before +ℤ low_margin along kid

abbrev pub edge_beside : Facts → Size → Measured → ℤ
edge_beside own room kid =
    let beside = not own.vertical in
    low_edge (alignment_on beside own.rtl (gravity_for own.gravity kid.facts.layout_gravity))
    (record { size = size_on beside room; before = low_padding beside own; after = high_padding beside own })
    (record {
      size = size_on beside kid.size;
      before = low_margin beside kid.facts;
      after = high_margin beside kid.facts;
    })

-- the rectangle of a child, after those that were placed before it, in a group of the size `room` whose children take
-- `total` pixels of its length
abbrev pub linear_place : Facts → Size → ℤ → List Measured → Measured → Rect
linear_place own room total before kid =
    rect_by own.vertical (clamp_coordinate (edge_along own room total before kid.facts))
    (clamp_coordinate (edge_beside own room kid)) kid.size
