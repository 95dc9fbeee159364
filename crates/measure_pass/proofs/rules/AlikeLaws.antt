-- A linear layout whose children have a number of pixels on both axes and no weight asks each once, for that, under any
-- specs: its final specs, what its children take of its length, and where it places them are the same under any. So it
-- is for a view without children.
use Rattle.std.proofs.Common.{arith, ◌≡◌, ◌≢◌, ℕ, ℤ, pos, negsuc, Bool, true, false, Option, Some, None, List, [], ◌∷◌, ◌++◌, inl, inr, refl, ap, sym, subst, ◌∙◌}
use Rattle.std.proofs.lemmas.Bool.{not-true}
use Rattle.std.proofs.lemmas.Bool.Decides.{nat_tests}
use Rattle.std.proofs.Math.Bool.{and-false}
use Rattle.std.proofs.lemmas.List.Sums.{sum_by-cons}
use Rattle.std.specs.List.{list_any}
use Rattle.std.specs.Ordering.{int_eq}
use Rattle.std.specs.Prelude.{◌+◌, ◌&&◌, ◌||◌, ◌==◌, if◌then◌else◌, int_lt, not, nat_lt, filter, map, reverse}
use Rattle.geom_core.specs.declared.geometry.Rect.{Rect}
use Rattle.geom_core.specs.declared.geometry.Size.{Size}
use Rattle.linear_layout.specs.Line.{exact_specs, is_sized}
use Rattle.linear_layout.proofs.SizedLaws.{both_first, both_second, light_skipped, sized_first}
use Rattle.kept_views.proofs.laid.PlacedKids.{finals_in}
use Rattle.measure_pass.specs.Alike.{AreSized, AsksAlike}
use Rattle.view_model.proofs.ClassLaws.{manner_leaf}
use Rattle.view_model.specs.declared.class.Class.{Class}
use Rattle.view_model.specs.declared.class.Class.TheVariants.{LinearLayout, RelativeLayout}
use Rattle.view_model.specs.Classes.{is_group}
use Rattle.view_model.specs.declared.facts.Facts.{Facts}
use Rattle.view_model.specs.Course.{Child, MeasuringProgress, Requested, after_phase, after_turn, asked_for, begun, ended, last_of, measured_of, one_phase, phases_on, size_in, sizes_of}
use Rattle.view_model.specs.Facts.{is_match, is_shown}
use Rattle.view_model.specs.Forest.{Forest, Nothing, Branch}
use Rattle.view_model.specs.Layout.{Final, Placed, Spot, children_of, course_in, final_by, final_size, final_specs, for_layout, manner_by, place_in, placed_back, placed_from, placed_in, placement, places_backwards, total_by, total_size}
use Rattle.view_model.specs.LinearLayout.{dim_on, first_pass, full_length, has_weight_pass, is_exact_beside, linear_ask, linear_rule, linear_total, own_breadth, skips, spare_of, uniform_pass, weight_of, weight_pass}
use Rattle.view_model.specs.Measuring.{Manner, Measured, Rule, Specs}
use Rattle.view_model.specs.PlainTree.{PlainView}
use Rattle.view_tree.specs.Rows.{Row, views_of}

abbrev AllSized : List Child → Type 0
AllSized [] = Unit {0}
AllSized (kid ∷ kids) = (is_shown kid.facts ≡ true → is_sized kid.facts ≡ true) × AllSized kids

-- a child that was asked once for its own size, if it takes part in layout
abbrev own_kid : Child → Requested
own_kid kid = record { child = kid; requests = if is_shown kid.facts then exact_specs kid.facts ∷ [] else []; edges = None }

abbrev own_kids : List Child → List Requested
own_kids kids = map own_kid kids

first_turn : (v : Bool) (answer : Option Specs) (kid : Child) → (v ≡ true → answer ≡ Some (exact_specs kid.facts))
    → (let start : Requested = record { child = kid; requests = []; edges = None } in if v then asked_for answer start else start)
    ≡ record { child = kid; requests = if v then exact_specs kid.facts ∷ [] else []; edges = None }
first_turn true answer kid is =
    let start : Requested = record { child = kid; requests = []; edges = None } in
    ap (λ (answer : Option Specs). asked_for answer start) (is refl)
first_turn false answer kid is = refl

after_first : (own : Facts) (specs : Specs) (taken : List Measured) (kids : List Child) → AllSized kids
    → after_phase (linear_ask own specs []) taken (begun kids).kids ≡ own_kids kids
after_first own specs taken [] s = refl
after_first own specs taken (kid ∷ kids) s =
    let ask = linear_ask own specs [] in
    let start : Requested = record { child = kid; requests = []; edges = None } in
    let turn : after_turn ask taken start ≡ own_kid kid =
    first_turn (is_shown kid.facts) (first_pass own specs taken (measured_of start)) kid (λ here. sized_first own specs taken (measured_of start) (s.0 here)) in
    ap (λ (next : Requested). next ∷ after_phase ask (taken ++ size_in next) (begun kids).kids) turn
    ∙ ap (λ (more : List Requested). own_kid kid ∷ more) (after_first own specs (taken ++ size_in (own_kid kid)) kids s.1)

-- a phase that asks none of them
second_turn : (v : Bool) (answer : Option Specs) (kid : Requested) → (v ≡ true → answer ≡ None) → (if v then asked_for answer kid else kid) ≡ kid
second_turn true answer kid is = ap (λ (answer : Option Specs). asked_for answer kid) (is refl)
second_turn false answer kid is = refl

after_second : (ask : List Measured → Measured → Option Specs) (taken : List Measured) (kids : List Child)
    → ((taken : List Measured) (kid : Measured) → is_sized kid.facts ≡ true → ask taken kid ≡ None) → AllSized kids → after_phase ask taken (own_kids kids) ≡ own_kids kids
after_second ask taken [] none s = refl
after_second ask taken (kid ∷ kids) none s =
    let turn : after_turn ask taken (own_kid kid) ≡ own_kid kid =
    second_turn (is_shown kid.facts) (ask taken (measured_of (own_kid kid))) (own_kid kid) (λ here. none taken (measured_of (own_kid kid)) (s.0 here)) in
    ap (λ (next : Requested). next ∷ after_phase ask (taken ++ size_in next) (own_kids kids)) turn
    ∙ ap (λ (more : List Requested). own_kid kid ∷ more) (after_second ask (taken ++ size_in (own_kid kid)) kids none s.1)

-- what such a child is not
light : (facts : Facts) → is_sized facts ≡ true → facts.weight ≡ 0
light facts sized =
    let both : (not (int_lt facts.height (pos 0)) && facts.weight == 0) ≡ true = both_second (not (int_lt facts.width (pos 0))) _ sized in
    let none : (facts.weight == 0) ≡ true = both_second (not (int_lt facts.height (pos 0))) (facts.weight == 0) both in
    grind (arith, nat_tests)

no_match : (dim : ℤ) → int_lt dim (pos 0) ≡ false → is_match dim ≡ false
no_match (pos n) long = refl
no_match (negsuc n) long = absurd (let e : true ≡ false = long in cc)

unmatched : (v : Bool) (facts : Facts) → is_sized facts ≡ true → is_match (dim_on v facts) ≡ false
unfolding dim_on
unmatched true facts sized = no_match facts.height (not-true _ (both_first _ _ (both_second _ _ sized)))
unmatched false facts sized = no_match facts.width (not-true _ (both_first _ _ sized))

any_in : (p : Measured → Bool) (v : Bool) (m : Measured) (more : List Measured) → (v ≡ true → p m ≡ false) → list_any p more ≡ false
    → list_any p ((if v then m ∷ [] else []) ++ more) ≡ false
any_in p true m more off rest = ap (λ (b : Bool). b || list_any p more) (off refl) ∙ rest
any_in p false m more off rest = rest

weight_in : (v : Bool) (m : Measured) (more : List Measured) → (v ≡ true → m.facts.weight ≡ 0) → weight_of more ≡ 0 → weight_of ((if v then m ∷ [] else []) ++ more) ≡ 0
weight_in true m more off rest =
    let sum : weight_of (m ∷ more) ≡ m.facts.weight + weight_of more = sum_by-cons (λ (kid : Measured). kid.facts.weight) m more in
    let none : m.facts.weight ≡ 0 = off refl in
    sum ∙ (let all : m.facts.weight + weight_of more ≡ 0 = omega arith in all)
weight_in false m more off rest = rest

none_skipped : (own : Facts) (specs : Specs) (kids : List Child) → AllSized kids → list_any (λ (kid : Measured). skips own specs kid.facts) (sizes_of (own_kids kids)) ≡ false
none_skipped own specs [] s = refl
none_skipped own specs (kid ∷ kids) s =
    any_in (λ (kid : Measured). skips own specs kid.facts) (is_shown kid.facts) (measured_of (own_kid kid)) (sizes_of (own_kids kids))
    (λ here. light_skipped _ _ kid.facts.weight (light kid.facts (s.0 here))) (none_skipped own specs kids s.1)

none_weighed : (kids : List Child) → AllSized kids → weight_of (sizes_of (own_kids kids)) ≡ 0
none_weighed [] s = refl
none_weighed (kid ∷ kids) s =
    weight_in (is_shown kid.facts) (measured_of (own_kid kid)) (sizes_of (own_kids kids)) (λ here. light kid.facts (s.0 here)) (none_weighed kids s.1)

no_weight_pass : (own : Facts) (specs : Specs) (kids : List Child) → AllSized kids → has_weight_pass own specs (sizes_of (own_kids kids)) ≡ false
no_weight_pass own specs kids s =
    let first = sizes_of (own_kids kids) in
    ap (λ (b : Bool). b || (not (int_eq (spare_of own specs first) (pos 0)) && nat_lt 0 (weight_of first))) (none_skipped own specs kids s)
    ∙ ap (λ (w : ℕ). not (int_eq (spare_of own specs first) (pos 0)) && nat_lt 0 w) (none_weighed kids s)
    ∙ and-false _

unmatched_none : (own : Facts) (breadth : ℤ) (kid : Measured) → is_sized kid.facts ≡ true → uniform_pass own breadth kid ≡ None
unmatched_none own breadth kid sized = rw (unmatched (not own.vertical) kid.facts sized) refl

-- the course of its measuring
record EndsOwn (own : Facts) (specs : Specs) (kids : List Child) (progress : MeasuringProgress) : Type 0 where
  asked : progress.kids ≡ own_kids kids
  total : linear_total own specs progress.past ≡ full_length own (sizes_of (own_kids kids))

module _ (own : Facts) (specs : Specs) (kids : List Child) (s : AllSized kids) where
  abbrev first : List Measured
  first = sizes_of (own_kids kids)

  abbrev once : MeasuringProgress
  once = record { past = first ∷ []; kids = own_kids kids }

  abbrev twice : MeasuringProgress
  twice = record { past = first ∷ first ∷ []; kids = own_kids kids }

  abbrev rule : Rule
  rule = linear_rule own specs

  once_is : one_phase rule (begun kids) ≡ once
  once_is = ap (λ (kids : List Requested). let p : MeasuringProgress = record { past = sizes_of kids ∷ []; kids = kids } in p) (after_first own specs [] kids s)

  none_asked : (taken : List Measured) (kid : Measured) → is_sized kid.facts ≡ true → linear_ask own specs (first ∷ []) taken kid ≡ None
  none_asked taken kid sized =
      let breadth = own_breadth own specs (first ∷ []) in
      ap (λ (b : Bool). if b then weight_pass own specs first taken kid else uniform_pass own breadth kid) (no_weight_pass own specs kids s)
      ∙ unmatched_none own breadth kid sized

  twice_is : one_phase rule once ≡ twice
  twice_is =
      ap (λ (kids : List Requested). let p : MeasuringProgress = record { past = first ∷ sizes_of kids ∷ []; kids = kids } in p)
      (after_second (linear_ask own specs (first ∷ [])) [] kids none_asked s)

  third_is : phases_on 1 rule twice ≡ twice
  third_is =
      ap (λ (b : Bool). if b && not (is_exact_beside own specs) then phases_on 0 rule (one_phase rule twice) else twice) (no_weight_pass own specs kids s)

  ends_once : EndsOwn own specs kids once
  ends_once = record { asked = refl; total = refl }

  ends_twice : EndsOwn own specs kids twice
  ends_twice = record { asked = refl; total = ap (λ (b : Bool). if b then full_length own first else full_length own first) (no_weight_pass own specs kids s) }

  ends : EndsOwn own specs kids (ended rule kids)
  ends = subst (λ (p : MeasuringProgress). EndsOwn own specs kids (phases_on 2 rule p)) (sym once_is) (by_turn (rule.turns (first ∷ [])) refl)
    where
      by_turn : (b : Bool) → rule.turns (first ∷ []) ≡ b → EndsOwn own specs kids (phases_on 2 rule once)
      by_turn true is =
          subst (EndsOwn own specs kids) (sym (ap (λ (b : Bool). if b then phases_on 1 rule (one_phase rule once) else once) is ∙ ap (phases_on 1 rule) twice_is ∙ third_is)) ends_twice
      by_turn false is = subst (EndsOwn own specs kids) (sym (ap (λ (b : Bool). if b then phases_on 1 rule (one_phase rule once) else once) is)) ends_once

-- the final specs of the children
abbrev own_final : Child → Final
own_final kid = record { child = kid; specs = exact_specs kid.facts; edges = None }

abbrev own_finals : List Child → List Final
own_finals [] = []
own_finals (kid ∷ kids) = if is_shown kid.facts then own_final kid ∷ own_finals kids else own_finals kids

one_final : (specs : Specs) (v : Bool) (kid : Child) (more : List Requested) (finals : List Final)
    → map (λ (kid : Requested). let f : Final = record { child = kid.child; specs = last_of specs kid.requests; edges = kid.edges } in f) more ≡ finals
    → map (λ (kid : Requested). let f : Final = record { child = kid.child; specs = last_of specs kid.requests; edges = kid.edges } in f)
    (if v then (let r : Requested = record { child = kid; requests = if v then exact_specs kid.facts ∷ [] else []; edges = None } in r) ∷ more else more)
    ≡ (if v then own_final kid ∷ finals else finals)
one_final specs true kid more finals is = ap (λ (finals : List Final). own_final kid ∷ finals) is
one_final specs false kid more finals is = is

finals_are : (specs : Specs) (kids : List Child) → finals_in specs (own_kids kids) ≡ own_finals kids
finals_are specs [] = refl
finals_are specs (kid ∷ kids) =
    one_final specs (is_shown kid.facts) kid (filter (λ (kid : Requested). is_shown kid.child.facts) (own_kids kids)) (own_finals kids) (finals_are specs kids)

-- of a view of this class
finals_by : (view : PlainView) (kids : List Child) (specs : Specs) → view.class ≡ LinearLayout → AllSized kids → final_by view kids specs ≡ own_finals kids
finals_by view kids specs class s =
    ap (λ (c : Class). finals_in specs (course_in (manner_by c view specs) view kids specs).kids) class
    ∙ ap (finals_in specs) (ends view.facts specs kids s).asked
    ∙ finals_are specs kids

totals_by : (view : PlainView) (kids : List Child) (specs : Specs) → view.class ≡ LinearLayout → AllSized kids
    → total_by view kids specs ≡ full_length view.facts (sizes_of (own_kids kids))
totals_by view kids specs class s =
    ap (λ (c : Class). (course_in (manner_by c view specs) view kids specs).total) class ∙ (ends view.facts specs kids s).total

-- its places, which do not look at its specs
abbrev spot_with : PlainView → Size → ℤ → Specs → Spot
spot_with view room total specs = record { view = view; specs = specs; room = room; total = total }

abbrev rects_of : List Placed → List Rect
rects_of placed = map (λ (kid : Placed). kid.rect) placed

from_alike : (view : PlainView) (room : Size) (total : ℤ) (a b : Specs) (before : List Measured) (kids : List Final)
    → placed_from (spot_with view room total a) before kids ≡ placed_from (spot_with view room total b) before kids
from_alike view room total a b before [] = refl
from_alike view room total a b before (kid ∷ kids) =
    ap (λ (more : List Placed). (let p : Placed = record { child = kid.child; specs = kid.specs; rect = place_in (spot_with view room total a) before (final_size kid) kid.edges } in p) ∷ more)
    (from_alike view room total a b (before ++ final_size kid ∷ []) kids)

back_alike : (view : PlainView) (room : Size) (total : ℤ) (a b : Specs) (kids : List Final)
    → placed_back (spot_with view room total a) kids ≡ placed_back (spot_with view room total b) kids
back_alike view room total a b [] = refl
back_alike view room total a b (kid ∷ kids) =
    ap (λ (more : List Placed).
    (let p : Placed = record { child = kid.child; specs = kid.specs; rect = place_in (spot_with view room total a) (reverse (map final_size kids)) (final_size kid) kid.edges } in p) ∷ more)
    (back_alike view room total a b kids)

placed_alike : (view : PlainView) (room : Size) (total : ℤ) (a b : Specs) (kids : List Final)
    → placed_in (spot_with view room total a) kids ≡ placed_in (spot_with view room total b) kids
placed_alike view room total a b kids =
    ap (λ (placed : List Placed). if places_backwards view.class view.facts then placed else placed_from (spot_with view room total a) [] kids) (back_alike view room total a b kids)
    ∙ ap (λ (placed : List Placed). if places_backwards view.class view.facts then placed_back (spot_with view room total b) kids else placed) (from_alike view room total a b [] kids)

-- the children of a view in its row
sized_children : (kids : Forest Row) → AreSized kids → AllSized (children_of (views_of kids))
sized_children Nothing s = tt
sized_children (Branch row kids siblings) s = (s.0, sized_children siblings s.1)

-- what a view asks of its children, and where it places them, is the same under these specs
pub record IsAlike (row : Row) (kids : Forest Row) (a b : Specs) : Type 0 where
  pub specs : final_specs row.view (views_of kids) a ≡ final_specs row.view (views_of kids) b
  pub total : total_size row.view (views_of kids) a ≡ total_size row.view (views_of kids) b
  pub places : (room : Size) → placement row.view (views_of kids) a room ≡ placement row.view (views_of kids) b room
  pub untied : row.view.class ≢ RelativeLayout

alike_of : (row : Row) (kids : Forest Row) (a b : Specs)
    → final_by (for_layout row.view) (children_of (views_of kids)) a ≡ final_by (for_layout row.view) (children_of (views_of kids)) b
    → total_by (for_layout row.view) (children_of (views_of kids)) a ≡ total_by (for_layout row.view) (children_of (views_of kids)) b
    → row.view.class ≢ RelativeLayout → IsAlike row kids a b
alike_of row kids a b finals_alike total_alike untied = record {
  specs = ap (λ (finals : List Final). map (λ (kid : Final). kid.specs) finals) finals_alike;
  total = total_alike;
  places = λ room.
      let view = for_layout row.view in
      let finals = final_by view (children_of (views_of kids)) a in
      let total = total_by view (children_of (views_of kids)) a in
      ap rects_of (placed_alike view room total a b finals)
      ∙ ap (λ (finals : List Final). rects_of (placed_in (spot_with view room total b) finals)) finals_alike
      ∙ ap (λ (total : ℤ). rects_of (placed_in (spot_with view room total b) (final_by view (children_of (views_of kids)) b))) total_alike;
  untied = untied;
}

alike_sized : (row : Row) (kids : Forest Row) (a b : Specs) → row.view.class ≡ LinearLayout → AreSized kids → IsAlike row kids a b
alike_sized row kids a b class sized =
    let view = for_layout row.view in
    let below = children_of (views_of kids) in
    let s = sized_children kids sized in
    alike_of row kids a b (finals_by view below a class s ∙ sym (finals_by view below b class s)) (totals_by view below a class s ∙ sym (totals_by view below b class s))
    (λ tied. let e : LinearLayout ≡ RelativeLayout = sym class ∙ tied in absurd (cc))

-- of a view that has no children
finals_of_leaf : (view : PlainView) (specs : Specs) → is_group view.class ≡ false → final_by view [] specs ≡ []
finals_of_leaf view specs leaf = ap (λ (manner : Manner). finals_in specs (course_in manner view [] specs).kids) (manner_leaf view.class view specs leaf)

total_of_leaf : (view : PlainView) (specs : Specs) → is_group view.class ≡ false → total_by view [] specs ≡ pos 0
total_of_leaf view specs leaf = ap (λ (manner : Manner). (course_in manner view [] specs).total) (manner_leaf view.class view specs leaf)

alike_leaf : (row : Row) (a b : Specs) → is_group row.view.class ≡ false → IsAlike row Nothing a b
alike_leaf row a b leaf =
    let view = for_layout row.view in
    alike_of row Nothing a b (finals_of_leaf view a leaf ∙ sym (finals_of_leaf view b leaf)) (total_of_leaf view a leaf ∙ sym (total_of_leaf view b leaf))
    (λ tied. let e : true ≡ false = sym (ap is_group tied) ∙ leaf in absurd (cc))

pub alike_by : (row : Row) (kids : Forest Row) (a b : Specs) → AsksAlike row.view.class kids → (is_group row.view.class ≡ false → kids ≡ Nothing) → IsAlike row kids a b
alike_by row kids a b (inl leaf) childless = subst (λ (kids : Forest Row). IsAlike row kids a b) (sym (childless leaf)) (alike_leaf row a b leaf)
alike_by row kids a b (inr (class, sized)) childless = alike_sized row kids a b class sized
