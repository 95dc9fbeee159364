-- A view that is laid, with what is below it.
use Rattle.std.proofs.Common.{◌≡◌, ◌≢◌, ℕ, ◌<◌, ◌≤◌, Bool, true, false, Option, List, [], ◌∷◌, ◌++◌, Some, None, refl, sym, ◌∙◌, ap, subst, arith, inl, inr}
use Rattle.std.specs.Prelude.{ℤ, if◌then◌else◌}
use Rattle.std.specs.Ordering.{int_eq}
use Rattle.std.proofs.lemmas.Bool.{both_ways, cases_Bool, false_from_ne_true}
use Rattle.std.proofs.lemmas.Bool.Decides.{Decides-int_eq}
use Rattle.std.proofs.lemmas.List.{append-nil}
use Rattle.geom_core.specs.declared.geometry.Rect.{Rect}
use Rattle.view_model.specs.declared.class.Class.TheVariants.{RelativeLayout}
use Rattle.view_model.specs.Facts.{is_shown}
use Rattle.view_model.specs.Forest.{Forest, Nothing, Branch}
use Rattle.view_model.specs.Geometry.{Laid, size_of_rect}
use Rattle.view_model.specs.Layout.{Spot, final_edges, final_specs, laid_views, place_in, placement, total_size, for_layout}
use Rattle.view_model.specs.Measuring.{Measured, Specs}
use Rattle.view_model.specs.Offsets.{brought, range_by}
use Rattle.view_model.specs.RelativeLayout.{sides_of}
use Rattle.view_tree.proofs.forest.KeyLaws.{own_more}
use Rattle.view_tree.specs.Rows.{Row, count_of_key, views_of}
use Rattle.view_tree.specs.Views.{Held, laid_at, laid_rows, specs_of}
use Rattle.kept_views.specs.Kept.{InRange, Kept, Reached, ShownView, firm, first_place, hidden_in, inside, last_edges, last_places, last_specs, loose}
use Rattle.kept_views.specs.Laying.{Fit, IsPut, IsQuietAll, Wrote, group_all, group_kids, group_kids_back, kid_place, kid_sizes, kid_under, moved_to, ranged_own, same_place, sizes_back, some_all, spot_of}
use Rattle.kept_views.specs.Passes.{settled}
use Rattle.kept_views.proofs.laid.Brought.{brought-along, brought-start, brought_again, brought_calm}
use Rattle.kept_views.proofs.KeptFrames.{Kept-along, Same, edges-along, first-along, places-along, specs-along}
use Rattle.kept_views.proofs.laid.LaidCalm.{all_calm, laid_calm, to_firm}
use Rattle.kept_views.proofs.laid.LaidFrames.{Reached-along, laid_rows-along, places_all-along}
use Rattle.kept_views.proofs.laid.PlacedKids.{cons_head, cons_tail, laid_gone, laid_group, places_group}

some_is : {A : Type 0} {x y : A} → Some x ≡ Some y → x ≡ y
some_is e = cc

no_false : {A : Type 0} → false ≡ true → A
no_false e = absurd (cc)

abbrev pub spot_for : Row → Forest Row → Specs → Rect → Spot
spot_for row kids specs rect = record { view = for_layout row.view; specs = specs; room = size_of_rect rect; total = total_size row.view (views_of kids) specs }

-- a view with this rectangle, whose children are where it places them
lies_row : (held : ℕ → Held) (row : Row) (kids : Forest Row) (specs : Specs) (rect : Rect) → is_shown row.view.facts ≡ true → (held row.key).state.bounds ≡ Some rect
    → last_specs held kids ≡ final_specs row.view (views_of kids) specs → (row.view.class ≡ RelativeLayout → last_edges held kids ≡ final_edges row.view (views_of kids) specs)
    → laid_rows held kids ≡ group_all (spot_for row kids specs rect) held kids
    → laid_rows held (Branch row kids Nothing) ≡ laid_views row.view (views_of kids) specs rect
lies_row held row kids specs rect here bounds finals edges kids_lie =
    let entry : Laid = record { number = row.view.number; rect = rect } in
    let own : laid_at row.view.number (held row.key).state.bounds ≡ entry ∷ [] = ap (laid_at row.view.number) bounds in
    ap (λ (list : List Laid). list ++ (laid_rows held kids ++ [])) own
    ∙ ap (λ (list : List Laid). entry ∷ list) (append-nil (laid_rows held kids) ∙ kids_lie)
    ∙ sym (laid_group held row kids specs (size_of_rect rect) (spot_for row kids specs rect) finals edges refl rect refl here)

shown_loose : (row : Row) → is_shown row.view.facts ≡ true → hidden_in loose row ≡ false
shown_loose row here = ap (λ v. if v then false else true) here

-- nothing is left to do at a view
pub calm_row : (old held : ℕ → Held) (row : Row) (kids siblings : Forest Row) (rect : Rect) → is_shown row.view.facts ≡ true → Fit held (Branch row kids Nothing)
    → (held row.key).state.forced ≡ false → (held row.key).state.layout_needed ≡ false → (held row.key).state.bounds ≡ Some rect
    → specs_of (held row.key).state ≡ specs_of (old row.key).state → (held row.key).state.edges ≡ (old row.key).state.edges
    → ((key : ℕ) → (held key).offset ≡ (old key).offset)
    → IsPut old held row.key (Branch row kids siblings) rect
calm_row old held row kids siblings rect here fit f d bounds same edges offsets =
    let own = held row.key in
    let specs = specs_of own.state in
    let k = fit.ready.kept in
    let r = fit.ready.reached in
    let v = k.1 (shown_loose row here) in
    let m : own.state.measure_first ≡ false = false_from_ne_true own.state.measure_first (λ e. both_ways own.state.layout_needed d (r.1 e)) in
    let s = v.sized refl f in
    let below : Kept [] held firm kids = to_firm [] held _ _ kids (shown_loose row here) f k.2 in
    let quiet : Reached held false kids = subst (λ b. Reached held b kids) d r.2 in
    let spot = spot_for row kids specs rect in
    let spots = v.placed refl f d rect bounds ∙ ap some_all (places_group held row kids specs (size_of_rect rect) spot (s.finals m) (s.edges m) refl) in
    record {
      kept = (k.0, λ h. record { flags = λ none e. absurd (both_ways own.state.forced f e); cache = v.cache; sized = v.sized; placed = v.placed; ranged = v.ranged }, k.2, tt);
      reached = (λ e. absurd (both_ways own.state.layout_needed d e), r.1, r.2, tt);
      bounds = bounds;
      specs = same;
      edges = edges;
      lies = lies_row held row kids specs rect here bounds (s.finals m) (s.edges m) (all_calm held spot kids (laid_calm held kids below quiet) spots)
          ∙ ap (λ (specs : Specs). laid_views row.view (views_of kids) specs rect) same;
      offsets = (
        offsets row.key ∙ sym (ap (brought (range_by row.view.class row.view.facts own.state.bounds (first_place held kids))) (sym (offsets row.key))
            ∙ ap (λ bounds. brought (range_by row.view.class row.view.facts bounds (first_place held kids)) own.offset) bounds ∙ v.ranged refl f d rect bounds ∙ offsets row.key),
        brought-start old held held kids (λ key here. offsets key) (brought_calm held kids below quiet),
        tt,
      );
    }

pub not_below : (row : Row) (kids : Forest Row) → ((key : ℕ) → count_of_key key (Branch row kids Nothing) ≤ 1) → count_of_key row.key kids ≡ 0
not_below row kids once = let m = own_more row kids Nothing row.key refl in let o = once row.key in omega arith

pub wrote_below : (old new : ℕ → Held) (row : Row) (kids : Forest Row) (own : Held) → ((key : ℕ) → count_of_key key (Branch row kids Nothing) ≤ 1) → Wrote old new row.key own → Same old new kids
wrote_below old new row kids own once w = λ key here. w.others key (λ e. let m = own_more row kids Nothing key (sym e) in let o = once key in absurd (omega arith))

pub not_own : (row : Row) (kids : Forest Row) (key : ℕ) → count_of_key key (Branch row kids Nothing) ≡ 0 → key ≢ row.key
not_own row kids key none e = let m = own_more row kids Nothing key (sym e) in absurd (omega arith)

-- a view that was moved, if it was not there
pub moved_is : (own new : Held) (rect : Rect) (moved : Bool) → same_place own.state.bounds rect ≡ (if moved then false else true) → new ≡ (if moved then moved_to own rect else own) → new ≡ moved_to own rect
moved_is own new rect true e is = is
moved_is own new rect false e is =
    is ∙ ap (λ (bounds : Option Rect). let h : Held = record own { state = record own.state { bounds = bounds } } in h) (there own.state.bounds e)
  where
    tested : {b : Bool} (x y : ℤ) → (if int_eq x y then b else false) ≡ true → (x ≡ y) × (b ≡ true)
    tested x y e = elim (cases_Bool (int_eq x y)) [
      | inl t ↦ ((Decides-int_eq x y).0 t, let g = rw t at e in g)
      | inr f ↦ let g = rw f at e in no_false g
    ]

    there : (bounds : Option Rect) → same_place bounds rect ≡ true → bounds ≡ Some rect
    there None e = no_false e
    there (Some b) e =
        let l = tested b.left rect.left e in
        let t = tested b.top rect.top l.1 in
        let r = tested b.right rect.right t.1 in
        let bottom = (Decides-int_eq b.bottom rect.bottom).0 r.1 in
        ap (λ (rect : Rect). Some rect) (
        ap (λ (x : ℤ). let q : Rect = record { left = x; top = b.top; right = b.right; bottom = b.bottom } in q) l.0
        ∙ ap (λ (x : ℤ). let q : Rect = record { left = rect.left; top = x; right = b.right; bottom = b.bottom } in q) t.0
        ∙ ap (λ (x : ℤ). let q : Rect = record { left = rect.left; top = rect.top; right = x; bottom = b.bottom } in q) r.0
        ∙ ap (λ (x : ℤ). let q : Rect = record { left = rect.left; top = rect.top; right = rect.right; bottom = x } in q) bottom)

-- the layout of a list by the last specs and the sides of its views
group_kids-specs : (spot : Spot) (before : List Measured) (a b : ℕ → Held) (list : Forest Row) → last_specs a list ≡ last_specs b list → last_edges a list ≡ last_edges b list
    → group_kids spot before a list ≡ group_kids spot before b list
group_kids-specs spot before a b Nothing e g = refl
group_kids-specs spot before a b (Branch row kids siblings) e g = elim (cases_Bool (is_shown row.view.facts)) [
  | inl here ↦
      let all = sym (specs_here a here) ∙ e ∙ specs_here b here in
      let sides = sym (edges_here a here) ∙ g ∙ edges_here b here in
      let own : specs_of (a row.key).state ≡ specs_of (b row.key).state = cons_head all in
      let side : sides_of (a row.key).state.edges ≡ sides_of (b row.key).state.edges = cons_head sides in
      ap (λ (specs : Specs). one specs (sides_of (a row.key).state.edges) a) own
      ∙ ap (λ (edges : Option Rect). one (specs_of (b row.key).state) edges a) side
      ∙ ap (λ (list : List Laid). laid_views row.view (views_of kids) (specs_of (b row.key).state) (kid_place spot before (b row.key) row kids) ++ list)
      (group_kids-specs spot (before ++ kid_sizes (specs_of (b row.key).state) row kids) a b siblings (cons_tail all) (cons_tail sides))
  | inr gone ↦
      let rest = sym (specs_gone a gone) ∙ e ∙ specs_gone b gone in
      let sides = sym (edges_gone a gone) ∙ g ∙ edges_gone b gone in
      empty a gone ∙ group_kids-specs spot (before ++ []) a b siblings rest sides ∙ sym (empty b gone)
]
  where
    one : Specs → Option Rect → (ℕ → Held) → List Laid
    one specs edges held = laid_views row.view (views_of kids) specs (place_in spot before (kid_under specs row kids) edges) ++ group_kids spot (before ++ kid_sizes specs row kids) held siblings

    specs_here : (held : ℕ → Held) → is_shown row.view.facts ≡ true → last_specs held (Branch row kids siblings) ≡ specs_of (held row.key).state ∷ last_specs held siblings
    specs_here held here = rw here refl

    edges_here : (held : ℕ → Held) → is_shown row.view.facts ≡ true → last_edges held (Branch row kids siblings) ≡ sides_of (held row.key).state.edges ∷ last_edges held siblings
    edges_here held here = rw here refl

    specs_gone : (held : ℕ → Held) → is_shown row.view.facts ≡ false → last_specs held (Branch row kids siblings) ≡ last_specs held siblings
    specs_gone held gone = rw gone refl

    edges_gone : (held : ℕ → Held) → is_shown row.view.facts ≡ false → last_edges held (Branch row kids siblings) ≡ last_edges held siblings
    edges_gone held gone = rw gone refl

    empty : (held : ℕ → Held) → is_shown row.view.facts ≡ false → group_kids spot before held (Branch row kids siblings) ≡ group_kids spot (before ++ []) held siblings
    empty held gone =
        ap (λ (list : List Laid). list ++ group_kids spot (before ++ kid_sizes (specs_of (held row.key).state) row kids) held siblings)
        (laid_gone row kids (specs_of (held row.key).state) (kid_place spot before (held row.key) row kids) gone)
        ∙ ap (λ v. group_kids spot (before ++ (if v then kid_under (specs_of (held row.key).state) row kids ∷ [] else [])) held siblings) gone

-- the same from the last to the first
abbrev back_of : Specs → Row → Forest Row → List Measured → List Measured
back_of specs row kids sizes = sizes ++ kid_sizes specs row kids

sizes_back-specs : (a b : ℕ → Held) (list : Forest Row) → last_specs a list ≡ last_specs b list → sizes_back a list ≡ sizes_back b list
sizes_back-specs a b Nothing e = refl
sizes_back-specs a b (Branch row kids siblings) e = elim (cases_Bool (is_shown row.view.facts)) [
  | inl here ↦
      let all : specs_of (a row.key).state ∷ last_specs a siblings ≡ specs_of (b row.key).state ∷ last_specs b siblings = rw here at e in
      ap (λ (specs : Specs). back_of specs row kids (sizes_back a siblings)) (cons_head all)
      ∙ ap (back_of (specs_of (b row.key).state) row kids) (sizes_back-specs a b siblings (cons_tail all))
  | inr gone ↦
      let rest : last_specs a siblings ≡ last_specs b siblings = rw gone at e in
      rw gone (ap (λ (sizes : List Measured). sizes ++ []) (sizes_back-specs a b siblings rest))
]

group_kids_back-specs : (spot : Spot) (a b : ℕ → Held) (list : Forest Row) → last_specs a list ≡ last_specs b list → last_edges a list ≡ last_edges b list
    → group_kids_back spot a list ≡ group_kids_back spot b list
group_kids_back-specs spot a b Nothing e g = refl
group_kids_back-specs spot a b (Branch row kids siblings) e g = elim (cases_Bool (is_shown row.view.facts)) [
  | inl here ↦
      let all : specs_of (a row.key).state ∷ last_specs a siblings ≡ specs_of (b row.key).state ∷ last_specs b siblings = rw here at e in
      let sides : sides_of (a row.key).state.edges ∷ last_edges a siblings ≡ sides_of (b row.key).state.edges ∷ last_edges b siblings = rw here at g in
      ap (λ (specs : Specs). one specs (sides_of (a row.key).state.edges) (sizes_back a siblings) ++ group_kids_back spot a siblings) (cons_head all)
      ∙ ap (λ (edges : Option Rect). one (specs_of (b row.key).state) edges (sizes_back a siblings) ++ group_kids_back spot a siblings) (cons_head sides)
      ∙ ap (λ (sizes : List Measured). one (specs_of (b row.key).state) (sides_of (b row.key).state.edges) sizes ++ group_kids_back spot a siblings) (sizes_back-specs a b siblings (cons_tail all))
      ∙ ap (λ (list : List Laid). one (specs_of (b row.key).state) (sides_of (b row.key).state.edges) (sizes_back b siblings) ++ list)
      (group_kids_back-specs spot a b siblings (cons_tail all) (cons_tail sides))
  | inr gone ↦
      let rest : last_specs a siblings ≡ last_specs b siblings = rw gone at e in
      let sides : last_edges a siblings ≡ last_edges b siblings = rw gone at g in
      empty a gone ∙ group_kids_back-specs spot a b siblings rest sides ∙ sym (empty b gone)
]
  where
    one : Specs → Option Rect → List Measured → List Laid
    one specs edges sizes = laid_views row.view (views_of kids) specs (place_in spot sizes (kid_under specs row kids) edges)

    empty : (held : ℕ → Held) → is_shown row.view.facts ≡ false → group_kids_back spot held (Branch row kids siblings) ≡ group_kids_back spot held siblings
    empty held gone =
        ap (λ (list : List Laid). list ++ group_kids_back spot held siblings)
        (laid_gone row kids (specs_of (held row.key).state) (kid_place spot (sizes_back held siblings) (held row.key) row kids) gone)

-- the same in the order of the group
group_all-specs : (spot : Spot) (a b : ℕ → Held) (list : Forest Row) → last_specs a list ≡ last_specs b list → last_edges a list ≡ last_edges b list
    → group_all spot a list ≡ group_all spot b list
group_all-specs spot a b list e g = rw (group_kids_back-specs spot a b list e g, group_kids-specs spot [] a b list e g) refl

-- a view whose children were laid
pub put_row : (old fit_held moved laid new : ℕ → Held) (row : Row) (kids siblings : Forest Row) (rect : Rect) → is_shown row.view.facts ≡ true
    → ((key : ℕ) → count_of_key key (Branch row kids Nothing) ≤ 1) → Fit fit_held (Branch row kids Nothing)
    → (fit_held row.key).state.measure_first ≡ false → specs_of (fit_held row.key).state ≡ specs_of (old row.key).state
    → (fit_held row.key).state.edges ≡ (old row.key).state.edges → ((key : ℕ) → (fit_held key).offset ≡ (old key).offset)
    → Wrote fit_held moved row.key (moved_to (fit_held row.key) rect)
    → IsQuietAll laid (spot_of (Branch row kids siblings) (moved row.key) (size_of_rect rect)) moved kids → ((key : ℕ) → count_of_key key kids ≡ 0 → laid key ≡ moved key)
    → Wrote laid new row.key (settled (ranged_own laid row kids (laid row.key)))
    → IsPut old new row.key (Branch row kids siblings) rect
put_row old fit_held moved laid new row kids siblings rect here once fit m same sides offsets w1 quiet others w2 =
    let specs = specs_of (fit_held row.key).state in
    let k = fit.ready.kept in
    let v = k.1 (shown_loose row here) in
    let s = (fit.sized.0 here).0 in
    let mine = moved_to (fit_held row.key) rect in
    let own = settled (ranged_own laid row kids mine) in
    let laid_own : laid row.key ≡ mine = others row.key (not_below row kids once) ∙ w1.at in
    let at : new row.key ≡ own = w2.at ∙ ap (λ mine. settled (ranged_own laid row kids mine)) laid_own in
    let s1 = wrote_below fit_held moved row kids _ once w1 in
    let s2 = wrote_below laid new row kids _ once w2 in
    let finals0 = s.finals m in
    let total0 = s.total m in
    let edges0 = s.edges m in
    let spot = spot_for row kids specs rect in
    let spot_is : spot_of (Branch row kids siblings) (moved row.key) (size_of_rect rect) ≡ spot =
    ap (λ (own : Held). spot_of (Branch row kids siblings) own (size_of_rect rect)) w1.at
    ∙ ap (λ (total : ℤ). let s : Spot = record { view = for_layout row.view; specs = specs; room = size_of_rect rect; total = total } in s) total0 in
    let q : IsQuietAll laid spot moved kids = subst (λ spot. IsQuietAll laid spot moved kids) spot_is quiet in
    let finals : last_specs new kids ≡ final_specs row.view (views_of kids) specs = specs-along laid new kids s2 ∙ q.specs ∙ specs-along fit_held moved kids s1 ∙ finals0 in
    let edges : row.view.class ≡ RelativeLayout → last_edges new kids ≡ final_edges row.view (views_of kids) specs = λ c. edges-along laid new kids s2 ∙ q.edges ∙ edges-along fit_held moved kids s1 ∙ edges0 c in
    let spots : last_places new kids ≡ some_all (placement row.view (views_of kids) specs (size_of_rect rect)) =
    places-along laid new kids s2 ∙ q.places ∙ ap some_all (places_all-along spot fit_held moved kids s1 ∙ sym (places_group fit_held row kids specs (size_of_rect rect) spot finals0 edges0 refl)) in
    let lies : laid_rows new kids ≡ group_all spot new kids =
    laid_rows-along laid new kids s2 ∙ q.lies ∙ sym (group_all-specs spot new moved kids (specs-along laid new kids s2 ∙ q.specs) (edges-along laid new kids s2 ∙ q.edges)) in
    let first : first_place new kids ≡ first_place laid kids = first-along laid new kids s2 in
    let range = range_by row.view.class row.view.facts (Some rect) (first_place laid kids) in
    let in_range : InRange new own row kids rect =
    ap (λ first. brought (range_by row.view.class row.view.facts (Some rect) first) own.offset) first ∙ brought_again range (fit_held row.key).offset in
    let shown : ShownView [] new firm own row kids = record {
      flags = λ none f. no_false f;
      cache = v.cache;
      sized = λ none f. record { size = s.size; finals = λ x. finals; total = λ x. total0; edges = λ x. edges };
      placed = λ none f d other e. spots ∙ ap (λ (rect : Rect). some_all (placement row.view (views_of kids) specs (size_of_rect rect))) (some_is e);
      ranged = λ none f d other e. subst (InRange new own row kids) (some_is e) in_range;
    } in
    let hidden : hidden_in firm row ≡ false = ap (λ v. if v then false else true) here in
    let below : Kept [] new (inside firm row own) kids =
    subst (λ hidden. Kept [] new (record { hidden = hidden; forced = false }) kids) (sym hidden) (Kept-along [] laid new firm kids s2 q.kept) in
    let reached : Reached new false kids = Reached-along laid new false kids s2 q.reached in
    let bounds : (new row.key).state.bounds ≡ Some rect = ap (λ (own : Held). own.state.bounds) at in
    let moved_offset : (key : ℕ) → 0 < count_of_key key kids → (moved key).offset ≡ (old key).offset = λ key here. ap (λ (own : Held). own.offset) (s1 key here) ∙ offsets key in
    record {
      kept = (
        λ h. absurd (both_ways (hidden_in firm row) hidden h),
        λ h. subst (λ own. ShownView [] new firm own row kids) (sym at) shown,
        subst (λ own. Kept [] new (inside firm row own) kids) (sym at) below,
        tt,
      );
      reached = (
        subst (λ (own : Held). own.state.layout_needed ≡ true → (is_shown row.view.facts ≡ true) × (false ≡ true)) (sym at) (λ e. no_false e),
        subst (λ (own : Held). own.state.measure_first ≡ true → own.state.layout_needed ≡ true) (sym at) (λ e. absurd (both_ways (fit_held row.key).state.measure_first m e)),
        subst (λ (own : Held). Reached new own.state.layout_needed kids) (sym at) reached,
        tt,
      );
      bounds = bounds;
      specs = ap (λ (own : Held). specs_of own.state) at ∙ same;
      edges = ap (λ (own : Held). own.state.edges) at ∙ sides;
      lies = lies_row new row kids specs rect here bounds finals edges lies ∙ ap (λ (specs : Specs). laid_views row.view (views_of kids) specs rect) same;
      offsets = (
        ap (λ (own : Held). own.offset) at ∙ ap (brought range) (offsets row.key)
            ∙ ap (λ first. brought (range_by row.view.class row.view.facts (Some rect) first) (old row.key).offset) (sym first)
            ∙ ap (λ bounds. brought (range_by row.view.class row.view.facts bounds (first_place new kids)) (old row.key).offset) (sym bounds),
        brought-start old moved new kids moved_offset (brought-along moved laid new kids s2 q.offsets),
        tt,
      );
    }
