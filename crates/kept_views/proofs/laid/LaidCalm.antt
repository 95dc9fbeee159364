-- If no view is forced and none needs layout, all have the bounds that a layout would give them.
use Rattle.std.proofs.Common.{◌≡◌, ℕ, Bool, true, false, inl, inr, Option, Some, None, List, [], ◌∷◌, ◌++◌, append_assoc, refl, sym, ◌∙◌, ap, subst}
use Rattle.std.proofs.lemmas.Bool.{both_ways, cases_Bool, false_from_ne_true}
use Rattle.std.specs.Prelude.{if◌then◌else◌}
use Rattle.geom_core.specs.declared.geometry.Rect.{Rect}
use Rattle.view_model.specs.Facts.{is_shown}
use Rattle.view_model.specs.Forest.{Forest, Nothing, Branch}
use Rattle.view_model.specs.Geometry.{Laid, size_of_rect}
use Rattle.view_model.specs.Layout.{Spot, laid_views, places_backwards, total_size, for_layout}
use Rattle.view_model.specs.Measuring.{Measured}
use Rattle.view_tree.specs.Rows.{Row, views_of}
use Rattle.view_tree.specs.Views.{Held, laid_at, laid_rows, specs_of}
use Rattle.kept_views.specs.Kept.{Around, HiddenView, Kept, Reached, firm, hidden_in, inside, last_places}
use Rattle.kept_views.specs.Laying.{group_all, group_kids, group_kids_back, group_places, kid_place, kid_sizes, places_all, places_back, sizes_back, some_all}
use Rattle.kept_views.proofs.laid.PlacedKids.{cons_head, cons_tail, laid_gone, laid_group, places_group}

pub unforced_in : (v up : Bool) → up ≡ false → (v ≡ true → up ≡ true) → v ≡ false
unforced_in v up none h = false_from_ne_true v (λ e. let g : false ≡ true = sym none ∙ h e in absurd (cc))

pub to_firm : (keys : List ℕ) (held : ℕ → Held) (hidden forced : Bool) (list : Forest Row) → hidden ≡ false → forced ≡ false
    → Kept keys held (record { hidden = hidden; forced = forced }) list → Kept keys held firm list
to_firm keys held hidden forced list h f k =
    subst (λ v. Kept keys held (record { hidden = false; forced = v }) list) f (subst (λ v. Kept keys held (record { hidden = v; forced = forced }) list) h k)

pub shown_in : (row : Row) → is_shown row.view.facts ≡ true → hidden_in firm row ≡ false
shown_in row here = ap (λ v. if v then false else true) here

-- hidden views have no bounds
pub hidden_nowhere : (keys : List ℕ) (held : ℕ → Held) (up : Around) (list : Forest Row) → up.hidden ≡ true → Kept keys held up list → laid_rows held list ≡ []
hidden_nowhere keys held up Nothing h k = refl
hidden_nowhere keys held up (Branch row kids siblings) h k =
    let here : hidden_in up row ≡ true = by_test (is_shown row.view.facts) in
    let own : (held row.key).state.bounds ≡ None = (k.0 here).bounds in
    let below = hidden_nowhere keys held (inside up row (held row.key)) kids here k.2 in
    let rest = hidden_nowhere keys held up siblings h k.3 in
    rw (own, below, rest) refl
  where
    by_test : (v : Bool) → (if v then up.hidden else true) ≡ true
    by_test true = h
    by_test false = refl

pub gone_nowhere : (keys : List ℕ) (held : ℕ → Held) (up : Around) (row : Row) (kids : Forest Row) → is_shown row.view.facts ≡ false
    → (hidden_in up row ≡ true → HiddenView (held row.key)) → Kept keys held (inside up row (held row.key)) kids → laid_rows held (Branch row kids Nothing) ≡ []
gone_nowhere keys held up row kids gone own k =
    let here : hidden_in up row ≡ true = ap (λ v. if v then up.hidden else true) gone in
    let none : (held row.key).state.bounds ≡ None = (own here).bounds in
    let below = hidden_nowhere keys held (inside up row (held row.key)) kids here k in
    rw (none, below) refl

open_true : (v : Bool) (a : Option Rect) (c : Rect) (b : List (Option Rect)) (d : List Rect) → v ≡ true → (if v then a ∷ b else b) ≡ some_all (if v then c ∷ d else d) → a ∷ b ≡ Some c ∷ some_all d
open_true true a c b d t e = e
open_true false a c b d t e = absurd (both_ways false refl t)

open_false : (v : Bool) (a : Option Rect) (c : Rect) (b : List (Option Rect)) (d : List Rect) → v ≡ false → (if v then a ∷ b else b) ≡ some_all (if v then c ∷ d else d) → b ≡ some_all d
open_false true a c b d f e = absurd (both_ways true f refl)
open_false false a c b d f e = e

-- views of a list lie as a layout would put them, if those that take part in layout lie where a group puts them, in either
-- order
pub record AreCalm (held : ℕ → Held) (list : Forest Row) : Type 0 where
  pub on : (spot : Spot) (before : List Measured) → last_places held list ≡ some_all (group_places spot before held list) → laid_rows held list ≡ group_kids spot before held list
  pub back : (spot : Spot) → last_places held list ≡ some_all (places_back spot held list) → laid_rows held list ≡ group_kids_back spot held list

pub all_calm : (held : ℕ → Held) (spot : Spot) (list : Forest Row) → AreCalm held list → last_places held list ≡ some_all (places_all spot held list) → laid_rows held list ≡ group_all spot held list
all_calm held spot list calm places = by (places_backwards spot.view.class spot.view.facts) places
  where
    by : (t : Bool) → last_places held list ≡ some_all (if t then places_back spot held list else group_places spot [] held list)
        → laid_rows held list ≡ (if t then group_kids_back spot held list else group_kids spot [] held list)
    by true places = calm.back spot places
    by false places = calm.on spot [] places

-- a view that takes part in layout lies as a layout would put it
shown_lies : (held : ℕ → Held) (row : Row) (kids siblings : Forest Row) (rect : Rect) → is_shown row.view.facts ≡ true → Kept [] held firm (Branch row kids siblings)
    → Reached held false (Branch row kids siblings) → (Kept [] held firm kids → Reached held false kids → AreCalm held kids) → (held row.key).state.bounds ≡ Some rect
    → laid_at row.view.number (held row.key).state.bounds ++ laid_rows held kids ≡ laid_views row.view (views_of kids) (specs_of (held row.key).state) rect
shown_lies held row kids siblings rect here k r calm lies =
    let own = held row.key in
    let specs = specs_of own.state in
    let v = k.1 (shown_in row here) in
    let f = unforced_in own.state.forced false refl (v.flags refl) in
    let n = false_from_ne_true own.state.layout_needed (λ e. let no : false ≡ true = (r.0 e).1 in absurd (cc)) in
    let m = false_from_ne_true own.state.measure_first (λ e. both_ways _ n (r.1 e)) in
    let s = v.sized refl f in
    let spot : Spot = record { view = for_layout row.view; specs = specs; room = size_of_rect rect; total = total_size row.view (views_of kids) specs } in
    let places : last_places held kids ≡ some_all (places_all spot held kids) =
    v.placed refl f n rect lies ∙ ap some_all (places_group held row kids specs (size_of_rect rect) spot (s.finals m) (s.edges m) refl) in
    let below = all_calm held spot kids (calm (to_firm [] held _ _ kids (shown_in row here) f k.2) (subst (λ b. Reached held b kids) n r.2)) places in
    let group = laid_group held row kids specs (size_of_rect rect) spot (s.finals m) (s.edges m) refl rect refl here in
    rw (lies, below, group) refl

pub laid_calm : (held : ℕ → Held) (list : Forest Row) → Kept [] held firm list → Reached held false list → AreCalm held list
laid_calm held Nothing k r = record { on = λ spot before places. refl; back = λ spot places. refl }
laid_calm held (Branch row kids siblings) k r =
    let own = held row.key in
    let specs = specs_of own.state in
    let sizes = kid_sizes specs row kids in
    let rest = laid_calm held siblings k.3 r.3 in
    let place : Spot → List Measured → Rect = λ spot before. kid_place spot before own row kids in
    elim (cases_Bool (is_shown row.view.facts)) [
      | inl here ↦
          let lies : (rect : Rect) → own.state.bounds ≡ Some rect → laid_at row.view.number own.state.bounds ++ laid_rows held kids ≡ laid_views row.view (views_of kids) specs rect =
          λ rect. shown_lies held row kids siblings rect here k r (laid_calm held kids) in
          record {
            on = λ spot before places.
                let all = open_true (is_shown row.view.facts) own.state.bounds (place spot before) (last_places held siblings) (group_places spot (before ++ sizes) held siblings) here places in
                joined_lists _ _ _ _ _ (lies (place spot before) (cons_head all)) (rest.on spot (before ++ sizes) (cons_tail all));
            back = λ spot places.
                let all = open_true (is_shown row.view.facts) own.state.bounds (place spot (sizes_back held siblings)) (last_places held siblings) (places_back spot held siblings) here places in
                joined_lists _ _ _ _ _ (lies (place spot (sizes_back held siblings)) (cons_head all)) (rest.back spot (cons_tail all));
          }
      | inr gone ↦
          let none : laid_at row.view.number own.state.bounds ++ (laid_rows held kids ++ []) ≡ [] = gone_nowhere [] held firm row kids gone k.0 k.2 in
          record {
            on = λ spot before places.
                let all = open_false (is_shown row.view.facts) own.state.bounds (place spot before) (last_places held siblings) (group_places spot (before ++ sizes) held siblings) gone places in
                joined_empty (laid_at row.view.number own.state.bounds) (laid_rows held kids) (laid_rows held siblings) none
                ∙ rest.on spot (before ++ sizes) all ∙ ap (λ part. part ++ group_kids spot (before ++ sizes) held siblings) (sym (laid_gone row kids specs (place spot before) gone));
            back = λ spot places.
                let all = open_false (is_shown row.view.facts) own.state.bounds (place spot (sizes_back held siblings)) (last_places held siblings) (places_back spot held siblings) gone places in
                joined_empty (laid_at row.view.number own.state.bounds) (laid_rows held kids) (laid_rows held siblings) none
                ∙ rest.back spot all ∙ ap (λ part. part ++ group_kids_back spot held siblings) (sym (laid_gone row kids specs (place spot (sizes_back held siblings)) gone));
          }
    ]
  where
    joined_lists : (own below rest first more : List Laid) → own ++ below ≡ first → rest ≡ more → own ++ (below ++ rest) ≡ first ++ more
    joined_lists own below rest first more e f = sym (append_assoc own below rest) ∙ ap (λ (list : List Laid). list ++ rest) e ∙ ap (λ (list : List Laid). first ++ list) f

    joined_empty : (a b c : List Laid) → a ++ (b ++ []) ≡ [] → a ++ (b ++ c) ≡ c
    joined_empty [] [] c e = refl
    joined_empty [] (x ∷ b) c e = absurd (cc)
    joined_empty (x ∷ a) b c e = absurd (cc)
