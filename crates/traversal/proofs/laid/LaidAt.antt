-- A view of a tree that is laid, with all below it.
use Rattle.std.proofs.Common.{◌≡◌, ◌≢◌, ℕ, ◌+◌, ◌<◌, ◌≤◌, Bool, true, false, List, [], ◌∷◌, ◌++◌, Option, Some, None, refl, sym, ◌∙◌, ap, subst, arith, inl, inr}
use Rattle.std.proofs.lemmas.List.{append-nil}
use Rattle.std.proofs.lemmas.Bool.{both_ways, cases_eq, eq-eqb, ne_eqb}
use Rattle.std.specs.Prelude.{if◌then◌else◌}
use mathlib.Core.Path.{fun_ext}
use Rattle.geom_core.specs.Limits.{IsSide}
use Rattle.geom_core.specs.declared.geometry.Rect.{Rect}
use Rattle.geom_core.specs.declared.geometry.Size.{Size}
use Rattle.kept_views.specs.Kept.{Sized, firm, first_place, hidden_in, owed}
use Rattle.kept_views.specs.Laying.{Brought, Fit, IsPut, IsQuietAll, Wrote, differ, group_kids, kid_place, kid_under, last_sizes, moved_to, ranged_own, same_bounds, same_place, some_all, spot_of}
use Rattle.kept_views.specs.Passes.{settled, settled_at}
use Rattle.kept_views.proofs.laid.Brought.{brought_hidden}
use Rattle.view_model.proofs.ClassLaws.{range_nowhere}
use Rattle.kept_views.proofs.laid.LaidCalm.{gone_nowhere}
use Rattle.kept_views.proofs.laid.LaidFrames.{Fit-along, Fit-below, differ-along, owed-along, owed_below}
use Rattle.kept_views.proofs.laid.LaidRows.{calm_row, not_own, put_row, wrote_below}
use Rattle.measure_pass.proofs.rules.Laws.{measured_sides}
use Rattle.scroll_offsets.specs.Bringing.{child_rect, first_range}
use Rattle.view_model.specs.declared.class.Class.TheVariants.{RelativeLayout}
use Rattle.view_model.specs.Facts.{is_shown, layout_facts}
use Rattle.view_model.specs.Forest.{Forest, Nothing, Branch}
use Rattle.view_model.specs.Geometry.{size_of_rect}
use Rattle.view_model.specs.Layout.{Spot, children_of, laid_views, measured_size, place_in, for_layout}
use Rattle.view_model.specs.Measuring.{Measured, Specs}
use Rattle.view_model.specs.Offsets.{brought, range_by}
use Rattle.view_model.specs.RelativeLayout.{sides_of}
use Rattle.view_tree.specs.Rows.{Row, first_tree, children_of_first, part_from, head_view, count_of_key, views_of}
use Rattle.view_tree.specs.Views.{Held, KeepsOutside, specs_of}
use Rattle.view_tree.proofs.forest.KeyLaws.{located, own_more}
use Rattle.view_tree.proofs.forest.Walks.{once_from}
use Rattle.traversal.specs.declared.laying.placer.Placer.{Placer}
use Rattle.traversal.specs.Narrow.{AreNarrow}
use Rattle.traversal.specs.Placing.{LaidKids, PlacesAs}
use Rattle.traversal.proofs.laid.LaidWalk.{AreNarrow-along}
use Rattle.traversal.proofs.laid.NarrowSides.{group_narrow}

-- a view in this rectangle on which nothing is left to do
pub record NothingIsLeft (old held : Held) (rect : Rect) : Type 0 where
  pub forced : held.state.forced ≡ false
  pub needed : held.state.layout_needed ≡ false
  pub bounds : held.state.bounds ≡ Some rect
  pub specs : specs_of held.state ≡ specs_of old.state
  pub edges : held.state.edges ≡ old.state.edges

pub settled_calm : (own : Held) → own.state.forced ≡ false → own.state.layout_needed ≡ false → settled own ≡ own
settled_calm own f n =
    ap (λ (forced : Bool). let h : Held = record own { state = record own.state { forced = forced; layout_needed = false } } in h) (sym f)
    ∙ ap (λ (needed : Bool). let h : Held = record own { state = record own.state { layout_needed = needed } } in h) (sym n)

pub settled_same : (view : ℕ) (held : ℕ → Held) → (held view).state.forced ≡ false → (held view).state.layout_needed ≡ false → (key : ℕ) → settled_at view held key ≡ held key
settled_same view held f n key = elim (cases_eq key view) [
  | inl e ↦ rw (eq-eqb key view e) (ap (λ key. settled (held key)) e ∙ settled_calm (held view) f n ∙ ap held (sym e))
  | inr ne ↦ rw (ne_eqb key view ne) refl
]

pub settled_is : (view : ℕ) (mid new : ℕ → Held) → new view ≡ settled (mid view) → ((other : ℕ) → other ≢ view → new other ≡ mid other) → (key : ℕ) → new key ≡ settled_at view mid key
settled_is view mid new own others key = elim (cases_eq key view) [
  | inl e ↦ rw (eq-eqb key view e) (ap new e ∙ own ∙ ap (λ key. settled (mid key)) (sym e))
  | inr ne ↦ rw (ne_eqb key view ne) (others key ne)
]

pub put_same : (old mid new : ℕ → Held) (view : ℕ) (list : Forest Row) (rect : Rect) → ((key : ℕ) → new key ≡ mid key) → IsPut old mid view list rect → IsPut old new view list rect
put_same old mid new view list rect same put = subst (λ held. IsPut old held view list rect) (sym (fun_ext same)) put

pub settled_bounds : (view : ℕ) (held : ℕ → Held) (key : ℕ) → (settled_at view held key).state.bounds ≡ (held key).state.bounds
settled_bounds view held key = elim (cases_eq key view) [
  | inl e ↦ rw (eq-eqb key view e) refl
  | inr ne ↦ rw (ne_eqb key view ne) refl
]

pub settled_specs : (view : ℕ) (held : ℕ → Held) → specs_of (settled_at view held view).state ≡ specs_of (held view).state
settled_specs view held = rw (eq-eqb view view refl) refl

pub settled_measured : (view : ℕ) (held : ℕ → Held) → (settled_at view held view).state.measured ≡ (held view).state.measured
settled_measured view held = rw (eq-eqb view view refl) refl

pub settled_mark : (view : ℕ) (held : ℕ → Held) → (settled_at view held view).state.measure_first ≡ (held view).state.measure_first
settled_mark view held = rw (eq-eqb view view refl) refl

pub settled_cache : (view : ℕ) (held : ℕ → Held) (key : ℕ) → (settled_at view held key).cache ≡ (held key).cache
settled_cache view held key = elim (cases_eq key view) [
  | inl e ↦ rw (eq-eqb key view e) refl
  | inr ne ↦ rw (ne_eqb key view ne) refl
]

settled_offset : (view : ℕ) (held : ℕ → Held) (key : ℕ) → (settled_at view held key).offset ≡ (held key).offset
settled_offset view held key = elim (cases_eq key view) [
  | inl e ↦ rw (eq-eqb key view e) refl
  | inr ne ↦ rw (ne_eqb key view ne) refl
]

first_settled : (view : ℕ) (held : ℕ → Held) (list : Forest Row) → first_place (settled_at view held) list ≡ first_place held list
first_settled view held Nothing = refl
first_settled view held (Branch row kids siblings) = settled_bounds view held row.key

pub brought_settled : (view : ℕ) (old held : ℕ → Held) (list : Forest Row) → Brought old (settled_at view held) list → Brought old held list
brought_settled view old held Nothing b = tt
brought_settled view old held (Branch row kids siblings) b = (
  sym (settled_offset view held row.key) ∙ b.0
      ∙ ap (λ bounds. brought (range_by row.view.class row.view.facts bounds (first_place (settled_at view held) kids)) (old row.key).offset) (settled_bounds view held row.key)
      ∙ ap (λ first. brought (range_by row.view.class row.view.facts (held row.key).state.bounds first) (old row.key).offset) (first_settled view held kids),
  brought_settled view old held kids b.1,
  brought_settled view old held siblings b.2,
)

-- nothing is left to do at a view
pub calm_at : (tree : Forest Row) (view : ℕ) (old held : ℕ → Held) (rect : Rect) → 0 < count_of_key view tree → is_shown (head_view (part_from view tree)).facts ≡ true
    → Fit held (first_tree (part_from view tree)) → NothingIsLeft (old view) (held view) rect → ((key : ℕ) → (held key).offset ≡ (old key).offset)
    → IsPut old (settled_at view held) view (part_from view tree) rect
calm_at tree view old held rect live here fit done offsets =
    let x = located view tree live in
    let here : is_shown x.row.view.facts ≡ true = rw x.is at here in
    let fit : Fit held (Branch x.row x.kids Nothing) = rw x.is at fit in
    let done' : NothingIsLeft (old x.row.key) (held x.row.key) rect = subst (λ key. NothingIsLeft (old key) (held key) rect) (sym x.key_is) done in
    let row = calm_row old held x.row x.kids x.siblings rect here fit done'.forced done'.needed done'.bounds done'.specs done'.edges offsets in
    put_same old held (settled_at view held) view (part_from view tree) rect (settled_same view held done.forced done.needed)
    (rw x.is (subst (λ key. IsPut old held key (Branch x.row x.kids x.siblings) rect) x.key_is row))

-- a view whose children are measured for its last specs
pub record IsStarted (old fit : Held) : Type 0 where
  pub first : fit.state.measure_first ≡ false
  pub specs : specs_of fit.state ≡ specs_of old.state
  pub edges : fit.state.edges ≡ old.state.edges

first_same : (held : ℕ → Held) (list : Forest Row) → child_rect held list ≡ first_place held list
first_same held Nothing = refl
first_same held (Branch row kids siblings) = refl

-- a view whose children were laid, and whose offset was brought into range
pub put_at : (tree : Forest Row) (view : ℕ) (old fit moved laid new : ℕ → Held) (rect : Rect) → ((key : ℕ) → count_of_key key tree ≤ 1) → 0 < count_of_key view tree
    → is_shown (head_view (part_from view tree)).facts ≡ true → Fit fit (first_tree (part_from view tree)) → IsStarted (old view) (fit view) → ((key : ℕ) → (fit key).offset ≡ (old key).offset)
    → Wrote fit moved view (moved_to (fit view) rect)
    → IsQuietAll laid (spot_of (part_from view tree) (moved view) (size_of_rect rect)) moved (children_of_first (part_from view tree))
    → KeepsOutside moved laid (children_of_first (part_from view tree))
    → Wrote laid new view (record (laid view) { offset = brought (first_range laid (part_from view tree)) (laid view).offset })
    → IsPut old (settled_at view new) view (part_from view tree) rect
put_at tree view old fit_held moved laid new rect once live here fit started offsets w1 quiet others w2 =
    let x = located view tree live in
    let here : is_shown x.row.view.facts ≡ true = rw x.is at here in
    let fit : Fit fit_held (Branch x.row x.kids Nothing) = rw x.is at fit in
    let once' : (key : ℕ) → count_of_key key (Branch x.row x.kids x.siblings) ≤ 1 = rw x.is at (once_from tree view once live) in
    let alone : (key : ℕ) → count_of_key key (Branch x.row x.kids Nothing) ≤ 1 = λ key. let o = once' key in omega arith in
    let quiet : IsQuietAll laid (spot_of (Branch x.row x.kids x.siblings) (moved view) (size_of_rect rect)) moved x.kids = rw x.is at quiet in
    let others : KeepsOutside moved laid x.kids = rw x.is at others in
    let own : new view ≡ record (laid view) { offset = brought (first_range laid (Branch x.row x.kids x.siblings)) (laid view).offset } = rw x.is at w2.at in
    let range : first_range laid (Branch x.row x.kids x.siblings) ≡ range_by x.row.view.class x.row.view.facts (laid view).state.bounds (first_place laid x.kids) =
    ap (λ key. range_by x.row.view.class x.row.view.facts (laid key).state.bounds (child_rect laid x.kids)) x.key_is
    ∙ ap (range_by x.row.view.class x.row.view.facts (laid view).state.bounds) (first_same laid x.kids) in
    let last : settled_at view new view ≡ settled (ranged_own laid x.row x.kids (laid view)) =
    rw (eq-eqb view view refl) (ap settled (own ∙ ap (λ range. let h : Held = record (laid view) { offset = brought range (laid view).offset } in h) range)) in
    let w3 : Wrote laid (settled_at view new) view (settled (ranged_own laid x.row x.kids (laid view))) =
    record { at = last; others = λ other ne. elsewhere other ne ∙ w2.others other ne } in
    let started : IsStarted (old x.row.key) (fit_held x.row.key) = subst (λ key. IsStarted (old key) (fit_held key)) (sym x.key_is) started in
    let w1' : Wrote fit_held moved x.row.key (moved_to (fit_held x.row.key) rect) = subst (λ key. Wrote fit_held moved key (moved_to (fit_held key) rect)) (sym x.key_is) w1 in
    let quiet' : IsQuietAll laid (spot_of (Branch x.row x.kids x.siblings) (moved x.row.key) (size_of_rect rect)) moved x.kids =
    subst (λ key. IsQuietAll laid (spot_of (Branch x.row x.kids x.siblings) (moved key) (size_of_rect rect)) moved x.kids) (sym x.key_is) quiet in
    let w3' : Wrote laid (settled_at view new) x.row.key (settled (ranged_own laid x.row x.kids (laid x.row.key))) =
    subst (λ key. Wrote laid (settled_at view new) key (settled (ranged_own laid x.row x.kids (laid key)))) (sym x.key_is) w3 in
    rw x.is (subst (λ key. IsPut old (settled_at view new) key (Branch x.row x.kids x.siblings) rect) x.key_is
    (put_row old fit_held moved laid (settled_at view new) x.row x.kids x.siblings rect here alone fit started.first started.specs started.edges offsets w1' quiet' others w3'))
  where
    elsewhere : (other : ℕ) → other ≢ view → settled_at view new other ≡ new other
    elsewhere other ne = rw (ne_eqb other view ne) refl

-- what is below a view can be laid, and what that costs
pub record Below (held moved : ℕ → Held) (list : Forest Row) : Type 0 where
  pub fit : Fit moved (children_of_first list)
  pub owed : owed moved (children_of_first list) ≤ owed held (first_tree list)
  pub narrow : (head_view list).class ≡ RelativeLayout → AreNarrow moved (children_of_first list)

pub below_at : (tree : Forest Row) (view : ℕ) (held moved : ℕ → Held) (own : Held) → ((key : ℕ) → count_of_key key tree ≤ 1) → 0 < count_of_key view tree
    → is_shown (head_view (part_from view tree)).facts ≡ true → Fit held (first_tree (part_from view tree)) → (held view).state.measure_first ≡ false → Wrote held moved view own
    → Below held moved (part_from view tree)
below_at tree view held moved own once live here fit m w =
    let x = located view tree live in
    let here' : is_shown x.row.view.facts ≡ true = rw x.is at here in
    let fit' : Fit held (Branch x.row x.kids Nothing) = rw x.is at fit in
    let once' : (key : ℕ) → count_of_key key (Branch x.row x.kids x.siblings) ≤ 1 = rw x.is at (once_from tree view once live) in
    let alone : (key : ℕ) → count_of_key key (Branch x.row x.kids Nothing) ≤ 1 = λ key. let o = once' key in omega arith in
    let w : Wrote held moved x.row.key own = subst (λ key. Wrote held moved key own) (sym x.key_is) w in
    let m : (held x.row.key).state.measure_first ≡ false = subst (λ key. (held key).state.measure_first ≡ false) (sym x.key_is) m in
    let same = wrote_below held moved x.row x.kids own alone w in
    let o1 = owed_below held x.row x.kids here' in
    let o2 = owed-along held moved x.kids same in
    rw x.is (record {
      fit = Fit-along held moved x.kids same (Fit-below held x.row x.kids here' m fit');
      owed = omega arith;
      narrow = λ class. AreNarrow-along held moved x.kids same (group_narrow held (held x.row.key) x.row x.kids (fit'.sized.0 here').0 m class);
    })

-- what is kept of all views outside
pub outside_at : (tree : Forest Row) (view : ℕ) (held moved laid new : ℕ → Held) (one two : Held) → 0 < count_of_key view tree → Wrote held moved view one
    → KeepsOutside moved laid (children_of_first (part_from view tree)) → Wrote laid new view two → KeepsOutside held new (first_tree (part_from view tree))
outside_at tree view held moved laid new one two live w1 others w2 =
    let x = located view tree live in
    let others : KeepsOutside moved laid x.kids = rw x.is at others in
    let apart : (key : ℕ) → count_of_key key (Branch x.row x.kids Nothing) ≡ 0 → key ≢ view = λ key none e. not_own x.row x.kids key none (e ∙ sym x.key_is) in
    rw x.is (λ key none. w2.others key (apart key none) ∙ others key (omega arith) ∙ w1.others key (apart key none))

pub alone_outside : (tree : Forest Row) (view : ℕ) (held new : ℕ → Held) (own : Held) → 0 < count_of_key view tree → Wrote held new view own → KeepsOutside held new (first_tree (part_from view tree))
alone_outside tree view held new own live w =
    let x = located view tree live in
    rw x.is (λ key none. w.others key (λ e. not_own x.row x.kids key none (e ∙ sym x.key_is)))

same_bounds_place : (bounds : Option Rect) (rect : Rect) → same_bounds bounds (Some rect) ≡ same_place bounds rect
same_bounds_place None rect = refl
same_bounds_place (Some b) rect = refl

-- how many views below this one, and itself, have other bounds than before
pub differ_at : (tree : Forest Row) (view : ℕ) (old moved laid new : ℕ → Held) (rect : Rect) (moves : Bool) → ((key : ℕ) → count_of_key key tree ≤ 1) → 0 < count_of_key view tree
    → same_place (old view).state.bounds rect ≡ (if moves then false else true) → ((key : ℕ) → key ≢ view → (moved key).state.bounds ≡ (old key).state.bounds)
    → (new view).state.bounds ≡ Some rect → ((key : ℕ) → key ≢ view → (new key).state.bounds ≡ (laid key).state.bounds)
    → (if moves then 1 else 0) + differ moved laid (children_of_first (part_from view tree)) ≤ differ old new (first_tree (part_from view tree))
differ_at tree view old moved laid new rect moves once live same before bounds after =
    let x = located view tree live in
    let once' : (key : ℕ) → count_of_key key (Branch x.row x.kids x.siblings) ≤ 1 = rw x.is at (once_from tree view once live) in
    let apart : (key : ℕ) → 0 < count_of_key key x.kids → key ≢ view = λ key here e.
    let m = own_more x.row x.kids x.siblings key (x.key_is ∙ sym e) in let o = once' key in absurd (omega arith) in
    let kids = differ-along old moved new laid x.kids (λ key here. before key (apart key here)) (λ key here. sym (after key (apart key here))) in
    let own : same_bounds (old x.row.key).state.bounds (new x.row.key).state.bounds ≡ (if moves then false else true) =
    ap (λ key. same_bounds (old key).state.bounds (new key).state.bounds) x.key_is ∙ ap (same_bounds (old view).state.bounds) bounds ∙ same_bounds_place (old view).state.bounds rect ∙ same in
    rw x.is (step moves (same_bounds (old x.row.key).state.bounds (new x.row.key).state.bounds) (differ moved laid x.kids) (differ old new x.kids) own kids)
  where
    step : (m s : Bool) (a b : ℕ) → s ≡ (if m then false else true) → a ≡ b → (if m then 1 else 0) + a ≤ (if s then 0 else 1) + (b + 0)
    step true false a b e f = omega arith
    step true true a b e f = absurd (let no : true ≡ false = e in cc)
    step false true a b e f = omega arith
    step false false a b e f = absurd (let no : false ≡ true = e in cc)

-- the sides of the size of a view that was measured
pub record HasSides (size : Size) : Type 0 where
  pub width : IsSide size.w
  pub height : IsSide size.h

pub sides_at : (tree : Forest Row) (view : ℕ) (held : ℕ → Held) → 0 < count_of_key view tree → is_shown (head_view (part_from view tree)).facts ≡ true
    → Sized held (first_tree (part_from view tree)) → HasSides (held view).state.measured
sides_at tree view held live shown sized =
    let f = located view tree live in
    let sized : Sized held (Branch f.row f.kids Nothing) = rw f.is at sized in
    let own = (sized.0 (rw f.is at shown)).0 in
    let sides = measured_sides (for_layout f.row.view) (children_of (views_of f.kids)) (specs_of (held f.row.key).state) in
    subst (λ (k : ℕ). HasSides (held k).state.measured) f.key_is (rw own.size (record { width = sides.0; height = sides.1 }))

-- a child that is gone
pub kid_gone : (tree : Forest Row) (kid : ℕ) (placer : Placer) (spot : Spot) (before : List Measured) (held : ℕ → Held) → 0 < count_of_key kid tree
    → is_shown (head_view (part_from kid tree)).facts ≡ false → Fit held (first_tree (part_from kid tree)) → PlacesAs placer spot before
    → LaidKids placer spot before held held (first_tree (part_from kid tree))
kid_gone tree kid placer spot before held live gone fit places =
    let f = located kid tree live in
    let gone : is_shown f.row.view.facts ≡ false = rw f.is at gone in
    let fit : Fit held (Branch f.row f.kids Nothing) = rw f.is at fit in
    let k = fit.ready.kept in
    let r = fit.ready.reached in
    let hidden : hidden_in firm f.row ≡ true = rw gone refl in
    let list = Branch f.row f.kids Nothing in
    let none : last_sizes held list ≡ [] = rw gone refl in
    let nothing : group_kids spot before held list ≡ [] = rw gone refl in
    let own = k.0 hidden in
    let here : LaidKids placer spot before held held list = record {
      quiet = record {
        kept = (k.0, λ h. absurd (both_ways (hidden_in firm f.row) h hidden), k.2, tt);
        reached = (λ n. absurd (both_ways (is_shown f.row.view.facts) gone (r.0 n).0), r.1, r.2, tt);
        specs = refl;
        edges = refl;
        lies = gone_nowhere [] held firm f.row f.kids gone k.0 k.2 ∙ sym nothing;
        places = rw gone refl;
        offsets = (
          sym (ap (λ bounds. brought (range_by f.row.view.class f.row.view.facts bounds (first_place held f.kids)) (held f.row.key).offset) own.bounds
              ∙ ap (λ range. brought range (held f.row.key).offset) (range_nowhere f.row.view.class f.row.view.facts (first_place held f.kids))),
          brought_hidden [] held _ f.kids hidden k.2,
          tt,
        );
      };
      places = subst (λ before. PlacesAs placer spot before) (sym (ap (λ sizes. before ++ sizes) none ∙ append-nil before)) places;
    } in
    rw f.is here

-- a child that was laid at its place
pub kid_at : (tree : Forest Row) (kid : ℕ) (placer : Placer) (spot : Spot) (before : List Measured) (size : Size) (rect : Rect) (old new : ℕ → Held) → 0 < count_of_key kid tree
    → is_shown (head_view (part_from kid tree)).facts ≡ true → Sized old (first_tree (part_from kid tree)) → size ≡ (old kid).state.measured
    → (let measured : Measured = record { facts = layout_facts (head_view (part_from kid tree)).facts; size = size } in
    rect ≡ place_in spot before measured (sides_of (old kid).state.edges)
    → PlacesAs placer spot (before ++ measured ∷ [])
    → IsPut old new kid (part_from kid tree) rect
    → LaidKids placer spot before old new (first_tree (part_from kid tree)))
kid_at tree kid placer spot before size rect old new live shown sized size_is place places put =
    let f = located kid tree live in
    let sized : Sized old (Branch f.row f.kids Nothing) = rw f.is at sized in
    let here : is_shown f.row.view.facts ≡ true = rw f.is at shown in
    let own = old f.row.key in
    let specs = specs_of own.state in
    let size_same : size ≡ measured_size f.row.view (views_of f.kids) specs = size_is ∙ ap (λ (k : ℕ). (old k).state.measured) (sym f.key_is) ∙ (sized.0 here).0.size in
    let as_child : Size → Measured = λ size. record { facts = layout_facts f.row.view.facts; size = size } in
    let measured : as_child size ≡ kid_under specs f.row f.kids = ap as_child size_same in
    let place : rect ≡ place_in spot before (as_child size) (sides_of own.state.edges) = (rw f.is at place) ∙ ap (λ (k : ℕ). place_in spot before (as_child size) (sides_of (old k).state.edges)) (sym f.key_is) in
    let spot_is : rect ≡ kid_place spot before own f.row f.kids = place ∙ ap (λ kid. place_in spot before kid (sides_of own.state.edges)) measured in
    let places : PlacesAs placer spot (before ++ as_child size ∷ []) = rw f.is at places in
    let put : IsPut old new kid (Branch f.row f.kids f.siblings) rect = rw f.is at put in
    let put : IsPut old new f.row.key (Branch f.row f.kids f.siblings) rect = subst (λ key. IsPut old new key (Branch f.row f.kids f.siblings) rect) (sym f.key_is) put in
    let one : last_sizes old (Branch f.row f.kids Nothing) ≡ kid_under specs f.row f.kids ∷ [] = rw here refl in
    let whole : LaidKids placer spot before old new (Branch f.row f.kids Nothing) = record {
      quiet = record {
        kept = put.kept;
        reached = put.reached;
        specs = ap (λ (specs : Specs). if is_shown f.row.view.facts then specs ∷ [] else []) put.specs;
        edges = ap (λ edges. if is_shown f.row.view.facts then sides_of edges ∷ [] else []) put.edges;
        lies = put.lies ∙ ap (λ (rect : Rect). laid_views f.row.view (views_of f.kids) specs rect) spot_is
            ∙ sym (append-nil (laid_views f.row.view (views_of f.kids) specs (kid_place spot before own f.row f.kids)));
        places = ap (λ (bounds : Option Rect). if is_shown f.row.view.facts then bounds ∷ [] else []) (put.bounds ∙ ap (λ (rect : Rect). Some rect) spot_is)
            ∙ ap (λ v. if v then Some (kid_place spot before own f.row f.kids) ∷ [] else []) here
            ∙ sym (ap (λ v. some_all (if v then kid_place spot before own f.row f.kids ∷ [] else [])) here);
        offsets = put.offsets;
      };
      places = subst (λ more. PlacesAs placer spot (before ++ more)) (ap (λ m. m ∷ []) measured ∙ sym one) places;
    } in
    rw f.is whole
