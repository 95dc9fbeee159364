-- An edit that layout does not see keeps what is kept, without a request.
use Rattle.std.proofs.Common.{◌≡◌, ℕ, ◌+◌, ◌==◌, true, false, Option, Some, List, [], ◌∷◌, ap, ◌∙◌, sym, refl, subst, inl, inr}
use Rattle.std.proofs.lemmas.Bool.{both_ways, cases_Bool}
use Rattle.std.specs.Prelude.{ℤ, if◌then◌else◌, map}
use Rattle.geom_core.specs.declared.geometry.Rect.{Rect}
use Rattle.geom_core.specs.declared.geometry.Size.{Size}
use Rattle.view_model.specs.Course.{Child}
use Rattle.view_model.specs.Facts.{is_shown}
use Rattle.view_model.specs.Forest.{Forest, Nothing, Branch}
use Rattle.view_model.specs.Geometry.{size_of_rect}
use Rattle.view_model.specs.Layout.{Final, Placed, final_by, placed_by, total_by, for_layout, child_by, child_under, children_of, final_edges, final_specs, placement, total_size}
use Rattle.view_model.specs.Measuring.{Specs}
use Rattle.view_model.specs.Offsets.{brought, range_by}
use Rattle.view_model.specs.PlainTree.{PlainView}
use Rattle.view_model.specs.RelativeLayout.{sides_of}
use Rattle.view_tree.specs.Rows.{Row, changed_at_key, views_of}
use Rattle.view_tree.specs.Views.{Held, specs_of}
use Rattle.kept_views.specs.Kept.{Around, Kept, ShownView, asked, first_place, hidden_in, inside, last_edges, last_places, last_specs, reach}

-- layout sees no difference between two views
pub record IsUnseen (old new : PlainView) : Type 0 where
  pub shown : is_shown new.facts ≡ is_shown old.facts
  pub class : new.class ≡ old.class
  pub child : (below : Forest PlainView) → child_under new below ≡ child_under old below
  pub total : (below : Forest PlainView) (specs : Specs) → total_size new below specs ≡ total_size old below specs
  pub finals : (below : Forest PlainView) (specs : Specs) → final_specs new below specs ≡ final_specs old below specs
  pub edges : (below : Forest PlainView) (specs : Specs) → final_edges new below specs ≡ final_edges old below specs
  pub places : (below : Forest PlainView) (specs : Specs) (room : Size) → placement new below specs room ≡ placement old below specs room
  pub range : (rect child : Option Rect) → range_by new.class new.facts rect child ≡ range_by old.class old.facts rect child

-- given the children of a view alone
module _ (view : PlainView) (some more : Forest PlainView) (same : children_of some ≡ children_of more) where
  child_with : child_under view some ≡ child_under view more
  child_with = ap (child_by (for_layout view)) same

module _ (key : ℕ) (change : PlainView → PlainView) where
  put_here : (row : Row) (kids siblings : Forest Row) → (row.key == key) ≡ true → changed_at_key key change (Branch row kids siblings) ≡ Branch (record row { view = change row.view }) kids siblings
  put_here row kids siblings e = rw e refl

  put_on : (row : Row) (kids siblings : Forest Row) → (row.key == key) ≡ false → changed_at_key key change (Branch row kids siblings) ≡ Branch row (changed_at_key key change kids) (changed_at_key key change siblings)
  put_on row kids siblings e = rw e refl

  -- the view of the key, if it is there, is changed without layout seeing it
  abbrev pub Unseen : Forest Row → Type 0
  Unseen Nothing = Unit {0}
  Unseen (Branch row kids siblings) = ((row.key == key) ≡ true → IsUnseen row.view (change row.view)) × ((row.key == key) ≡ false → Unseen kids × Unseen siblings)

  children_same : (list : Forest Row) → Unseen list → children_of (views_of (changed_at_key key change list)) ≡ children_of (views_of list)
  children_same Nothing u = refl
  children_same (Branch row kids siblings) u = elim (cases_Bool (row.key == key)) [
    | inl e ↦ ap (λ list. children_of (views_of list)) (put_here row kids siblings e) ∙ ap (λ child. child ∷ children_of (views_of siblings)) ((u.0 e).child (views_of kids))
    | inr e ↦
        let below = children_same kids (u.1 e).0 in
        let rest = children_same siblings (u.1 e).1 in
        ap (λ list. children_of (views_of list)) (put_on row kids siblings e)
        ∙ ap (λ child. child ∷ children_of (views_of (changed_at_key key change siblings))) (child_with row.view (views_of (changed_at_key key change kids)) (views_of kids) below)
        ∙ ap (λ children. child_under row.view (views_of kids) ∷ children) rest
  ]

  reach_same : (other : ℕ) (list : Forest Row) → Unseen list → reach other (changed_at_key key change list) ≡ reach other list
  reach_same other Nothing u = refl
  reach_same other (Branch row kids siblings) u = elim (cases_Bool (row.key == key)) [
    | inl e ↦ ap (reach other) (put_here row kids siblings e) ∙ ap (λ v. (if row.key == other then 1 else 0) + ((if v then reach other kids else 0) + reach other siblings)) (u.0 e).shown
    | inr e ↦ let a = reach_same other kids (u.1 e).0 in let b = reach_same other siblings (u.1 e).1 in rw (put_on row kids siblings e, a, b) refl
  ]

  asked_same : (keys : List ℕ) (list : Forest Row) → Unseen list → asked keys (changed_at_key key change list) ≡ asked keys list
  asked_same [] list u = refl
  asked_same (other ∷ keys) list u = let a = reach_same other list u in let b = asked_same keys list u in rw (a, b) refl

  module _ (held : ℕ → Held) where
    specs_put : (list : Forest Row) → Unseen list → last_specs held (changed_at_key key change list) ≡ last_specs held list
    specs_put Nothing u = refl
    specs_put (Branch row kids siblings) u = elim (cases_Bool (row.key == key)) [
      | inl e ↦ ap (last_specs held) (put_here row kids siblings e) ∙ ap (λ v. if v then specs_of (held row.key).state ∷ last_specs held siblings else last_specs held siblings) (u.0 e).shown
      | inr e ↦ let b = specs_put siblings (u.1 e).1 in rw (put_on row kids siblings e, b) refl
    ]

    edges_put : (list : Forest Row) → Unseen list → last_edges held (changed_at_key key change list) ≡ last_edges held list
    edges_put Nothing u = refl
    edges_put (Branch row kids siblings) u = elim (cases_Bool (row.key == key)) [
      | inl e ↦ ap (last_edges held) (put_here row kids siblings e) ∙ ap (λ v. if v then sides_of (held row.key).state.edges ∷ last_edges held siblings else last_edges held siblings) (u.0 e).shown
      | inr e ↦ let b = edges_put siblings (u.1 e).1 in rw (put_on row kids siblings e, b) refl
    ]

    places_put : (list : Forest Row) → Unseen list → last_places held (changed_at_key key change list) ≡ last_places held list
    places_put Nothing u = refl
    places_put (Branch row kids siblings) u = elim (cases_Bool (row.key == key)) [
      | inl e ↦ ap (last_places held) (put_here row kids siblings e) ∙ ap (λ v. if v then (held row.key).state.bounds ∷ last_places held siblings else last_places held siblings) (u.0 e).shown
      | inr e ↦ let b = places_put siblings (u.1 e).1 in rw (put_on row kids siblings e, b) refl
    ]

    first_put : (list : Forest Row) → first_place held (changed_at_key key change list) ≡ first_place held list
    first_put Nothing = refl
    first_put (Branch row kids siblings) = elim (cases_Bool (row.key == key)) [
      | inl e ↦ ap (first_place held) (put_here row kids siblings e)
      | inr e ↦ ap (first_place held) (put_on row kids siblings e)
    ]

    shown_same : (keys : List ℕ) (up : Around) (own : Held) (row : Row) (view : PlainView) (kids more : Forest Row) → IsUnseen row.view view
        → asked keys (Branch (record row { view = view }) more Nothing) ≡ asked keys (Branch row kids Nothing) → children_of (views_of more) ≡ children_of (views_of kids)
        → last_specs held more ≡ last_specs held kids → last_edges held more ≡ last_edges held kids → last_places held more ≡ last_places held kids → first_place held more ≡ first_place held kids
        → ShownView keys held up own row kids → ShownView keys held up own (record row { view = view }) more
    shown_same keys up own row view kids more u asks same specs edges places first v =
        let kid_views = views_of kids in
        let here = λ (below : Forest PlainView) (e : children_of below ≡ children_of kid_views). child_with view below kid_views e ∙ u.child kid_views in
        record {
          flags = λ z. v.flags (sym asks ∙ z);
          cache = λ z s size found. v.cache (sym asks ∙ z) s size found ∙ sym (ap (λ (c : Child). c.measure s) (here (views_of more) same));
          sized = λ z f. let i = v.sized (sym asks ∙ z) f in record {
            size = i.size ∙ sym (ap (λ (c : Child). c.measure (specs_of own.state)) (here (views_of more) same));
            finals = λ m. specs ∙ i.finals m ∙ sym (by_children (λ children. finals_by view children (specs_of own.state)) same ∙ u.finals kid_views (specs_of own.state));
            total = λ m. i.total m ∙ sym (by_children (λ children. total_for view children (specs_of own.state)) same ∙ u.total kid_views (specs_of own.state));
            edges = λ m c. edges ∙ i.edges m (sym u.class ∙ c) ∙ sym (by_children (λ children. edges_by view children (specs_of own.state)) same ∙ u.edges kid_views (specs_of own.state));
          };
          placed = λ z f n rect e. places ∙ v.placed (sym asks ∙ z) f n rect e
              ∙ sym (ap (map (λ (place : Rect). Some place)) (by_children (λ children. places_by view children (specs_of own.state) (size_of_rect rect)) same ∙ u.places kid_views (specs_of own.state) (size_of_rect rect)));
          ranged = λ z f n rect e.
              ap (λ range. brought range own.offset) (u.range (Some rect) (first_place held more) ∙ ap (range_by row.view.class row.view.facts (Some rect)) first) ∙ v.ranged (sym asks ∙ z) f n rect e;
        }
      where
        by_children : {A : Type 0} {some more : List Child} (f : List Child → A) → some ≡ more → f some ≡ f more
        by_children f e = ap f e

        finals_by : PlainView → List Child → Specs → List Specs
        finals_by view children specs = map (λ (kid : Final). kid.specs) (final_by (for_layout view) children specs)

        total_for : PlainView → List Child → Specs → ℤ
        total_for view children specs = total_by (for_layout view) children specs

        edges_by : PlainView → List Child → Specs → List (Option Rect)
        edges_by view children specs = map (λ (kid : Final). kid.edges) (final_by (for_layout view) children specs)

        places_by : PlainView → List Child → Specs → Size → List Rect
        places_by view children specs room = map (λ (kid : Placed). kid.rect) (placed_by (for_layout view) children specs room)

    pub Kept_unseen : (keys : List ℕ) (up : Around) (list : Forest Row) → Unseen list → Kept keys held up list → Kept keys held up (changed_at_key key change list)
    Kept_unseen keys up Nothing u k = tt
    Kept_unseen keys up (Branch row kids siblings) u k = elim (cases_Bool (row.key == key)) [
      | inl e ↦
          let own = u.0 e in
          let view = change row.view in
          let hidden : hidden_in up (record row { view = view }) ≡ hidden_in up row = ap (λ v. if v then up.hidden else true) own.shown in
          let asks : asked keys (Branch (record row { view = view }) kids Nothing) ≡ asked keys (Branch row kids Nothing) =
          ap (asked keys) (sym (put_here row kids Nothing e)) ∙ asked_same keys (Branch row kids Nothing) (u.0, λ ne. absurd (both_ways _ ne e)) in
          rw (put_here row kids siblings e) (
            λ h. k.0 (sym hidden ∙ h),
            λ h. shown_same keys up (held row.key) row view kids kids own asks refl refl refl refl refl (k.1 (sym hidden ∙ h)),
            subst (λ hidden. Kept keys held (record { hidden = hidden; forced = (held row.key).state.forced }) kids) (sym hidden) k.2,
            k.3,
          )
      | inr e ↦
          let below = (u.1 e).0 in
          let asks : asked keys (Branch row (changed_at_key key change kids) Nothing) ≡ asked keys (Branch row kids Nothing) =
          ap (asked keys) (sym (put_on row kids Nothing e)) ∙ asked_same keys (Branch row kids Nothing) (λ t. absurd (both_ways _ e t), λ ne. (below, tt)) in
          rw (put_on row kids siblings e) (
            k.0,
            λ h. shown_same keys up (held row.key) row row.view kids (changed_at_key key change kids) unseen_self asks (children_same kids below) (specs_put kids below) (edges_put kids below) (places_put kids below) (first_put kids) (k.1 h),
            Kept_unseen keys (inside up row (held row.key)) kids below k.2,
            Kept_unseen keys up siblings (u.1 e).1 k.3,
          )
    ]
      where
        unseen_self : {view : PlainView} → IsUnseen view view
        unseen_self = record { shown = refl; class = refl; child = λ b. refl; total = λ b s. refl; finals = λ b s. refl; edges = λ b s. refl; places = λ b s r. refl; range = λ r c. refl }
