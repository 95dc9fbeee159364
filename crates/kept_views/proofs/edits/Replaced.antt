-- An edit of one view, of what is below it, or of both, keeps what is kept, except at and above that view.
use Rattle.std.proofs.Common.{◌≡◌, ℕ, ◌==◌, Bool, true, false, Some, List, [], ◌∷◌, arith, ap, ◌∙◌, sym, refl, subst, inl, inr}
use Rattle.std.proofs.lemmas.Bool.{cases_Bool}
use Rattle.std.specs.Prelude.{if◌then◌else◌, map}
use Rattle.geom_core.specs.declared.geometry.Rect.{Rect}
use Rattle.view_model.proofs.Alike.{KidsAlike}
use Rattle.view_model.proofs.ChildAlike.{child_alike}
use Rattle.view_model.specs.Facts.{is_shown}
use Rattle.view_model.specs.Forest.{Forest, Nothing, Branch, edited_where}
use Rattle.view_model.specs.Geometry.{size_of_rect}
use Rattle.view_model.specs.Layout.{children_of, for_layout}
use Rattle.view_model.specs.Offsets.{brought, range_by}
use Rattle.view_tree.specs.Rows.{Row, views_of}
use Rattle.view_tree.specs.Views.{Held, specs_of}
use Rattle.kept_views.specs.Kept.{Around, HiddenView, IsSized, Kept, ShownView, asked, first_place, hidden_in, inside, last_edges, last_places, last_specs, reach}
use Rattle.kept_views.proofs.KeptFrames.{Kept-more, Same}
use Rattle.kept_views.proofs.laid.SameCourse.{edges_same, places_same, size_same, specs_same, total_same}

-- the tree with the view of this key, and what is below it, replaced
abbrev pub replaced : ℕ → (Row → Row) → (Forest Row → Forest Row) → Forest Row → Forest Row
replaced key f g tree = edited_where (λ (row : Row). row.key == key) (λ row kids siblings. Branch (f row) (g kids) siblings) tree

-- what is kept with the views that are neither this one nor below it is the same
abbrev pub Apart : ℕ → (ℕ → Held) → (ℕ → Held) → Forest Row → Type 0
Apart key old new Nothing = Unit {0}
Apart key old new (Branch row kids siblings) =
    ((row.key == key) ≡ true → Same old new siblings)
    × ((row.key == key) ≡ false → (new row.key ≡ old row.key) × Apart key old new kids × Apart key old new siblings)

shown_open : (up : Around) (row : Row) → hidden_in up row ≡ false → is_shown row.view.facts ≡ true
shown_open up row h = by_test (is_shown row.view.facts) h
  where
    by_test : (v : Bool) → (if v then up.hidden else true) ≡ false → v ≡ true
    by_test true e = refl
    by_test false e = absurd (let no : true ≡ false = e in cc)

module _ (key : ℕ) (f : Row → Row) (g : Forest Row → Forest Row) (f_key : (row : Row) → (f row).key ≡ row.key) where
  here_is : (row : Row) (kids siblings : Forest Row) → (row.key == key) ≡ true → replaced key f g (Branch row kids siblings) ≡ Branch (f row) (g kids) siblings
  here_is row kids siblings e = rw e refl

  on_is : (row : Row) (kids siblings : Forest Row) → (row.key == key) ≡ false
      → replaced key f g (Branch row kids siblings) ≡ Branch row (replaced key f g kids) (replaced key f g siblings)
  on_is row kids siblings e = rw e refl

  pub reach-replaced : (other : ℕ) (list : Forest Row) → reach key list ≡ 0 → reach other (replaced key f g list) ≡ reach other list
  reach-replaced other Nothing z = refl
  reach-replaced other (Branch row kids siblings) z = elim (cases_Bool (row.key == key)) [
    | inl e ↦ let no = rw e at z in absurd (omega arith)
    | inr e ↦
        let z = rw e at z in
        let rest = reach-replaced other siblings (omega arith) in
        elim (cases_Bool (is_shown row.view.facts)) [
          | inl here ↦ let z = rw here at z in let below = reach-replaced other kids (omega arith) in rw (on_is row kids siblings e, here, below, rest) refl
          | inr gone ↦ rw (on_is row kids siblings e, gone, rest) refl
        ]
  ]

  pub reach_own : (list : Forest Row) → reach key (replaced key f g list) ≡ 0 → reach key list ≡ 0
  reach_own Nothing z = refl
  reach_own (Branch row kids siblings) z = elim (cases_Bool (row.key == key)) [
    | inl e ↦ let no = rw (here_is row kids siblings e, f_key row, e) at z in absurd (omega arith)
    | inr e ↦
        let z = rw (on_is row kids siblings e, e) at z in
        let rest = reach_own siblings (omega arith) in
        elim (cases_Bool (is_shown row.view.facts)) [
          | inl here ↦ let z = rw here at z in let below = reach_own kids (omega arith) in rw (e, here, below, rest) refl
          | inr gone ↦ rw (e, gone, rest) refl
        ]
  ]

  asked-replaced : (keys : List ℕ) (list : Forest Row) → reach key list ≡ 0 → asked keys (replaced key f g list) ≡ asked keys list
  asked-replaced [] list z = refl
  asked-replaced (other ∷ keys) list z = let a = reach-replaced other list z in let b = asked-replaced keys list z in rw (a, b) refl

  -- children none of which is, or is above, the view, except below one that is gone
  pub alike-replaced : (list : Forest Row) → reach key list ≡ 0 → KidsAlike (children_of (views_of (replaced key f g list))) (children_of (views_of list))
  alike-replaced Nothing z = tt
  alike-replaced (Branch row kids siblings) z = elim (cases_Bool (row.key == key)) [
    | inl e ↦ let no = rw e at z in absurd (omega arith)
    | inr e ↦
        let z = rw e at z in
        let rest = alike-replaced siblings (omega arith) in
        rw (on_is row kids siblings e) (
          refl,
          λ here. let b = rw here at z in child_alike (for_layout row.view) (children_of (views_of (replaced key f g kids))) (children_of (views_of kids)) (alike-replaced kids (omega arith)),
          rest,
        )
  ]

  module _ (old new : ℕ → Held) where
    specs-replaced : (list : Forest Row) → Apart key old new list → reach key list ≡ 0 → last_specs new (replaced key f g list) ≡ last_specs old list
    specs-replaced Nothing a z = refl
    specs-replaced (Branch row kids siblings) a z = elim (cases_Bool (row.key == key)) [
      | inl e ↦ let no = rw e at z in absurd (omega arith)
      | inr e ↦ let z = rw e at z in let own = (a.1 e).0 in let rest = specs-replaced siblings (a.1 e).2 (omega arith) in rw (on_is row kids siblings e, own, rest) refl
    ]

    edges-replaced : (list : Forest Row) → Apart key old new list → reach key list ≡ 0 → last_edges new (replaced key f g list) ≡ last_edges old list
    edges-replaced Nothing a z = refl
    edges-replaced (Branch row kids siblings) a z = elim (cases_Bool (row.key == key)) [
      | inl e ↦ let no = rw e at z in absurd (omega arith)
      | inr e ↦ let z = rw e at z in let own = (a.1 e).0 in let rest = edges-replaced siblings (a.1 e).2 (omega arith) in rw (on_is row kids siblings e, own, rest) refl
    ]

    places-replaced : (list : Forest Row) → Apart key old new list → reach key list ≡ 0 → last_places new (replaced key f g list) ≡ last_places old list
    places-replaced Nothing a z = refl
    places-replaced (Branch row kids siblings) a z = elim (cases_Bool (row.key == key)) [
      | inl e ↦ let no = rw e at z in absurd (omega arith)
      | inr e ↦ let z = rw e at z in let own = (a.1 e).0 in let rest = places-replaced siblings (a.1 e).2 (omega arith) in rw (on_is row kids siblings e, own, rest) refl
    ]

    first-replaced : (list : Forest Row) → Apart key old new list → reach key list ≡ 0 → first_place new (replaced key f g list) ≡ first_place old list
    first-replaced Nothing a z = refl
    first-replaced (Branch row kids siblings) a z = elim (cases_Bool (row.key == key)) [
      | inl e ↦ let no = rw e at z in absurd (omega arith)
      | inr e ↦ ap (first_place new) (on_is row kids siblings e) ∙ ap (λ (own : Held). own.state.bounds) (a.1 e).0
    ]

    -- the view itself and what is below it
    pub record Below (keys : List ℕ) (up : Around) (row : Row) (kids : Forest Row) : Type 0 where
      pub hidden : hidden_in up (f row) ≡ true → HiddenView (new row.key)
      pub kept : Kept (key ∷ keys) new (inside up (f row) (new row.key)) (g kids)

    abbrev pub Becomes : List ℕ → Row → Forest Row → Type 0
    Becomes keys row kids =
        (up : Around) → (hidden_in up row ≡ true → HiddenView (old row.key)) → Kept keys old (inside up row (old row.key)) kids → Below keys up row kids

    abbrev pub At : List ℕ → Forest Row → Type 0
    At keys Nothing = Unit {0}
    At keys (Branch row kids siblings) = ((row.key == key) ≡ true → Becomes keys row kids) × ((row.key == key) ≡ false → At keys kids × At keys siblings)

    sized_replaced : (own : Held) (row : Row) (kids : Forest Row) → Apart key old new kids → reach key kids ≡ 0 → IsSized old own row kids → IsSized new own row (replaced key f g kids)
    sized_replaced own row kids a z s =
        let alike = alike-replaced kids z in
        let specs = specs_of own.state in
        record {
          size = s.size ∙ sym (size_same row.view (views_of (replaced key f g kids)) (views_of kids) alike specs);
          finals = λ m. specs-replaced kids a z ∙ s.finals m ∙ sym (specs_same row.view (views_of (replaced key f g kids)) (views_of kids) alike specs);
          total = λ m. s.total m ∙ sym (total_same row.view (views_of (replaced key f g kids)) (views_of kids) alike specs);
          edges = λ m c. edges-replaced kids a z ∙ s.edges m c ∙ sym (edges_same row.view (views_of (replaced key f g kids)) (views_of kids) alike specs);
        }

    shown_replaced : (keys : List ℕ) (up : Around) (own : Held) (row : Row) (kids : Forest Row) → (row.key == key) ≡ false → is_shown row.view.facts ≡ true → Apart key old new kids
        → ShownView keys old up own row kids → ShownView (key ∷ keys) new up own row (replaced key f g kids)
    shown_replaced keys up own row kids e here a v = record {
      flags = λ z. v.flags (before z);
      cache = λ z specs size found. v.cache (before z) specs size found ∙ sym (size_same row.view (views_of (replaced key f g kids)) (views_of kids) (alike-replaced kids (apart z)) specs);
      sized = λ z unforced. sized_replaced own row kids a (apart z) (v.sized (before z) unforced);
      placed = λ z unforced calm rect lies. places-replaced kids a (apart z) ∙ v.placed (before z) unforced calm rect lies
          ∙ sym (ap (map (λ (place : Rect). Some place)) (places_same row.view (views_of (replaced key f g kids)) (views_of kids) (alike-replaced kids (apart z)) (specs_of own.state) (size_of_rect rect)));
      ranged = λ z unforced calm rect lies. ap (λ first. brought (range_by row.view.class row.view.facts (Some rect) first) own.offset) (first-replaced kids a (apart z)) ∙ v.ranged (before z) unforced calm rect lies;
    }
      where
        apart : asked (key ∷ keys) (Branch row (replaced key f g kids) Nothing) ≡ 0 → reach key kids ≡ 0
        apart z = reach_own kids (let z = rw (e, here) at z in omega arith)

        before : asked (key ∷ keys) (Branch row (replaced key f g kids) Nothing) ≡ 0 → asked keys (Branch row kids Nothing) ≡ 0
        before z =
            let none : reach key (Branch row kids Nothing) ≡ 0 = rw (e, here, apart z) refl in
            let same : replaced key f g (Branch row kids Nothing) ≡ Branch row (replaced key f g kids) Nothing = on_is row kids Nothing e in
            let all : asked keys (Branch row (replaced key f g kids) Nothing) ≡ 0 = omega arith in
            sym (asked-replaced keys (Branch row kids Nothing) none) ∙ ap (asked keys) same ∙ all

    exempt : (keys : List ℕ) (up : Around) (own : Held) (row : Row) (kids : Forest Row) → (row.key == key) ≡ true → ShownView (key ∷ keys) new up own row kids
    exempt keys up own row kids e = record { flags = λ z. no z; cache = λ z. no z; sized = λ z. no z; placed = λ z. no z; ranged = λ z. no z }
      where
        no : {A : Type 0} → asked (key ∷ keys) (Branch row kids Nothing) ≡ 0 → A
        no z = let z = rw e at z in absurd (omega arith)

    pub Kept-replaced : (keys : List ℕ) (up : Around) (list : Forest Row) → Apart key old new list → At keys list → Kept keys old up list → Kept (key ∷ keys) new up (replaced key f g list)
    Kept-replaced keys up Nothing a at k = tt
    Kept-replaced keys up (Branch row kids siblings) a at k = elim (cases_Bool (row.key == key)) [
      | inl e ↦
          let b = at.0 e up k.0 k.2 in
          let own : (f row).key ≡ row.key = f_key row in
          rw (here_is row kids siblings e) (
            λ h. rw own (b.hidden h),
            λ h. exempt keys up (new (f row).key) (f row) (g kids) (ap (λ other. other == key) own ∙ e),
            rw own b.kept,
            Kept-more key keys old new up siblings (a.0 e) k.3,
          )
      | inr e ↦
          let same = (a.1 e).0 in
          rw (on_is row kids siblings e) (
            λ h. subst HiddenView (sym same) (k.0 h),
            λ h. subst (λ own. ShownView (key ∷ keys) new up own row (replaced key f g kids)) (sym same) (shown_replaced keys up (old row.key) row kids e (shown_open up row h) (a.1 e).1 (k.1 h)),
            subst (λ own. Kept (key ∷ keys) new (inside up row own) (replaced key f g kids)) (sym same) (Kept-replaced keys (inside up row (old row.key)) kids (a.1 e).1 (at.1 e).0 k.2),
            Kept-replaced keys up siblings (a.1 e).2 (at.1 e).1 k.3,
          )
    ]
