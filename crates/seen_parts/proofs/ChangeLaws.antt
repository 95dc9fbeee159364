-- What is seen at a point where nothing is seen of the view that changes.
use Rattle.std.proofs.Common.{◌≡◌, ◌≢◌, ℕ, ◌<◌, ◌≤◌, ℤ, false, refl, ap, ◌∙◌, arith, inl, inr, ◌⊎◌}
use Rattle.std.proofs.lemmas.Bool.{cases_Bool, cases_eq, eq-eqb, ne_eqb}
use Rattle.std.specs.Prelude.{◌==◌, if◌then◌else◌}
use Rattle.geom_core.specs.Rects.{holds}
use Rattle.seen_parts.specs.Meeting.{met_at, placed_rows, seen_at}
use Rattle.view_model.specs.Forest.{Forest, Nothing, Branch}
use Rattle.view_model.specs.Painting.{PlacedView}
use Rattle.view_model.specs.PlainTree.{PlainView}
use Rattle.view_model.specs.Visible.{Canvas, canvas_below, seen_in}
use Rattle.view_tree.specs.Rows.{Row, changed_at_key, count_of_key, pruned_at_key}
use Rattle.view_tree.specs.Views.{Held, scrolled}
use Rattle.view_tree.proofs.forest.NumberLaws.{cut_absent}
use Rattle.view_tree.proofs.forest.KeyLaws.{other_key, times_self}

cut_here : (k : ℕ) (row : Row) (kids siblings : Forest Row) → row.key ≡ k → pruned_at_key k (Branch row kids siblings) ≡ siblings
cut_here k row kids siblings e = rw (eq-eqb row.key k e) refl

cut_there : (k : ℕ) (row : Row) (kids siblings : Forest Row) → row.key ≢ k → pruned_at_key k (Branch row kids siblings) ≡ Branch row (pruned_at_key k kids) (pruned_at_key k siblings)
cut_there k row kids siblings ne = rw (ne_eqb row.key k ne) refl

abbrev own_of : (ℕ → Held) → Row → PlacedView
own_of held row = record { view = scrolled held row; bounds = (held row.key).state.bounds }

-- where nothing is seen of a view, the rest is all that is seen
pub met_cut : (x y : ℤ) (held : ℕ → Held) (canvas : Canvas) (key : ℕ) (tree : Forest Row) → count_of_key key tree ≤ 1 → holds (seen_at held canvas key tree) x y ≡ false
    → met_at x y canvas (placed_rows held tree) ≡ met_at x y canvas (placed_rows held (pruned_at_key key tree))
met_cut x y held canvas key Nothing once unseen = refl
met_cut x y held canvas key (Branch row kids siblings) once unseen = elim (cases_eq row.key key) [
  | inl e ↦
      let own : holds (seen_in (held row.key).state.bounds canvas) x y ≡ false =
      ap (λ (k : ℕ). holds (seen_in (held k).state.bounds canvas) x y) e ∙ (rw (eq-eqb row.key key e) at unseen) in
      rw (cut_here key row kids siblings e, own) refl
  | inr ne ↦ elim (cases_eq (count_of_key key kids) 0) [
    | inl z ↦
        let unseen : holds (seen_at held canvas key siblings) x y ≡ false = rw (ne_eqb row.key key ne, eq-eqb (count_of_key key kids) 0 z) at unseen in
        rw (cut_there key row kids siblings ne, cut_absent key kids z)
        (ap (λ (after : Forest PlacedView). rest_with after) (met_cut x y held canvas key siblings (omega arith) unseen))
    | inr nz ↦
        let unseen : holds (seen_at held (canvas_below (held row.key).state.bounds (scrolled held row).facts canvas) key kids) x y ≡ false = rw (ne_eqb row.key key ne, ne_eqb (count_of_key key kids) 0 nz) at unseen in
        let z : count_of_key key siblings ≡ 0 = omega arith in
        rw (cut_there key row kids siblings ne, cut_absent key siblings z)
        (ap (λ (below : Forest PlacedView). whole_with below) (met_cut x y held (canvas_below (held row.key).state.bounds (scrolled held row).facts canvas) key kids (omega arith) unseen))
  ]
]
  where
    rest_with : Forest PlacedView → Forest PlacedView
    rest_with after =
        if holds (seen_in (held row.key).state.bounds canvas) x y
        then Branch (own_of held row) (met_at x y (canvas_below (held row.key).state.bounds (scrolled held row).facts canvas) (placed_rows held kids)) after
        else after

    whole_with : Forest PlacedView → Forest PlacedView
    whole_with below =
        if holds (seen_in (held row.key).state.bounds canvas) x y
        then Branch (own_of held row) below (met_at x y canvas (placed_rows held siblings))
        else met_at x y canvas (placed_rows held siblings)

-- what is cut off may have changed before
pub cut_changed : (key : ℕ) (change : PlainView → PlainView) (tree : Forest Row) → pruned_at_key key (changed_at_key key change tree) ≡ pruned_at_key key tree
cut_changed key change Nothing = refl
cut_changed key change (Branch row kids siblings) = elim (cases_Bool (row.key == key)) [
  | inl e ↦ rw (e, e) refl
  | inr e ↦ rw (e, e, cut_changed key change kids, cut_changed key change siblings) refl
]

-- views are scrolled, and where they are nothing is seen of them
pub met_scrolled : (x y : ℤ) (old new : ℕ → Held) (canvas : Canvas) (list : Forest Row) → ((key : ℕ) → count_of_key key list ≤ 1)
    → ((key : ℕ) → (new key).state.bounds ≡ (old key).state.bounds)
    → ((key : ℕ) → 0 < count_of_key key list → ((new key).offset ≡ (old key).offset) ⊎ (holds (seen_at new canvas key list) x y ≡ false))
    → met_at x y canvas (placed_rows new list) ≡ met_at x y canvas (placed_rows old list)
met_scrolled x y old new canvas Nothing once bounds scrolls = refl
met_scrolled x y old new canvas (Branch row kids siblings) once bounds scrolls =
    let after : met_at x y canvas (placed_rows new siblings) ≡ met_at x y canvas (placed_rows old siblings) = met_scrolled x y old new canvas siblings (λ key. let o = once key in omega arith) bounds later in
    elim (scrolls row.key (times_self row kids siblings)) [
      | inr unseen ↦
          let here : holds (seen_in (new row.key).state.bounds canvas) x y ≡ false = rw (eq-eqb row.key row.key refl) at unseen in
          let there : holds (seen_in (old row.key).state.bounds canvas) x y ≡ false = rw (bounds row.key) at here in
          rw (here, there) after
      | inl same ↦
          rw (bounds row.key, same, after)
          (ap (λ (below : Forest PlacedView).
          if holds (seen_in (old row.key).state.bounds canvas) x y
          then Branch (own_of old row) below (met_at x y canvas (placed_rows old siblings))
          else met_at x y canvas (placed_rows old siblings))
          (met_scrolled x y old new (canvas_below (old row.key).state.bounds (scrolled old row).facts canvas) kids (λ key. let o = once key in omega arith) bounds (below same)))
    ]
  where
    later : (key : ℕ) → 0 < count_of_key key siblings → ((new key).offset ≡ (old key).offset) ⊎ (holds (seen_at new canvas key siblings) x y ≡ false)
    later key live =
        let ne = other_key key row kids siblings (once key) (omega arith) in
        let z : count_of_key key kids ≡ 0 = let o = once key in omega arith in
        elim (scrolls key (let o = once key in omega arith)) [
          | inl same ↦ inl same
          | inr unseen ↦ inr (rw (ne_eqb row.key key ne, eq-eqb (count_of_key key kids) 0 z) at unseen)
        ]

    below : (new row.key).offset ≡ (old row.key).offset → (key : ℕ) → 0 < count_of_key key kids
        → ((new key).offset ≡ (old key).offset) ⊎ (holds (seen_at new (canvas_below (old row.key).state.bounds (scrolled old row).facts canvas) key kids) x y ≡ false)
    below same key live =
        let ne = other_key key row kids siblings (once key) (omega arith) in
        let nz : count_of_key key kids ≡ 0 → ⊥ = λ z. absurd (omega arith) in
        elim (scrolls key (let o = once key in omega arith)) [
          | inl same ↦ inl same
          | inr unseen ↦ inr (rw (bounds row.key, same) at (rw (ne_eqb row.key key ne, ne_eqb (count_of_key key kids) 0 nz) at unseen))
        ]
