-- What is seen of views that a state gives texts, at a point where nothing is seen of them.
use Rattle.std.proofs.Common.{◌≡◌, ◌≢◌, ℕ, ◌+◌, ◌<◌, ◌≤◌, ℤ, false, Some, None, Option, List, refl, sym, ap, ◌∙◌, arith, inl, inr, ◌⊎◌}
use Rattle.std.proofs.lemmas.Bool.{cases_Bool, cases_eq, eq-eqb, ne_eqb}
use Rattle.std.specs.Prelude.{◌==◌, if◌then◌else◌}
use Rattle.geom_core.specs.Rects.{holds}
use Rattle.saved_state.proofs.RestatedLaws.{count-restated}
use Rattle.saved_state.specs.Restored.{restated, wanted, with_text_of}
use Rattle.saved_state.specs.Restoring.{given}
use Rattle.saved_state.specs.State.{StateEntry}
use Rattle.saved_state.specs.declared.value.Value.{Value}
use Rattle.saved_state.specs.declared.value.Value.TheVariants.{Offset, Text}
use Rattle.seen_parts.specs.Meeting.{canvas_around, met_at, placed_rows, seen_at}
use Rattle.view_model.specs.Forest.{Forest, Nothing, Branch}
use Rattle.view_model.specs.Painting.{PlacedView}
use Rattle.view_model.specs.PlainTree.{PlainView}
use Rattle.view_model.specs.Visible.{Canvas, canvas_below, seen_in}
use Rattle.view_model.specs.declared.facts.Facts.{Facts}
use Rattle.view_tree.proofs.forest.Forests.{Within-children_of_first, Within-later_siblings}
use Rattle.view_tree.proofs.forest.KeyLaws.{Within, count_of_key-within, from_within, times_self, own_more}
use Rattle.view_tree.specs.Rows.{Row, count_of_key, head_view}
use Rattle.view_tree.specs.Views.{Held, scrolled}

-- texts change no facts
same_facts : (own : Option Value) (view : PlainView) → (with_text_of own view).facts ≡ view.facts
same_facts None view = refl
same_facts (Some (Offset offset)) view = refl
same_facts (Some (Text text)) view = refl

-- nor where a view is seen
around-restated : (entries : List StateEntry) (held : ℕ → Held) (canvas : Canvas) (key : ℕ) (list : Forest Row) → canvas_around held canvas key (restated entries list) ≡ canvas_around held canvas key list
around-restated entries held canvas key Nothing = refl
around-restated entries held canvas key (Branch row kids siblings) = elim (cases_Bool (row.key == key)) [
  | inl e ↦ rw e refl
  | inr e ↦ elim (cases_eq (count_of_key key kids) 0) [
    | inl z ↦ rw (e, count-restated entries key kids, eq-eqb (count_of_key key kids) 0 z) (around-restated entries held canvas key siblings)
    | inr nz ↦
        rw (e, count-restated entries key kids, ne_eqb (count_of_key key kids) 0 nz)
        (ap (λ (facts : Facts). canvas_around held (canvas_below (held row.key).state.bounds (let own : Facts = record facts { offset = (held row.key).offset } in own) canvas) key (restated entries kids))
        (same_facts (given entries row.view) row.view)
        ∙ around-restated entries held (canvas_below (held row.key).state.bounds (scrolled held row).facts canvas) key kids)
  ]
]

pub seen-restated : (entries : List StateEntry) (held : ℕ → Held) (canvas : Canvas) (key : ℕ) (list : Forest Row) → seen_at held canvas key (restated entries list) ≡ seen_at held canvas key list
seen-restated entries held canvas key list = ap (seen_in (held key).state.bounds) (around-restated entries held canvas key list)

-- views are given texts, and where that is so nothing is seen of them
module _ (entries : List StateEntry) (tree : Forest Row) (once : (key : ℕ) → count_of_key key tree ≤ 1) (x y : ℤ) (held : ℕ → Held) where
  abbrev placed : Row → PlainView → PlacedView
  placed row view = record { view = scrolled held (record row { view = view }); bounds = (held row.key).state.bounds }

  pub met_reported : (canvas : Canvas) (list : Forest Row) → Within list tree
      → ((key : ℕ) → 0 < count_of_key key list → (wanted entries tree key ≡ None) ⊎ (holds (seen_at held canvas key list) x y ≡ false))
      → met_at x y canvas (placed_rows held (restated entries list)) ≡ met_at x y canvas (placed_rows held list)
  met_reported canvas Nothing w reported = refl
  met_reported canvas (Branch row kids siblings) w reported =
      let after : met_at x y canvas (placed_rows held (restated entries siblings)) ≡ met_at x y canvas (placed_rows held siblings) = met_reported canvas siblings (Within-later_siblings w) later in
      elim (reported row.key (times_self row kids siblings)) [
        | inr unseen ↦
            let here : holds (seen_in (held row.key).state.bounds canvas) x y ≡ false = rw (eq-eqb row.key row.key refl) at unseen in
            rw here after
        | inl none ↦
            let head : wanted entries tree row.key ≡ given entries row.view = ap (λ (part : Forest Row). given entries (head_view part)) (from_within row kids siblings w (once row.key)) in
            let own : with_text_of (given entries row.view) row.view ≡ row.view = ap (λ (given : Option Value). with_text_of given row.view) (sym head ∙ none) in
            ap (λ (view : PlainView). met_at x y canvas (Branch (placed row view) (placed_rows held (restated entries kids)) (placed_rows held (restated entries siblings)))) own
            ∙ rw after
            (ap (λ (below : Forest PlacedView).
            if holds (seen_in (held row.key).state.bounds canvas) x y
            then Branch (placed row row.view) below (met_at x y canvas (placed_rows held siblings))
            else met_at x y canvas (placed_rows held siblings))
            (met_reported (canvas_below (held row.key).state.bounds (scrolled held row).facts canvas) kids (Within-children_of_first w) below))
      ]
    where
      part_once : (key : ℕ) → count_of_key key (Branch row kids siblings) ≤ 1
      part_once key = let a = count_of_key-within key w in let b = once key in omega arith

      other : (key : ℕ) → 0 < count_of_key key kids + count_of_key key siblings → row.key ≢ key
      other key some e = let o = part_once key in let more = own_more row kids siblings key e in absurd (omega arith)

      later : (key : ℕ) → 0 < count_of_key key siblings → (wanted entries tree key ≡ None) ⊎ (holds (seen_at held canvas key siblings) x y ≡ false)
      later key live =
          let ne = other key (omega arith) in
          let z : count_of_key key kids ≡ 0 = let o = part_once key in omega arith in
          elim (reported key (let o = part_once key in omega arith)) [
            | inl none ↦ inl none
            | inr unseen ↦ inr (rw (ne_eqb row.key key ne, eq-eqb (count_of_key key kids) 0 z) at unseen)
          ]

      below : (key : ℕ) → 0 < count_of_key key kids
          → (wanted entries tree key ≡ None) ⊎ (holds (seen_at held (canvas_below (held row.key).state.bounds (scrolled held row).facts canvas) key kids) x y ≡ false)
      below key live =
          let ne = other key (omega arith) in
          let nz : count_of_key key kids ≡ 0 → ⊥ = λ z. absurd (omega arith) in
          elim (reported key (let o = part_once key in omega arith)) [
            | inl none ↦ inl none
            | inr unseen ↦ inr (rw (ne_eqb row.key key ne, ne_eqb (count_of_key key kids) 0 nz) at unseen)
          ]
