-- The canvas of a view, by that of its parent.
use Rattle.std.proofs.Common.{◌≡◌, ◌≢◌, ℕ, ◌<◌, ◌≤◌, ℤ, Bool, true, false, Option, Some, None, List, [], ◌∷◌, refl, sym, ap, ◌∙◌, arith, inl, inr, ◌⊎◌}
use Rattle.std.proofs.lemmas.Bool.{cases_eq, eq-eqb, ne_eqb}
use Rattle.std.specs.Prelude.{MatchOption, pos}
use Rattle.damage_rect.proofs.RectLaws.{and_none, meet_none}
use Rattle.geom_core.specs.Rects.{empty_rect, holds}
use Rattle.geom_core.specs.declared.geometry.Rect.{Rect}
use Rattle.seen_parts.proofs.MeetingLaws.{nowhere_unseen, outside_unseen}
use Rattle.seen_parts.proofs.SeeingLaws.{unseen_below}
use Rattle.seen_parts.specs.Meeting.{as_seen, canvas_around}
use Rattle.seen_parts.specs.declared.frame.Canvas.{Canvas as FramedCanvas}
use Rattle.view_model.specs.declared.facts.Facts.{Facts}
use Rattle.view_model.specs.Forest.{Forest, Nothing, Branch}
use Rattle.view_model.specs.Visible.{Canvas, canvas_below, moved_rect, seen_in}
use Rattle.view_tree.specs.Rows.{Row, ancestors, around, count_of_key, head_view, part_from}
use Rattle.view_tree.specs.Views.{Held, scrolled}
use Rattle.view_tree.proofs.forest.AncestorLaws.{around_after, around_below, around_here, left}
use Rattle.view_tree.proofs.forest.KeyLaws.{Within, count_of_key-within, from_within, here, in_after, in_below, times_self, own_more}

module _ (held : ℕ → Held) where
  canvas_here : (canvas : Canvas) (k : ℕ) (row : Row) (kids siblings : Forest Row) → row.key ≡ k → canvas_around held canvas k (Branch row kids siblings) ≡ canvas
  canvas_here canvas k row kids siblings e = rw (eq-eqb row.key k e) refl

  canvas_after : (canvas : Canvas) (k : ℕ) (row : Row) (kids siblings : Forest Row) → row.key ≢ k → count_of_key k kids ≡ 0
      → canvas_around held canvas k (Branch row kids siblings) ≡ canvas_around held canvas k siblings
  canvas_after canvas k row kids siblings ne z = rw (ne_eqb row.key k ne, eq-eqb (count_of_key k kids) 0 z) refl

  canvas_inside : (canvas : Canvas) (k : ℕ) (row : Row) (kids siblings : Forest Row) → row.key ≢ k → (count_of_key k kids ≡ 0 → ⊥)
      → canvas_around held canvas k (Branch row kids siblings) ≡ canvas_around held (canvas_below (held row.key).state.bounds (scrolled held row).facts canvas) k kids
  canvas_inside canvas k row kids siblings ne nz = rw (ne_eqb row.key k ne, ne_eqb (count_of_key k kids) 0 nz) refl

  -- a view is among the outermost, and is in their canvas, or in that of the nearest view around it
  record Above (acc : List ℕ) (canvas : Canvas) (k : ℕ) (t : Forest Row) : Type 0 where
    pub row : Row
    pub kids : Forest Row
    pub siblings : Forest Row
    pub within : Within (Branch row kids siblings) t
    pub is : around acc k t ≡ row.key ∷ around acc row.key t
    pub canvas_is : canvas_around held canvas k t ≡ canvas_below (held row.key).state.bounds (scrolled held row).facts (canvas_around held canvas row.key t)

  record Outermost (acc : List ℕ) (canvas : Canvas) (k : ℕ) (t : Forest Row) : Type 0 where
    pub is : around acc k t ≡ acc
    pub canvas_is : canvas_around held canvas k t ≡ canvas

  above : (k : ℕ) (t : Forest Row) (acc : List ℕ) (canvas : Canvas) → ((x : ℕ) → count_of_key x t ≤ 1) → 0 < count_of_key k t → Outermost acc canvas k t ⊎ Above acc canvas k t
  above k Nothing acc canvas once live = absurd (omega arith)
  above k (Branch row kids siblings) acc canvas once live = elim (cases_eq row.key k) [
    | inl e ↦ inl (record { is = around_here acc k row kids siblings e; canvas_is = canvas_here canvas k row kids siblings e })
    | inr ne ↦ elim (cases_eq (count_of_key k kids) 0) [
      | inl z ↦ let p = left k row kids siblings ne live in
          elim (above k siblings acc canvas (λ x. let o = once x in omega arith) (omega arith)) [
            | inl g ↦ inl (record { is = around_after acc k row kids siblings ne z ∙ g.is; canvas_is = canvas_after canvas k row kids siblings ne z ∙ g.canvas_is })
            | inr g ↦
                let some = times_self g.row g.kids g.siblings in
                let more = count_of_key-within g.row.key g.within in
                let ne' : row.key ≢ g.row.key = λ i. let o = once g.row.key in let w = own_more row kids siblings g.row.key i in absurd (omega arith) in
                let z' : count_of_key g.row.key kids ≡ 0 = let o = once g.row.key in omega arith in
                inr (record {
                  row = g.row;
                  kids = g.kids;
                  siblings = g.siblings;
                  within = in_after g.within;
                  is = around_after acc k row kids siblings ne z ∙ g.is ∙ ap (λ l. g.row.key ∷ l) (sym (around_after acc g.row.key row kids siblings ne' z'));
                  canvas_is =
                      canvas_after canvas k row kids siblings ne z ∙ g.canvas_is
                      ∙ ap (canvas_below (held g.row.key).state.bounds (scrolled held g.row).facts) (sym (canvas_after canvas g.row.key row kids siblings ne' z'));
                })
          ]
      | inr nz ↦
          let inner = canvas_below (held row.key).state.bounds (scrolled held row).facts canvas in
          elim (above k kids (row.key ∷ acc) inner (λ x. let o = once x in omega arith) (omega arith)) [
            | inl g ↦ inr (record {
              row = row;
              kids = kids;
              siblings = siblings;
              within = here;
              is = around_below acc k row kids siblings ne nz ∙ g.is ∙ ap (λ l. row.key ∷ l) (sym (around_here acc row.key row kids siblings refl));
              canvas_is =
                  canvas_inside canvas k row kids siblings ne nz ∙ g.canvas_is
                  ∙ ap (canvas_below (held row.key).state.bounds (scrolled held row).facts) (sym (canvas_here canvas row.key row kids siblings refl));
            })
            | inr g ↦
                let some = times_self g.row g.kids g.siblings in
                let more = count_of_key-within g.row.key g.within in
                let ne' : row.key ≢ g.row.key = λ i. let o = once g.row.key in let w = own_more row kids siblings g.row.key i in absurd (omega arith) in
                let nz' : count_of_key g.row.key kids ≡ 0 → ⊥ = λ z. absurd (omega arith) in
                inr (record {
                  row = g.row;
                  kids = g.kids;
                  siblings = g.siblings;
                  within = in_below g.within;
                  is = around_below acc k row kids siblings ne nz ∙ g.is ∙ ap (λ l. g.row.key ∷ l) (sym (around_below acc g.row.key row kids siblings ne' nz'));
                  canvas_is =
                      canvas_inside canvas k row kids siblings ne nz ∙ g.canvas_is
                      ∙ ap (canvas_below (held g.row.key).state.bounds (scrolled held g.row).facts) (sym (canvas_inside canvas g.row.key row kids siblings ne' nz'));
                })
          ]
    ]
  ]

  abbrev head_of : List ℕ → ℕ → ℕ
  head_of [] none = none
  head_of (x ∷ xs) none = x

  abbrev is_cons : List ℕ → Bool
  is_cons [] = false
  is_cons (x ∷ xs) = true

  -- a view without a parent
  pub canvas_outermost : (k : ℕ) (t : Forest Row) (canvas : Canvas) → ((x : ℕ) → count_of_key x t ≤ 1) → 0 < count_of_key k t → ancestors k t ≡ [] → canvas_around held canvas k t ≡ canvas
  canvas_outermost k t canvas once live none = elim (above k t [] canvas once live) [
    | inl g ↦ g.canvas_is
    | inr g ↦ absurd (let e : true ≡ false = ap is_cons (sym g.is ∙ none) in cc)
  ]

  -- a view with one
  pub canvas_parent : (k parent : ℕ) (t : Forest Row) (canvas : Canvas) → ((x : ℕ) → count_of_key x t ≤ 1) → 0 < count_of_key k t → ancestors k t ≡ parent ∷ ancestors parent t
      → canvas_around held canvas k t ≡ canvas_below (held parent).state.bounds (record (head_view (part_from parent t)).facts { offset = (held parent).offset }) (canvas_around held canvas parent t)
  canvas_parent k parent t canvas once live path = elim (above k t [] canvas once live) [
    | inl g ↦ absurd (let e : false ≡ true = ap is_cons (sym g.is ∙ path) in cc)
    | inr g ↦
        let same : g.row.key ≡ parent = ap (λ (l : List ℕ). head_of l 0) (sym g.is ∙ path) in
        let part : part_from g.row.key t ≡ Branch g.row g.kids g.siblings = from_within g.row g.kids g.siblings g.within (once g.row.key) in
        let own : (scrolled held g.row).facts ≡ record (head_view (part_from g.row.key t)).facts { offset = (held g.row.key).offset } =
        ap (λ (list : Forest Row). let facts : Facts = record (head_view list).facts { offset = (held g.row.key).offset } in facts) (sym part) in
        g.canvas_is
        ∙ ap (λ (facts : Facts). canvas_below (held g.row.key).state.bounds facts (canvas_around held canvas g.row.key t)) own
        ∙ ap (λ (x : ℕ). canvas_below (held x).state.bounds (record (head_view (part_from x t)).facts { offset = (held x).offset }) (canvas_around held canvas x t)) same
  ]

empty_rect_holds : (x y : ℤ) → holds empty_rect x y ≡ false
empty_rect_holds x y = nowhere_unseen no_canvas x y
  where
    no_canvas : Canvas
    no_canvas = record { left = pos 0; top = pos 0; clip = empty_rect }

-- where nothing is seen of a view, nothing is seen of its children
pub below_none : (bounds : Option Rect) (facts : Facts) (canvas : Canvas) (x y : ℤ) → holds canvas.clip x y ≡ false → holds (canvas_below bounds facts canvas).clip x y ≡ false
below_none None facts canvas x y out = empty_rect_holds x y
below_none (Some rect) facts canvas x y out = unseen_below facts rect canvas x y (outside_unseen (Some rect) canvas x y out)

pub below_nowhere : (bounds : Option Rect) (facts : Facts) (canvas : Canvas) (x y : ℤ) → bounds ≡ None → holds (canvas_below bounds facts canvas).clip x y ≡ false
below_nowhere bounds facts canvas x y is = rw is (empty_rect_holds x y)

-- the canvas that was returned is that of the children of a view
pub answer_below : (answer : Option FramedCanvas) (rect : Rect) (bounds : Option Rect) (facts own : Facts) (canvas outer whole : Canvas) → bounds ≡ Some rect → facts ≡ own → canvas ≡ outer
    → whole ≡ canvas_below bounds own outer
    → MatchOption answer ((x y : ℤ) → holds (canvas_below (Some rect) facts canvas).clip x y ≡ false) (λ inner. as_seen inner ≡ canvas_below (Some rect) facts canvas)
    → MatchOption answer ((x y : ℤ) → holds whole.clip x y ≡ false) (λ inner. as_seen inner ≡ whole)
answer_below None rect bounds facts own canvas outer whole lies same at is below = λ x y.
    ap (λ (canvas : Canvas). holds canvas.clip x y) (whole_is rect bounds facts own canvas outer whole lies same at is) ∙ below x y
  where
    whole_is : (rect : Rect) (bounds : Option Rect) (facts own : Facts) (canvas outer whole : Canvas) → bounds ≡ Some rect → facts ≡ own → canvas ≡ outer
        → whole ≡ canvas_below bounds own outer → whole ≡ canvas_below (Some rect) facts canvas
    whole_is rect bounds facts own canvas outer whole lies same at is = is ∙ rw (lies, same, at) refl
answer_below (Some inner) rect bounds facts own canvas outer whole lies same at is below = below ∙ sym (is ∙ rw (lies, same, at) refl)

-- what is seen of a view of which nothing can be
pub seen_none : (bounds : Option Rect) (canvas : Canvas) → ((x y : ℤ) → holds canvas.clip x y ≡ false) → empty_rect ≡ seen_in bounds canvas
seen_none None canvas none = refl
seen_none (Some rect) canvas none =
    sym (meet_none (moved_rect rect canvas.left canvas.top) canvas.clip λ x y. and_none (holds (moved_rect rect canvas.left canvas.top) x y) (holds canvas.clip x y) (none x y))
