-- What is seen of the view of a key: by the number of the view, and within the canvas of the list that it is in.
use Rattle.std.proofs.Common.{◌≡◌, ℕ, ◌<◌, ◌≤◌, Bool, true, false, Option, Some, None, refl, ap, ◌∙◌, arith, inl, inr}
use Rattle.std.proofs.lemmas.Bool.{cases_Bool, cases_eq, eq-eqb, ne_eqb}
use Rattle.std.specs.Prelude.{◌==◌, if◌then◌else◌, unwrap_or}
use Rattle.damage_rect.specs.Within.{LiesIn}
use Rattle.geom_core.specs.Rects.{empty_rect}
use Rattle.geom_core.specs.declared.geometry.Rect.{Rect}
use Rattle.geom_core.specs.declared.geometry.Size.{Size}
use Rattle.seen_parts.proofs.PlacedLaws.{placed_is}
use Rattle.seen_parts.specs.Meeting.{canvas_around, placed_rows, seen_at}
use Rattle.view_model.specs.Forest.{Forest, Nothing, Branch}
use Rattle.view_model.specs.Painting.{PlacedView}
use Rattle.view_model.specs.Visible.{Canvas, canvas_below, seen_in, visible_in, visible_rect, whole_window}
use Rattle.seen_parts.proofs.VisibleLaws.{below_within, seen_within}
use Rattle.view_tree.specs.Rows.{Row, count_of_key}
use Rattle.view_tree.specs.Views.{Held, IsLive, IsTree, Views, geometry_of, held_of, number_of, plain_of, scrolled}
use Rattle.view_tree.proofs.forest.KeyLaws.{Agree}
use Rattle.view_tree.proofs.forest.PlainLaws.{agree_live}

-- the canvas of the children of the first view of a list
abbrev inner_of : (ℕ → Held) → Canvas → Row → Canvas
inner_of held canvas row = canvas_below (held row.key).state.bounds (scrolled held row).facts canvas

-- no view of a list has this number if none has the key
visible_none : (held : ℕ → Held) (canvas : Canvas) (key number : ℕ) (list : Forest Row) → count_of_key key list ≡ 0 → Agree key number list → visible_in (placed_rows held list) canvas number ≡ None
visible_none held canvas key number Nothing none agree = refl
visible_none held canvas key number (Branch row kids siblings) none agree = elim (cases_Bool (row.key == key)) [
  | inl e ↦ absurd (let none = rw e at none in omega arith)
  | inr e ↦ rw (agree.0 ∙ e, visible_none held (inner_of held canvas row) key number kids (omega arith) agree.1, visible_none held canvas key number siblings (omega arith) agree.2) refl
]

-- the view of a key is the one of its number
visible_is : (held : ℕ → Held) (canvas : Canvas) (key number : ℕ) (tree : Forest Row) → 0 < count_of_key key tree → count_of_key key tree ≤ 1 → Agree key number tree
    → visible_in (placed_rows held tree) canvas number ≡ Some (seen_at held canvas key tree)
visible_is held canvas key number Nothing live once agree = absurd (omega arith)
visible_is held canvas key number (Branch row kids siblings) live once agree = elim (cases_eq row.key key) [
  | inl e ↦
      let t : (row.key == key) ≡ true = eq-eqb row.key key e in
      rw (agree.0 ∙ t, t) (ap (λ (k : ℕ). Some (seen_in (held k).state.bounds canvas)) e)
  | inr ne ↦
      let t : (row.key == key) ≡ false = ne_eqb row.key key ne in
      let live = rw t at live in
      let once = rw t at once in
      elim (cases_eq (count_of_key key kids) 0) [
        | inl z ↦
            rw (agree.0 ∙ t, t, eq-eqb (count_of_key key kids) 0 z, visible_none held (inner_of held canvas row) key number kids z agree.1)
            (visible_is held canvas key number siblings (omega arith) (omega arith) agree.2)
        | inr nz ↦
            rw (agree.0 ∙ t, t, ne_eqb (count_of_key key kids) 0 nz, visible_is held (inner_of held canvas row) key number kids (omega arith) (omega arith) agree.1) refl
      ]
]

-- what is seen of a view in a window
pub seen_visible : (views : Views) (window : Size) (key : ℕ) → IsTree views → IsLive views key
    → visible_rect (plain_of views) (geometry_of views) window (number_of views key) ≡ seen_at (held_of views) (whole_window window) key views.tree
seen_visible views window key is live =
    ap (λ (list : Forest PlacedView). unwrap_or (visible_in list (whole_window window) (number_of views key)) empty_rect) (placed_is views is)
    ∙ ap (λ (rect : Option Rect). unwrap_or rect empty_rect) (visible_is (held_of views) (whole_window window) key (number_of views key) views.tree live (is.keys key) (agree_live views key is live))

-- the canvas of a view lies in that of the list that it is in
clip_within : (held : ℕ → Held) (canvas : Canvas) (key : ℕ) (list : Forest Row) → LiesIn (canvas_around held canvas key list).clip canvas.clip
clip_within held canvas key Nothing = λ x y h. h
clip_within held canvas key (Branch row kids siblings) =
    by (row.key == key) (count_of_key key kids == 0) (clip_within held canvas key siblings) (clip_within held (inner_of held canvas row) key kids)
  where
    by : (own none : Bool) → LiesIn (canvas_around held canvas key siblings).clip canvas.clip → LiesIn (canvas_around held (inner_of held canvas row) key kids).clip (inner_of held canvas row).clip
        → LiesIn (if own then canvas else (if none then canvas_around held canvas key siblings else canvas_around held (inner_of held canvas row) key kids)).clip canvas.clip
    by true none after below = λ x y h. h
    by false true after below = after
    by false false after below = λ x y h.
        seen_within (held row.key).state.bounds canvas x y (below_within (held row.key).state.bounds (scrolled held row).facts canvas x y (below x y h))

pub seen_inside : (held : ℕ → Held) (canvas : Canvas) (key : ℕ) (list : Forest Row) → LiesIn (seen_at held canvas key list) canvas.clip
seen_inside held canvas key list x y h =
    clip_within held canvas key list x y (seen_within (held key).state.bounds (canvas_around held canvas key list) x y h)
