-- Boxes around what is seen of the views that are shifted, while they are laid one after the other.
use Rattle.std.proofs.Common.{◌≡◌, inl, inr, ℕ, ◌+◌, ◌<◌, ◌≤◌, ℤ, Bool, true, false, Option, Some, None, refl, sym, ap, ◌∙◌, subst, arith}
use Rattle.std.specs.Prelude.{◌+ℤ◌, if◌then◌else◌}
use Rattle.std.specs.Ordering.{int_eq}
use Rattle.std.proofs.lemmas.Bool.{cases_Bool, eq-eqb, ne_eqb}
use Rattle.std.proofs.lemmas.Bool.Decides.{Decides-int_eq}
use Rattle.damage_rect.proofs.RectLaws.{meet_within_second}
use Rattle.damage_rect.specs.Within.{LiesIn}
use Rattle.geom_core.specs.Rects.{holds, meet_of}
use Rattle.geom_core.specs.declared.geometry.Rect.{Rect}
use Rattle.seen_parts.proofs.MeetingLaws.{nowhere_unseen}
use Rattle.seen_parts.specs.Meeting.{placed_rows, seen_at}
use Rattle.view_model.specs.declared.facts.Facts.{Facts}
use Rattle.view_model.specs.Forest.{Forest, Nothing, Branch}
use Rattle.view_model.specs.Geometry.{size_of_rect}
use Rattle.view_model.specs.Painting.{inner_rect}
use Rattle.view_model.specs.Visible.{Canvas, canvas_below, moved_rect, seen_in}
use Rattle.view_tree.specs.Rows.{Row, count_of_key, first_tree, later_siblings, part_from, rest_from}
use Rattle.view_tree.specs.Views.{Held, KeepsInside, KeepsOutside, scrolled}
use Rattle.view_tree.proofs.forest.KeyLaws.{other_key, times_self}
use Rattle.view_tree.proofs.forest.Walks.{KeepingWalk, KeepsInside-first, KeepsOutside-parts, once_from, still_first}
use Rattle.traversal.specs.Covering.{Covered, IsShifted}

-- each view of a list has the bounds and the offset that it had
abbrev pub SamePlaces : (ℕ → Held) → (ℕ → Held) → Forest Row → Type 0
SamePlaces old new list = (key : ℕ) → 0 < count_of_key key list → ((new key).state.bounds ≡ (old key).state.bounds) × ((new key).offset ≡ (old key).offset)

pub places_kept : (old new : ℕ → Held) (list : Forest Row) → KeepsInside old new list → SamePlaces old new list
places_kept old new list same key here = (ap (λ (h : Held). h.state.bounds) (same key here), ap (λ (h : Held). h.offset) (same key here))

pub placed_same : (old new : ℕ → Held) (list : Forest Row) → SamePlaces old new list → placed_rows new list ≡ placed_rows old list
placed_same old new Nothing same = refl
placed_same old new (Branch row kids siblings) same =
    let own = same row.key (times_self row kids siblings) in
    rw (own.0, own.1, placed_same old new kids (λ key here. same key (omega arith)), placed_same old new siblings (λ key here. same key (omega arith))) refl

-- a canvas below a view that has the bounds and the offset that it had
pub below_same : (row : Row) (old new : ℕ → Held) (canvas : Canvas) → (new row.key).state.bounds ≡ (old row.key).state.bounds → (new row.key).offset ≡ (old row.key).offset
    → canvas_below (new row.key).state.bounds (scrolled new row).facts canvas ≡ canvas_below (old row.key).state.bounds (scrolled old row).facts canvas
below_same row old new canvas bounds offset =
    ap (λ (bounds : Option Rect). canvas_below bounds (scrolled new row).facts canvas) bounds
    ∙ ap (λ (offset : ℤ). let facts : Facts = record row.view.facts { offset = offset } in canvas_below (old row.key).state.bounds facts canvas) offset

-- a box covers the same of views of which the same is kept
pub covered_same : (canvas : Canvas) (box : Rect) (old old' new new' : ℕ → Held) (list : Forest Row) → SamePlaces old old' list → SamePlaces new new' list
    → Covered canvas box old new list → Covered canvas box old' new' list
covered_same canvas box old old' new new' Nothing before after covered = tt
covered_same canvas box old old' new new' (Branch row kids siblings) before after covered =
    let here = times_self row kids siblings in
    let b = before row.key here in
    let a = after row.key here in
    let stays : (new' row.key).state.bounds ≡ (old' row.key).state.bounds → Covered (canvas_below (old' row.key).state.bounds (scrolled old' row).facts canvas) box old' new' kids =
    λ e. subst (λ (c : Canvas). Covered c box old' new' kids) (sym (below_same row old old' canvas b.0 b.1))
    (covered_same (canvas_below (old row.key).state.bounds (scrolled old row).facts canvas) box old old' new new' kids
    (λ key here. before key (omega arith)) (λ key here. after key (omega arith)) (covered.0 (sym a.0 ∙ e ∙ b.0))) in
    let shifts : IsShifted (old' row.key) (new' row.key) → LiesIn (seen_in (old' row.key).state.bounds canvas) box × LiesIn (seen_in (new' row.key).state.bounds canvas) box =
    λ shifted.
    let both = covered.1 (elim shifted [ inl ne ↦ inl (λ e. ne (a.0 ∙ e ∙ sym b.0)) | inr ne ↦ inr (λ e. ne (a.1 ∙ e ∙ sym b.1)) ]) in (
      subst (λ (bounds : Option Rect). LiesIn (seen_in bounds canvas) box) (sym b.0) both.0,
      subst (λ (bounds : Option Rect). LiesIn (seen_in bounds canvas) box) (sym a.0) both.1,
    ) in
    (stays, shifts, covered_same canvas box old old' new new' siblings (λ key here. before key (omega arith)) (λ key here. after key (omega arith)) covered.2)

pub covered_first : (canvas : Canvas) (box : Rect) (old new : ℕ → Held) (list : Forest Row) → Covered canvas box old new list → Covered canvas box old new (first_tree list)
covered_first canvas box old new Nothing covered = tt
covered_first canvas box old new (Branch row kids siblings) covered = (covered.0, covered.1, tt)

pub covered_later : (canvas : Canvas) (box : Rect) (old new : ℕ → Held) (list : Forest Row) → Covered canvas box old new list → Covered canvas box old new (later_siblings list)
covered_later canvas box old new Nothing covered = tt
covered_later canvas box old new (Branch row kids siblings) covered = covered.2

-- so far, the damage lies in each box that covers the children once all are laid
abbrev pub CoverWalk : Canvas → Rect → Rect → Forest Row → Forest Row → (ℕ → Held) → Option ℕ → (ℕ → Held) → Type 0
CoverWalk canvas less damage tree kids start next now =
    (box : Rect) (end : ℕ → Held) → KeepsOutside now end (rest_from next tree) → Covered canvas box start end kids → LiesIn less box
    → Covered canvas box start end (rest_from next tree) × LiesIn damage box

pub cover_start : (canvas : Canvas) (less : Rect) (tree kids : Forest Row) (start : ℕ → Held) (next : Option ℕ) → rest_from next tree ≡ kids → CoverWalk canvas less less tree kids start next start
cover_start canvas less tree kids start next is box end others covered lies = (rw is covered, lies)

pub cover_on : (canvas : Canvas) (less damage more : Rect) (tree kids : Forest Row) (start : ℕ → Held) (kid : ℕ) (old mid : ℕ → Held) (next : Option ℕ)
    → KeepingWalk tree kids start (Some kid) old → CoverWalk canvas less damage tree kids start (Some kid) old
    → KeepsOutside old mid (first_tree (part_from kid tree))
    → ((box : Rect) → LiesIn damage box → Covered canvas box old mid (first_tree (part_from kid tree)) → LiesIn more box)
    → rest_from next tree ≡ later_siblings (part_from kid tree) → CoverWalk canvas less more tree kids start next mid
cover_on canvas less damage more tree kids start kid old mid next walk cover apart step is box end others covered lies =
    let part = part_from kid tree in
    let once : (key : ℕ) → count_of_key key part ≤ 1 = once_from tree kid walk.once walk.walk.live in
    let rest : KeepsOutside mid end (later_siblings part) = rw is at others in
    let so_far = cover box end (KeepsOutside-parts old mid end part apart rest) covered lies in
    let last : KeepsInside mid end (first_tree part) = KeepsInside-first mid end part once rest in
    let here : Covered canvas box old mid (first_tree part) =
    covered_same canvas box start old end mid (first_tree part) (places_kept start old (first_tree part) (still_first tree kids start kid old walk))
    (places_kept end mid (first_tree part) (λ key here. sym (last key here))) (covered_first canvas box start end part so_far.0) in
    (rw is (covered_later canvas box start end part so_far.0), step box so_far.1 here)

pub cover_end : (canvas : Canvas) (less damage : Rect) (tree kids : Forest Row) (start now : ℕ → Held) → CoverWalk canvas less damage tree kids start None now
    → (box : Rect) → LiesIn less box → Covered canvas box start now kids → LiesIn damage box
cover_end canvas less damage tree kids start now cover box lies covered = (cover box now (λ key none. refl) covered lies).1

-- what is seen in a canvas lies in its clip
seen_clipped : (bounds : Option Rect) (canvas : Canvas) → LiesIn (seen_in bounds canvas) canvas.clip
seen_clipped None canvas x y h = absurd (let no : true ≡ false = sym h ∙ nowhere_unseen canvas x y in cc)
seen_clipped (Some rect) canvas x y h = meet_within_second (moved_rect rect canvas.left canvas.top) canvas.clip x y h

-- and so do the clips of children in what is seen of their group
clip_inside : (bounds : Option Rect) (facts : Facts) (canvas : Canvas) → LiesIn (canvas_below bounds facts canvas).clip (seen_in bounds canvas)
clip_inside None facts canvas x y h = h
clip_inside (Some rect) facts canvas x y h = by facts.clip h
  where
    own : Rect
    own = seen_in (Some rect) canvas

    inner : Rect
    inner = moved_rect (inner_rect facts (size_of_rect rect)) (rect.left +ℤ canvas.left) (rect.top +ℤ canvas.top)

    by : (clip : Bool) → holds (if clip then meet_of inner own else own) x y ≡ true → holds own x y ≡ true
    by true h = meet_within_second inner own x y h
    by false h = h

-- a box around a whole canvas covers all that is seen in it
covered_clip : (canvas : Canvas) (box : Rect) (old new : ℕ → Held) (list : Forest Row) → LiesIn canvas.clip box → Covered canvas box old new list
covered_clip canvas box old new Nothing lies = tt
covered_clip canvas box old new (Branch row kids siblings) lies = (
  λ same. covered_clip (canvas_below (old row.key).state.bounds (scrolled old row).facts canvas) box old new kids
      (λ x y h. lies x y (seen_clipped (old row.key).state.bounds canvas x y (clip_inside (old row.key).state.bounds (scrolled old row).facts canvas x y h))),
  λ shifted. (λ x y h. lies x y (seen_clipped (old row.key).state.bounds canvas x y h), λ x y h. lies x y (seen_clipped (new row.key).state.bounds canvas x y h)),
  covered_clip canvas box old new siblings lies,
)

-- a box that has what is seen of each view that is shifted covers them all: below one that is scrolled it has all that is
-- seen there
pub covered_by : (canvas : Canvas) (box : Rect) (old new : ℕ → Held) (list : Forest Row) → ((key : ℕ) → count_of_key key list ≤ 1)
    → ((key : ℕ) → 0 < count_of_key key list → IsShifted (old key) (new key) → LiesIn (seen_at old canvas key list) box × LiesIn (seen_at new canvas key list) box)
    → Covered canvas box old new list
covered_by canvas box old new Nothing once around = tt
covered_by canvas box old new (Branch row kids siblings) once around = (
  below (covered_by (canvas_below (old row.key).state.bounds (scrolled old row).facts canvas) box old new kids (λ key. let o = once key in omega arith)),
  own,
  covered_by canvas box old new siblings (λ key. let o = once key in omega arith) later,
)
  where
    own : IsShifted (old row.key) (new row.key) → LiesIn (seen_in (old row.key).state.bounds canvas) box × LiesIn (seen_in (new row.key).state.bounds canvas) box
    own shifted = rw (eq-eqb row.key row.key refl) at (around row.key (times_self row kids siblings) shifted)

    later : (key : ℕ) → 0 < count_of_key key siblings → IsShifted (old key) (new key) → LiesIn (seen_at old canvas key siblings) box × LiesIn (seen_at new canvas key siblings) box
    later key live shifted =
        let ne = other_key key row kids siblings (once key) (omega arith) in
        let z : count_of_key key kids ≡ 0 = let o = once key in omega arith in
        rw (ne_eqb row.key key ne, eq-eqb (count_of_key key kids) 0 z) at (around key (omega arith) shifted)

    inside : (new row.key).state.bounds ≡ (old row.key).state.bounds → (new row.key).offset ≡ (old row.key).offset → (key : ℕ) → 0 < count_of_key key kids → IsShifted (old key) (new key)
        → LiesIn (seen_at old (canvas_below (old row.key).state.bounds (scrolled old row).facts canvas) key kids) box × LiesIn (seen_at new (canvas_below (old row.key).state.bounds (scrolled old row).facts canvas) key kids) box
    inside bounds offset key live shifted =
        let ne = other_key key row kids siblings (once key) (omega arith) in
        let nz : count_of_key key kids ≡ 0 → ⊥ = λ z. absurd (omega arith) in
        let seen = rw (ne_eqb row.key key ne, ne_eqb (count_of_key key kids) 0 nz) at (around key (omega arith) shifted) in
        (seen.0, subst (λ (c : Canvas). LiesIn (seen_at new c key kids) box) (below_same row old new canvas bounds offset) seen.1)

    below : (((key : ℕ) → 0 < count_of_key key kids → IsShifted (old key) (new key) → LiesIn (seen_at old (canvas_below (old row.key).state.bounds (scrolled old row).facts canvas) key kids) box × LiesIn (seen_at new (canvas_below (old row.key).state.bounds (scrolled old row).facts canvas) key kids) box) → Covered (canvas_below (old row.key).state.bounds (scrolled old row).facts canvas) box old new kids) → (new row.key).state.bounds ≡ (old row.key).state.bounds → Covered (canvas_below (old row.key).state.bounds (scrolled old row).facts canvas) box old new kids
    below all bounds = elim (cases_Bool (int_eq (new row.key).offset (old row.key).offset)) [
      | inl same ↦ all (inside bounds ((Decides-int_eq (new row.key).offset (old row.key).offset).0 same))
      | inr differs ↦
          let seen = own (inr (λ e. let no : true ≡ false = sym ((Decides-int_eq (new row.key).offset (old row.key).offset).1 e) ∙ differs in absurd (cc))) in
          covered_clip (canvas_below (old row.key).state.bounds (scrolled old row).facts canvas) box old new kids (λ x y h. seen.0 x y (clip_inside (old row.key).state.bounds (scrolled old row).facts canvas x y h))
    ]
