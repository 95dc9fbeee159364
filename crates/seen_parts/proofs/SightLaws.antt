-- What of a list of views is seen while they change one after the other.
use Rattle.std.proofs.Common.{◌≡◌, ℕ, ◌≤◌, ℤ, Bool, true, false, Option, Some, None, refl, sym, ap, ◌∙◌, subst, inl, inr}
use Rattle.std.specs.Prelude.{IfSome, MatchOption, if◌then◌else◌}
use Rattle.geom_core.specs.Rects.{holds}
use Rattle.geom_core.specs.declared.geometry.Rect.{Rect}
use Rattle.seen_parts.proofs.MeetingLaws.{met_none}
use Rattle.seen_parts.specs.Meeting.{Follows, KeepsSight, as_seen, met_at, placed_rows}
use Rattle.seen_parts.specs.declared.frame.Canvas.{Canvas as FramedCanvas}
use Rattle.view_model.specs.declared.facts.Facts.{Facts}
use Rattle.view_model.specs.Forest.{Forest, Nothing, Branch, joined}
use Rattle.view_model.specs.Painting.{PlacedView}
use Rattle.view_model.specs.Visible.{Canvas, canvas_below, seen_in}
use Rattle.view_tree.specs.Rows.{Row, count_of_key, first_tree, later_siblings, part_from, rest_from}
use Rattle.view_tree.specs.Views.{Held, KeepsInside, KeepsOutside, scrolled}
use Rattle.view_tree.proofs.forest.Walks.{KeepingWalk, KeepsInside-first, KeepsOutside-parts, KeepsInside-kids, KeepsInside-siblings, KeepsInside-self, once_from, still_first}

-- views whose places and offsets are the same
pub placed_along : (old new : ℕ → Held) (list : Forest Row) → KeepsInside old new list → placed_rows new list ≡ placed_rows old list
placed_along old new Nothing same = refl
placed_along old new (Branch row kids siblings) same =
    rw (
      KeepsInside-self old new row kids siblings same,
      placed_along old new kids (KeepsInside-kids old new row kids siblings same),
      placed_along old new siblings (KeepsInside-siblings old new row kids siblings same),
    ) refl

-- a view, and then its later siblings
pub met_parts : (x y : ℤ) (canvas : Canvas) (held : ℕ → Held) (list : Forest Row)
    → met_at x y canvas (placed_rows held list) ≡ joined (met_at x y canvas (placed_rows held (first_tree list))) (met_at x y canvas (placed_rows held (later_siblings list)))
met_parts x y canvas held Nothing = refl
met_parts x y canvas held (Branch row kids siblings) = by (holds (seen_in (held row.key).state.bounds canvas) x y)
  where
    own : PlacedView
    own = record { view = scrolled held row; bounds = (held row.key).state.bounds }

    by : (t : Bool)
        → (if t then Branch own (met_at x y (canvas_below own.bounds own.view.facts canvas) (placed_rows held kids)) (met_at x y canvas (placed_rows held siblings)) else met_at x y canvas (placed_rows held siblings))
        ≡ joined (if t then Branch own (met_at x y (canvas_below own.bounds own.view.facts canvas) (placed_rows held kids)) Nothing else Nothing) (met_at x y canvas (placed_rows held siblings))
    by true = refl
    by false = refl

-- so far, what is seen of the children before `next` is as it was at the start
abbrev pub SightWalk : Canvas → Rect → Forest Row → Forest Row → (ℕ → Held) → Option ℕ → (ℕ → Held) → Type 0
SightWalk canvas damage tree kids start next now =
    (x y : ℤ) → holds damage x y ≡ false → (end : ℕ → Held) → KeepsOutside now end (rest_from next tree)
    → met_at x y canvas (placed_rows end (rest_from next tree)) ≡ met_at x y canvas (placed_rows start (rest_from next tree))
    → met_at x y canvas (placed_rows end kids) ≡ met_at x y canvas (placed_rows start kids)

pub sight_start : (canvas : Canvas) (damage : Rect) (tree kids : Forest Row) (start : ℕ → Held) (next : Option ℕ) → rest_from next tree ≡ kids → SightWalk canvas damage tree kids start next start
sight_start canvas damage tree kids start next is x y out end others same = rw is at same

pub sight_on : (canvas : Canvas) (damage later : Rect) (tree kids : Forest Row) (start : ℕ → Held) (kid : ℕ) (old mid : ℕ → Held) (next : Option ℕ)
    → KeepingWalk tree kids start (Some kid) old → SightWalk canvas damage tree kids start (Some kid) old
    → ((x y : ℤ) → holds later x y ≡ false → holds damage x y ≡ false)
    → KeepsOutside old mid (first_tree (part_from kid tree)) → KeepsSight canvas later old mid (first_tree (part_from kid tree))
    → rest_from next tree ≡ later_siblings (part_from kid tree) → SightWalk canvas later tree kids start next mid
sight_on canvas damage later tree kids start kid old mid next walk sight grew apart step is x y out end others same =
    sight x y (grew x y out) end outside whole
  where
    part : Forest Row
    part = part_from kid tree

    once : (key : ℕ) → count_of_key key part ≤ 1
    once = once_from tree kid walk.once walk.walk.live

    rest : KeepsOutside mid end (later_siblings part)
    rest = rw is at others

    outside : KeepsOutside old end part
    outside = KeepsOutside-parts old mid end part apart rest

    first : met_at x y canvas (placed_rows end (first_tree part)) ≡ met_at x y canvas (placed_rows start (first_tree part))
    first =
        ap (met_at x y canvas) (placed_along mid end (first_tree part) (KeepsInside-first mid end part once rest))
        ∙ step x y out
        ∙ ap (met_at x y canvas) (placed_along start old (first_tree part) (still_first tree kids start kid old walk))

    after : met_at x y canvas (placed_rows end (later_siblings part)) ≡ met_at x y canvas (placed_rows start (later_siblings part))
    after = rw is at same

    whole : met_at x y canvas (placed_rows end part) ≡ met_at x y canvas (placed_rows start part)
    whole =
        met_parts x y canvas end part
        ∙ ap (λ (list : Forest PlacedView). joined list (met_at x y canvas (placed_rows end (later_siblings part)))) first
        ∙ ap (λ (list : Forest PlacedView). joined (met_at x y canvas (placed_rows start (first_tree part))) list) after
        ∙ sym (met_parts x y canvas start part)

pub sight_end : (canvas : Canvas) (damage : Rect) (tree kids : Forest Row) (start now : ℕ → Held) → SightWalk canvas damage tree kids start None now → KeepsSight canvas damage start now kids
sight_end canvas damage tree kids start now sight x y out = sight x y out now (λ key none. refl) refl

-- a view that was followed, and its children
pub sight_own : (canvas : Canvas) (damage : Rect) (old new : ℕ → Held) (row : Row) (kids : Forest Row) (before : Option Rect) (rect : Rect) (facts : Facts) (inner : Option FramedCanvas)
    → (old row.key).state.bounds ≡ before → (new row.key).state.bounds ≡ Some rect → (new row.key).offset ≡ (old row.key).offset → facts ≡ (scrolled old row).facts
    → Follows facts before rect canvas damage inner → IfSome inner (λ inner. KeepsSight (as_seen inner) damage old new kids)
    → KeepsSight canvas damage old new (Branch row kids Nothing)
sight_own canvas damage old new row kids before rect facts inner was lies offset is follows below x y out =
    elim (follows x y out) [
      | inl unseen ↦ rw (was, lies, unseen.0, unseen.1) refl
      | inr same ↦
          rw (was, lies, same.0, offset)
          (ap (λ (list : Forest PlacedView). if holds (seen_in (Some rect) canvas) x y then Branch (record { view = scrolled old row; bounds = Some rect }) list Nothing else Nothing)
          (children inner below (rw is at same.1)))
    ]
  where
    children : (inner : Option FramedCanvas) → IfSome inner (λ inner. KeepsSight (as_seen inner) damage old new kids)
        → MatchOption inner (holds (canvas_below (Some rect) (scrolled old row).facts canvas).clip x y ≡ false) (λ inner. as_seen inner ≡ canvas_below (Some rect) (scrolled old row).facts canvas)
        → met_at x y (canvas_below (Some rect) (scrolled old row).facts canvas) (placed_rows new kids) ≡ met_at x y (canvas_below (Some rect) (scrolled old row).facts canvas) (placed_rows old kids)
    children None below none =
        met_none x y (canvas_below (Some rect) (scrolled old row).facts canvas) (placed_rows new kids) none
        ∙ sym (met_none x y (canvas_below (Some rect) (scrolled old row).facts canvas) (placed_rows old kids) none)
    children (Some inner) below is = subst (λ (c : Canvas). met_at x y c (placed_rows new kids) ≡ met_at x y c (placed_rows old kids)) is (below x y out)
