use Rattle.std.proofs.Common.{◌≡◌, ℕ, Bool, true, Option, Some, None, sym, ap, ◌∙◌, arith}
use Rattle.geom_core.specs.Rects.{holds}
use Rattle.geom_core.specs.declared.geometry.Rect.{Rect}
use Rattle.seen_parts.specs.Meeting.{as_seen}
use Rattle.view_model.specs.Painting.{is_drawn}
use Rattle.view_model.specs.Visible.{Canvas, canvas_below, seen_in}
use Rattle.view_model.specs.declared.facts.Facts.{Facts}
use Rattle.view_tree.specs.Rows.{children_of_first, first_tree, later_siblings, part_from}
use Rattle.view_tree.specs.Views.{Views, facts_of, held_of, state_of, view_at}
use Rattle.view_tree.specs.declared.node.state.State.{State}
use Rattle.view_tree.proofs.forest.Walks.{fewer_below, walk_falls, walk_on}
use Rattle.focus_finder.proofs.LeastLaws.{lesser_alone, lesser_assoc, lesser_below}
use Rattle.focus_finder.proofs.SightLaws.{found, found-drawn, found-parts, found-unseen, nowhere_below}
use Rattle.focus_finder.specs.Focus.{lesser}
use Rattle.focus_finder.specs.Sights.{own_candidate}
use Rattle.focus_finder.specs.declared.searching.Candidate.{Candidate}
use Rattle.focus_finder.specs.declared.searching.Search.{Search}
use Rattle.focus_finder.proofs.searching.+search.Goals as goal

pub best_in_children-best_in_view-best-requires : goal.best_in_children-best_in_view-best-requires
best_in_children-best_in_view-best-requires t c =
    let walk = rw c.in-Some.is at c.loop-next.invariant.walk in
    let fewer = fewer_below c.args.tree.now.tree c.args.view c.in-Some.child c.requires.live walk in
    (omega arith, (walk.live, c.requires.canvas))

pub best_in_children-loop-next-smaller : goal.best_in_children-loop-next-smaller
best_in_children-loop-next-smaller t c =
    walk_falls c.args.tree.now.tree _ c.loop-next.next c.next-next.result c.in-Some.child c.in-Some.is c.loop-next.invariant.walk c.next-next.ensures.part

pub best_in_children-loop-next-preserved : goal.best_in_children-loop-next-preserved
best_in_children-loop-next-preserved t c =
    let tree = c.args.tree.now.tree in
    let search = c.args.search in
    let held = held_of c.args.tree.now in
    let canvas = as_seen c.args.canvas in
    let part = part_from c.in-Some.child tree in
    let walk = rw c.in-Some.is at c.loop-next.invariant.walk in
    let rest = rw c.in-Some.is at c.loop-next.invariant.rest in
    record {
      walk = walk_on tree (children_of_first (part_from c.args.view tree)) c.in-Some.child c.next-next.result walk c.next-next.ensures.part c.next-next.ensures.live;
      rest = rw (c.next-next.ensures.part, c.best_in_view-best.ensures)
          (lesser_assoc c.loop-next.best (found search held canvas (first_tree part)) (found search held canvas (later_siblings part))
          ∙ ap (lesser c.loop-next.best) (sym (found-parts search held canvas part))
          ∙ rest);
    }

drawn_at : (tree : Views) (view : ℕ) (facts : Facts) (drawn : Bool) → facts ≡ facts_of tree view → drawn ≡ is_drawn facts.visibility → drawn ≡ true → is_drawn (facts_of tree view).visibility ≡ true
drawn_at tree view facts drawn own is shown = ap (λ (f : Facts). is_drawn f.visibility) (sym own) ∙ sym is ∙ shown

own_at : (search : Search) (tree : Views) (view : ℕ) (canvas : Canvas) (state : State) (rect : Rect) (own : Option Candidate) → state ≡ state_of tree view → rect ≡ seen_in state.bounds canvas
    → own ≡ own_candidate search (view_at tree view) view rect → own ≡ own_candidate search (view_at tree view) view (seen_in (state_of tree view).bounds canvas)
own_at search tree view canvas state rect own at seen is = is ∙ ap (own_candidate search (view_at tree view) view) (seen ∙ ap (λ (s : State). seen_in s.bounds canvas) at)

inner_at : (tree : Views) (view : ℕ) (canvas : Canvas) (state : State) (bounds : Rect) (facts : Facts) → state ≡ state_of tree view → state.bounds ≡ Some bounds → facts ≡ facts_of tree view
    → canvas_below (state_of tree view).bounds (facts_of tree view) canvas ≡ canvas_below (Some bounds) facts canvas
inner_at tree view canvas state bounds facts at some own =
    ap (λ (b : Option Rect). canvas_below b (facts_of tree view) canvas) (ap (λ (s : State). s.bounds) (sym at) ∙ some)
    ∙ ap (λ (f : Facts). canvas_below (Some bounds) f canvas) (sym own)

pub best_in_view-returns-in_default : goal.best_in_view-returns-in_default
best_in_view-returns-in_default t c =
    let tree = c.args.tree.now in
    let view = c.args.view in
    let canvas = as_seen c.args.canvas in
    let drawn = drawn_at tree view c.facts.result.now c.is_drawn.result c.facts.ensures.value c.is_drawn.ensures c.if-not-is_drawn.false in
    let own = own_at c.args.search tree view canvas c.state-bounds.result c.part_seen.result c.own_candidate.result c.state-bounds.ensures.value c.part_seen.ensures c.own_candidate.ensures in
    let none : (state_of tree view).bounds ≡ None = ap (λ (s : State). s.bounds) (sym c.state-bounds.ensures.value) ∙ c.in_default.is in
    lesser_alone c.args.best _ _ _ c.lesser-best.result (c.lesser-best.ensures ∙ ap (lesser c.args.best) own)
    (found-drawn c.args.search tree view canvas c.requires.live drawn)
    (found-unseen c.args.search (held_of tree) (canvas_below (state_of tree view).bounds (facts_of tree view) canvas) (children_of_first (part_from view tree.tree)) (λ x y.
    ap (λ (b : Option Rect). holds (canvas_below b (facts_of tree view) canvas).clip x y) none ∙ nowhere_below (facts_of tree view) canvas x y))

pub best_in_view-returns-in-None : goal.best_in_view-returns-in-None
best_in_view-returns-in-None t c =
    let tree = c.args.tree.now in
    let view = c.args.view in
    let canvas = as_seen c.args.canvas in
    let drawn = drawn_at tree view c.facts.result.now c.is_drawn.result c.facts.ensures.value c.is_drawn.ensures c.if-not-is_drawn.false in
    let own = own_at c.args.search tree view canvas c.state-bounds.result c.part_seen.result c.own_candidate.result c.state-bounds.ensures.value c.part_seen.ensures c.own_candidate.ensures in
    let inner = inner_at tree view canvas c.state-bounds.result c.in-Some.bounds c.facts-2.result.now c.state-bounds.ensures.value c.in-Some.is c.facts-2.ensures.value in
    lesser_alone c.args.best _ _ _ c.lesser-best.result (c.lesser-best.ensures ∙ ap (lesser c.args.best) own)
    (found-drawn c.args.search tree view canvas c.requires.live drawn)
    (found-unseen c.args.search (held_of tree) (canvas_below (state_of tree view).bounds (facts_of tree view) canvas) (children_of_first (part_from view tree.tree)) (λ x y. ap (λ (inner : Canvas). holds inner.clip x y) inner ∙ c.in-None.ensures.below x y))

pub best_in_view-returns-in-Some-children_canvas : goal.best_in_view-returns-in-Some-children_canvas
best_in_view-returns-in-Some-children_canvas t c =
    let tree = c.args.tree.now in
    let view = c.args.view in
    let canvas = as_seen c.args.canvas in
    let drawn = drawn_at tree view c.facts.result.now c.is_drawn.result c.facts.ensures.value c.is_drawn.ensures c.if-not-is_drawn.false in
    let own = own_at c.args.search tree view canvas c.state-bounds.result c.part_seen.result c.own_candidate.result c.state-bounds.ensures.value c.part_seen.ensures c.own_candidate.ensures in
    let inner = inner_at tree view canvas c.state-bounds.result c.in-Some.bounds c.facts-2.result.now c.state-bounds.ensures.value c.in-Some.is c.facts-2.ensures.value in
    lesser_below c.args.best _ _ _ c.lesser-best.result c.best_in_children.result (c.lesser-best.ensures ∙ ap (lesser c.args.best) own)
    (found-drawn c.args.search tree view canvas c.requires.live drawn)
    (c.best_in_children.ensures
    ∙ ap (λ (inner : Canvas). lesser c.lesser-best.result (found c.args.search (held_of tree) inner (children_of_first (part_from view tree.tree)))) (c.in-Some-children_canvas.ensures.below ∙ sym inner))
