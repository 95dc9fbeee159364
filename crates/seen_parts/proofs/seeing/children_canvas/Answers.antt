use Rattle.std.proofs.Common.{◌+ℤ◌, sym, ap, ◌∙◌}
use Rattle.geom_core.specs.Rects.{holds}
use Rattle.geom_core.specs.declared.geometry.Rect.{Rect}
use Rattle.seen_parts.proofs.SeeingLaws.{closed_below, inner_of, moved_of, none_is_meet, open_below, part_is_meet, unseen_below, unseen_closed}
use Rattle.seen_parts.specs.Meeting.{as_seen}
use Rattle.view_model.specs.Geometry.{size_of_rect}
use Rattle.view_model.specs.Painting.{inner_rect}
use Rattle.view_model.specs.Visible.{moved_rect}
use Rattle.damage_rect.proofs.RectLaws.{holds_none}
use Rattle.seen_parts.proofs.seeing.children_canvas.Goals as goal

pub returns-in_default-clause-below : goal.returns-in_default-clause-below
returns-in_default-clause-below c = λ x y.
    unseen_below c.args.facts.now c.args.bounds (as_seen c.args.canvas) x y
    (ap (λ (rect : Rect). holds rect x y) (sym (none_is_meet (moved_rect c.args.bounds c.args.canvas.left c.args.canvas.top) c.args.canvas.clip c.moved-frame.result
    (moved_of c.args.bounds c.args.canvas c.moved-frame.result c.moved-frame.ensures.moved) c.in_default.ensures.points)) ∙ holds_none x y)

pub returns-then-not-facts-clause-below : goal.returns-then-not-facts-clause-below
returns-then-not-facts-clause-below c =
    open_below c.args.facts.now c.args.bounds c.args.canvas c.canvas_under.result c.moved-frame.result c.in-Some.part c.if-not-facts.true c.moved-frame.ensures.moved
    c.canvas_under.ensures.below c.canvas_under.ensures.clip
    (part_is_meet (moved_rect c.args.bounds c.args.canvas.left c.args.canvas.top) c.args.canvas.clip c.moved-frame.result c.in-Some.part (moved_of c.args.bounds c.args.canvas c.moved-frame.result c.moved-frame.ensures.moved) c.in-Some.ensures.edges)

pub returns-in-Some-part_in-clause-below : goal.returns-in-Some-part_in-clause-below
returns-in-Some-part_in-clause-below c =
    let of = inner_of c.args.facts.now c.args.bounds c.args.canvas c.moved-frame.result c.inner_frame.result c.moved-frame.ensures.moved c.inner_frame.ensures in
    closed_below c.args.facts.now c.args.bounds c.args.canvas c.canvas_under-in-Some-part_in.result c.moved-frame.result c.in-Some.part c.in-Some-part_in.inner
    c.if-not-facts.false c.moved-frame.ensures.moved c.canvas_under-in-Some-part_in.ensures.below c.canvas_under-in-Some-part_in.ensures.clip
    (part_is_meet (moved_rect c.args.bounds c.args.canvas.left c.args.canvas.top) c.args.canvas.clip c.moved-frame.result c.in-Some.part (moved_of c.args.bounds c.args.canvas c.moved-frame.result c.moved-frame.ensures.moved) c.in-Some.ensures.edges)
    (part_is_meet (moved_rect (inner_rect c.args.facts.now (size_of_rect c.args.bounds)) (c.args.bounds.left +ℤ c.args.canvas.left) (c.args.bounds.top +ℤ c.args.canvas.top)) c.in-Some.part c.inner_frame.result c.in-Some-part_in.inner of c.in-Some-part_in.ensures.edges)

pub returns-in-None-clause-below : goal.returns-in-None-clause-below
returns-in-None-clause-below c = λ x y.
    let of = inner_of c.args.facts.now c.args.bounds c.args.canvas c.moved-frame.result c.inner_frame.result c.moved-frame.ensures.moved c.inner_frame.ensures in
    unseen_closed c.args.facts.now c.args.bounds (as_seen c.args.canvas) c.in-Some.part x y c.if-not-facts.false
    (part_is_meet (moved_rect c.args.bounds c.args.canvas.left c.args.canvas.top) c.args.canvas.clip c.moved-frame.result c.in-Some.part (moved_of c.args.bounds c.args.canvas c.moved-frame.result c.moved-frame.ensures.moved) c.in-Some.ensures.edges)
    (ap (λ (rect : Rect). holds rect x y) (sym (none_is_meet (moved_rect (inner_rect c.args.facts.now (size_of_rect c.args.bounds)) (c.args.bounds.left +ℤ c.args.canvas.left) (c.args.bounds.top +ℤ c.args.canvas.top)) c.in-Some.part c.inner_frame.result of c.in-None.ensures.points)) ∙ holds_none x y)
