use Rattle.std.proofs.Common.{◌≡◌, rules, arith}
use Rattle.std.proofs.lemmas.Int.{ints}
use Rattle.seen_parts.proofs.PartLaws.{Edges, none_across, none_down, part_edges, part_inside, part_rect}
use Rattle.seen_parts.proofs.frame.part_in.Goals as goal
use Rattle.seen_parts.proofs.frame.part_in.Goals.{After-earlier-bottom, After-rect_of}

edges : (c : After-earlier-bottom) → Edges c.args.clip c.args.frame c.later-left.result c.later-top.result c.earlier-right.result c.earlier-bottom.result
edges c = record { left = search rules; top = search rules; right = search rules; bottom = search rules }

rect : (c : After-rect_of) → c.rect_of.result ≡ record { left = c.later-left.result; top = c.later-top.result; right = c.earlier-right.result; bottom = c.earlier-bottom.result }
rect c = search rules

pub returns-then-left-right-clause-points : goal.returns-then-left-right-clause-points
returns-then-left-right-clause-points c =
    none_across c.args.clip c.args.frame c.later-left.result c.later-top.result c.earlier-right.result c.earlier-bottom.result
    (edges (goal.at.returns-then-left-right-clause-points c).After-earlier-bottom) (omega (arith, ints))

pub returns-then-top-bottom-clause-points : goal.returns-then-top-bottom-clause-points
returns-then-top-bottom-clause-points c =
    none_down c.args.clip c.args.frame c.later-left.result c.later-top.result c.earlier-right.result c.earlier-bottom.result
    (edges (goal.at.returns-then-top-bottom-clause-points c).After-earlier-bottom) (omega (arith, ints))

pub returns-clause-points : goal.returns-clause-points
returns-clause-points c =
    let at = goal.at.returns-clause-points c in
    part_rect c.args.clip c.args.frame c.later-left.result c.later-top.result c.earlier-right.result c.earlier-bottom.result c.rect_of.result
    (edges at.After-earlier-bottom) (rect at.After-rect_of)

pub returns-clause-seen : goal.returns-clause-seen
returns-clause-seen c = record { left = omega (arith, ints); right = omega (arith, ints); top = omega (arith, ints); bottom = omega (arith, ints) }

pub returns-clause-inside : goal.returns-clause-inside
returns-clause-inside c =
    let at = goal.at.returns-clause-inside c in
    part_inside c.args.clip c.args.frame c.later-left.result c.later-top.result c.earlier-right.result c.earlier-bottom.result c.rect_of.result
    (edges at.After-earlier-bottom) (rect at.After-rect_of)

pub returns-clause-edges : goal.returns-clause-edges
returns-clause-edges c =
    let at = goal.at.returns-clause-edges c in
    part_edges c.args.clip c.args.frame c.later-left.result c.later-top.result c.earlier-right.result c.earlier-bottom.result c.rect_of.result
    (edges at.After-earlier-bottom) (rect at.After-rect_of) (omega (arith, ints)) (omega (arith, ints))
