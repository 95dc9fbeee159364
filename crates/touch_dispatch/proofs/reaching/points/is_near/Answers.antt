use Rattle.std.proofs.Common.{refl, rules, ◌∙◌}
use Rattle.std.specs.Prelude.{pos, ◌+ℤ◌, ◌-ℤ◌}
use mir.Syntax.{w32}
use mir.Val.{SFits}
use Rattle.touch_dispatch.proofs.scrolls.WideLaws.{between_is, minus, minus_plus, wide}
use Rattle.touch_dispatch.proofs.reaching.points.is_near.Goals as goal

pub returns : goal.returns
returns c =
    let fl = c.ranges.low in
    let fh = c.ranges.high in
    let fs = c.ranges.slop in
    let fx = c.ranges.x in
    let zero : SFits w32 (pos 0) = search rules in
    let s = wide c.args.slop c.from-slop.result fs c.from-slop.ensures in
    let h = wide c.args.high c.from.result fh c.from.ensures in
    let l = wide c.args.low c.from-2.result fl c.from-2.ensures in
    c.is_between.ensures
    ∙ between_is _ _ _ (pos 0 -ℤ c.args.slop) c.args.x (c.args.high -ℤ c.args.low +ℤ c.args.slop)
    (minus (pos 0) c.args.slop (pos 0) _ zero fs refl s) (wide c.args.x c.into.result fx c.into.ensures)
    (minus_plus c.args.high c.args.low c.args.slop _ _ fh fl fs (minus c.args.high c.args.low _ _ fh fl h l) s)
