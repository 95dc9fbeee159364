use Rattle.std.proofs.Common.{◌≡◌, rules, ap, ◌∙◌}
use Rattle.std.specs.Prelude.{◌+ℤ◌, ◌&&◌}
use mir.Syntax.{w32}
use mir.Val.{SFits}
use Rattle.touch_dispatch.proofs.scrolls.WideLaws.{between_is, plus, wide}
use Rattle.touch_dispatch.specs.reaching.Points.{is_between, is_inside}
use Rattle.touch_dispatch.proofs.reaching.points.is_inside.Goals as goal

pub returns : goal.returns
unfolding is_inside
returns c =
    let fl : SFits w32 c.args.rect.left = search rules in
    let ft : SFits w32 c.args.rect.top = search rules in
    let fr : SFits w32 c.args.rect.right = search rules in
    let fb : SFits w32 c.args.rect.bottom = search rules in
    let fx : SFits w32 c.args.point.x = search rules in
    let fy : SFits w32 c.args.point.y = search rules in
    let fo = c.ranges.offset in
    let across : c.is_between-across.result ≡ is_between c.args.rect.left c.args.point.x c.args.rect.right =
    c.is_between-across.ensures
    ∙ between_is _ _ _ c.args.rect.left c.args.point.x c.args.rect.right (wide c.args.rect.left c.into.result fl c.into.ensures)
    (wide c.args.point.x c.into-2.result fx c.into-2.ensures) (wide c.args.rect.right c.into-3.result fr c.into-3.ensures) in
    let down : c.is_between-down.result ≡ is_between c.args.rect.top (c.args.point.y +ℤ c.args.offset) c.args.rect.bottom =
    c.is_between-down.ensures
    ∙ between_is _ _ _ c.args.rect.top (c.args.point.y +ℤ c.args.offset) c.args.rect.bottom (wide c.args.rect.top c.into-4.result ft c.into-4.ensures)
    (plus c.args.point.y c.args.offset _ _ fy fo (wide c.args.point.y c.from.result fy c.from.ensures) (wide c.args.offset c.from-2.result fo c.from-2.ensures))
    (wide c.args.rect.bottom c.into-5.result fb c.into-5.ensures) in
    c.both.ensures ∙ ap (λ a. a && c.is_between-down.result) across ∙ ap (λ b. is_between c.args.rect.left c.args.point.x c.args.rect.right && b) down
