use Rattle.std.proofs.Common.{◌≡◌, rules, ap, ◌∙◌}
use Rattle.std.proofs.lemmas.Int.{to_z-of_z}
use Rattle.std.specs.Prelude.{◌+ℤ◌, ◌-ℤ◌}
use mir.Syntax.{w32}
use mir.Val.{SFits, of_z, to_z}
use Rattle.touch_dispatch.proofs.scrolls.WideLaws.{minus, minus_plus, minus_plus-fits, wide}
use Rattle.geom_core.specs.Limits.{clamp_coordinate}
use Rattle.touch_event.specs.declared.event.Point.{Point}
use Rattle.touch_dispatch.specs.reaching.Points.{corner_x, corner_y, local_point}
use Rattle.touch_dispatch.proofs.reaching.points.local_point.Goals as goal

pub overflow_add-y : goal.overflow_add-y
overflow_add-y c =
    let fy : SFits w32 c.args.point.y = search rules in
    let fo = c.ranges.offset in
    let fcy : SFits w32 c.corner_y.result = search rules in
    minus_plus-fits c.args.point.y c.corner_y.result c.args.offset _ _ fy fcy fo
    (minus c.args.point.y c.corner_y.result _ _ fy fcy (wide c.args.point.y c.from-3.result fy c.from-3.ensures) (wide c.corner_y.result c.from-4.result fcy c.from-4.ensures))
    (wide c.args.offset c.from-5.result fo c.from-5.ensures)

pub returns : goal.returns
unfolding local_point
returns c =
    let fx : SFits w32 c.args.point.x = search rules in
    let fy : SFits w32 c.args.point.y = search rules in
    let fo = c.ranges.offset in
    let fcx : SFits w32 c.corner_x.result = search rules in
    let fcy : SFits w32 c.corner_y.result = search rules in
    let frx : SFits w32 c.to_coordinate.result = search rules in
    let fry : SFits w32 c.to_coordinate-2.result = search rules in
    let x : to_z w32 (of_z w32 c.to_coordinate.result) ≡ clamp_coordinate (c.args.point.x -ℤ corner_x c.args.rect) =
    to_z-of_z w32 c.to_coordinate.result frx ∙ c.to_coordinate.ensures.value
    ∙ ap clamp_coordinate (minus c.args.point.x c.corner_x.result _ _ fx fcx (wide c.args.point.x c.from.result fx c.from.ensures) (wide c.corner_x.result c.from-2.result fcx c.from-2.ensures)
    ∙ ap (λ k. c.args.point.x -ℤ k) c.corner_x.ensures) in
    let y : to_z w32 (of_z w32 c.to_coordinate-2.result) ≡ clamp_coordinate (c.args.point.y -ℤ corner_y c.args.rect +ℤ c.args.offset) =
    to_z-of_z w32 c.to_coordinate-2.result fry ∙ c.to_coordinate-2.ensures.value
    ∙ ap clamp_coordinate (minus_plus c.args.point.y c.corner_y.result c.args.offset _ _ fy fcy fo
    (minus c.args.point.y c.corner_y.result _ _ fy fcy (wide c.args.point.y c.from-3.result fy c.from-3.ensures) (wide c.corner_y.result c.from-4.result fcy c.from-4.ensures))
    (wide c.args.offset c.from-5.result fo c.from-5.ensures)
    ∙ ap (λ k. c.args.point.y -ℤ k +ℤ c.args.offset) c.corner_y.ensures) in
    ap (λ a. let p : Point = record { id = c.args.point.id; x = a; y = to_z w32 (of_z w32 c.to_coordinate-2.result) } in p) x
    ∙ ap (λ b. let p : Point = record { id = c.args.point.id; x = clamp_coordinate (c.args.point.x -ℤ corner_x c.args.rect); y = b } in p) y
