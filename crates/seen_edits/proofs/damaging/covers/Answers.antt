use Rattle.std.proofs.Common.{arith}
use Rattle.std.proofs.lemmas.Int.{ints}
use Rattle.damage_rect.proofs.RectLaws.{between, is_between}
use Rattle.view_model.specs.Visible.{whole_window}
use Rattle.seen_edits.proofs.damaging.covers.Goals as goal

pub returns : goal.returns
returns c = λ yes x y h.
    let inside = between (whole_window c.args.window).clip x y h in
    let left = inside.left in
    let top = inside.top in
    let right = inside.right in
    let bottom = inside.bottom in
    is_between c.args.rect x y (record {
      left = omega (arith, ints, left, c.if-rect-gt0.false);
      top = omega (arith, ints, top, c.if-rect-gt0-2.false);
      right = omega (arith, ints, right, c.if-rect-window.false);
      bottom = omega (arith, ints, bottom, yes);
    })
