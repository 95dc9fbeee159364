use Rattle.std.proofs.Common.{◌≡◌, arith, rules}
use Rattle.std.proofs.lemmas.Int.{ints}
use Rattle.std.specs.Prelude.{◌≤ℤ◌, ◌-ℤ◌}
use Rattle.damage_rect.proofs.RectLaws.{between, is_between}
use Rattle.seen_parts.proofs.OriginLaws.{gap_is, high_edge, low_edge}
use Rattle.view_model.specs.Visible.{moved_rect}
use Rattle.seen_parts.proofs.origins.is_placed_within.Goals as goal

pub returns : goal.returns
returns c = λ yes x y h.
    let start = c.args.origin in
    let bounds = c.args.bounds in
    let rect = c.args.rect in
    let inside = between (moved_rect bounds start.left start.top) x y h in
    let left : c.gap.result ≤ℤ start.left = omega (arith, ints, c.if-origin-gap.false) in
    let top : c.gap-2.result ≤ℤ start.top = omega (arith, ints, c.if-origin-gap-2.false) in
    let right : start.left ≤ℤ c.gap-3.result = omega (arith, ints, c.if-gap-origin.false) in
    let bottom : start.top ≤ℤ c.gap-4.result = omega (arith, ints, yes) in
    let one : c.gap.result ≡ rect.left -ℤ bounds.left = gap_is rect.left bounds.left c.gap.result (search rules) (search rules) c.gap.ensures in
    let two : c.gap-2.result ≡ rect.top -ℤ bounds.top = gap_is rect.top bounds.top c.gap-2.result (search rules) (search rules) c.gap-2.ensures in
    let three : c.gap-3.result ≡ rect.right -ℤ bounds.right = gap_is rect.right bounds.right c.gap-3.result (search rules) (search rules) c.gap-3.ensures in
    let four : c.gap-4.result ≡ rect.bottom -ℤ bounds.bottom = gap_is rect.bottom bounds.bottom c.gap-4.result (search rules) (search rules) c.gap-4.ensures in
    is_between rect x y (record {
      left = low_edge rect.left bounds.left start.left c.gap.result x one left inside.left;
      top = low_edge rect.top bounds.top start.top c.gap-2.result y two top inside.top;
      right = high_edge rect.right bounds.right start.left c.gap-3.result x three right inside.right;
      bottom = high_edge rect.bottom bounds.bottom start.top c.gap-4.result y four bottom inside.bottom;
    })
