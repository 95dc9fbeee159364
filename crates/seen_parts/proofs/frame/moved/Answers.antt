use Rattle.std.proofs.Common.{◌≡◌, ◌≤ℤ◌, ◌+ℤ◌, ◌^◌, ℤ, rules, arith, FitsSigned, w32, w64, of_z, to_z}
use Rattle.std.specs.Prelude.{pos}
use Rattle.std.proofs.lemmas.Int.{ints}
use Rattle.seen_parts.specs.Frames.{IsEdge, IsWithin}
use Rattle.seen_parts.proofs.frame.moved.Goals as goal

edge_is : (edge by at : ℤ) → FitsSigned w32 edge → IsWithin (2 ^ 37) by → at ≡ to_z w32 (of_z w32 edge) +ℤ to_z w64 (of_z w64 by) → to_z w64 (of_z w64 at) ≡ edge +ℤ by
edge_is edge by at fits near is = omega (arith, ints)

moved_edge : (edge by at : ℤ) → FitsSigned w32 edge → IsWithin (2 ^ 37) by → at ≡ edge +ℤ by → IsEdge at
moved_edge edge by at fits near is = record { low = omega (arith, ints); high = omega (arith, ints) }

-- two edges are as far apart as before
moved_apart : (low high by from to : ℤ) → FitsSigned w32 low → FitsSigned w32 high → from ≡ low +ℤ by → to ≡ high +ℤ by → to ≤ℤ (from +ℤ pos 4294967295)
moved_apart low high by from to fits_low fits_high from_is to_is = omega (arith, ints)

pub returns-clause-moved : goal.returns-clause-moved
returns-clause-moved c = record {
  left = edge_is c.args.rect.left c.args.canvas.left _ (search rules) c.requires.across c.shifted.ensures;
  top = edge_is c.args.rect.top c.args.canvas.top _ (search rules) c.requires.down c.shifted-2.ensures;
  right = edge_is c.args.rect.right c.args.canvas.left _ (search rules) c.requires.across c.shifted-3.ensures;
  bottom = edge_is c.args.rect.bottom c.args.canvas.top _ (search rules) c.requires.down c.shifted-4.ensures;
}

pub returns-clause-reach : goal.returns-clause-reach
returns-clause-reach c =
    let l : FitsSigned w32 c.args.rect.left = search rules in
    let t : FitsSigned w32 c.args.rect.top = search rules in
    let r : FitsSigned w32 c.args.rect.right = search rules in
    let b : FitsSigned w32 c.args.rect.bottom = search rules in
    let near = c.requires in
    let is = returns-clause-moved c in
    record {
      left = moved_edge _ _ _ l near.across is.left;
      top = moved_edge _ _ _ t near.down is.top;
      right = moved_edge _ _ _ r near.across is.right;
      bottom = moved_edge _ _ _ b near.down is.bottom;
      across = moved_apart _ _ _ _ _ l r is.left is.right;
      down = moved_apart _ _ _ _ _ t b is.top is.bottom;
    }
