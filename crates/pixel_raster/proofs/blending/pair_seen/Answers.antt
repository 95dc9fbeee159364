use Rattle.std.proofs.Common.{arith}
use Rattle.pixel_raster.proofs.MixLaws.{blue-bound, lower, pair-seen, red-bound, seen-bound, upper}
use Rattle.pixel_raster.proofs.blending.pair_seen.Goals as goal

pub pair_parts-requires-clause-upper : goal.pair_parts-requires-clause-upper
pair_parts-requires-clause-upper c =
    let is = upper c.args.alpha c.args.over c.args.under c.ranges.alpha.fits c.pair_shares.result c.pair_shares.ensures in
    let bound = red-bound c.args.alpha c.args.over c.args.under c.ranges.alpha.fits in
    omega (arith, is, bound)

pub pair_parts-requires-clause-lower : goal.pair_parts-requires-clause-lower
pair_parts-requires-clause-lower c =
    let is = lower c.args.alpha c.args.over c.args.under c.ranges.alpha.fits c.pair_shares.result c.pair_shares.ensures in
    let bound = blue-bound c.args.alpha c.args.over c.args.under c.ranges.alpha.fits in
    omega (arith, is, bound)

pub returns-clause-value : goal.returns-clause-value
returns-clause-value c = pair-seen c.args.alpha c.args.over c.args.under c.ranges.alpha.fits c.pair_shares.result c.pair_parts.result c.pair_shares.ensures c.pair_parts.ensures

pub returns-clause-bound : goal.returns-clause-bound
returns-clause-bound c = seen-bound c.args.alpha c.args.over c.args.under c.ranges.alpha.fits c.pair_parts.result (returns-clause-value c)
