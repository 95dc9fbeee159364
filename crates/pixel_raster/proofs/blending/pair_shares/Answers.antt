use Rattle.std.proofs.Common.{◌-◌, arith}
use Rattle.geom_core.specs.Color.{blue_of, red_of}
use Rattle.pixel_raster.proofs.MixLaws.{blue-bound, pair-fits, pair_of-shares, red-bound}
use Rattle.geom_core.proofs.ColorLaws.{channels}
use Rattle.pixel_raster.proofs.blending.pair_shares.Goals as goal

pub returns : goal.returns
returns c = rw (c.pair_of.ensures, c.pair_of-2.ensures, c.from-alpha.ensures)
    (pair_of-shares c.args.alpha (red_of c.args.over) (blue_of c.args.over) (red_of c.args.under) (blue_of c.args.under))

pub overflow_mul-result : goal.overflow_mul-result
overflow_mul-result c =
    let under = channels c.args.under in
    let fits = pair-fits c.pair_of.result (255 - c.from-alpha.result) (omega (arith, c.pair_of.ensures, under.red, under.blue)) (omega arith) in
    record { fits = omega (arith, fits) }

pub overflow_mul-result-2 : goal.overflow_mul-result-2
overflow_mul-result-2 c =
    let over = channels c.args.over in
    let fits = pair-fits c.pair_of-2.result c.from-alpha.result (omega (arith, c.pair_of-2.ensures, over.red, over.blue)) (omega (arith, c.from-alpha.ensures, c.ranges.alpha.fits)) in
    record { fits = omega (arith, fits) }

pub overflow_add-result : goal.overflow_add-result
overflow_add-result c =
    let over = channels c.args.over in
    let fits = pair-fits c.pair_of-2.result c.from-alpha.result (omega (arith, c.pair_of-2.ensures, over.red, over.blue)) (omega (arith, c.from-alpha.ensures, c.ranges.alpha.fits)) in
    record { fits = omega (arith, fits) }

pub overflow_add-result-2 : goal.overflow_add-result-2
overflow_add-result-2 c =
    let whole = pair_of-shares c.args.alpha (red_of c.args.over) (blue_of c.args.over) (red_of c.args.under) (blue_of c.args.under) in
    let red = red-bound c.args.alpha c.args.over c.args.under c.ranges.alpha.fits in
    let blue = blue-bound c.args.alpha c.args.over c.args.under c.ranges.alpha.fits in
    rw (c.pair_of.ensures, c.pair_of-2.ensures, c.from-alpha.ensures) (record { fits = omega arith })
