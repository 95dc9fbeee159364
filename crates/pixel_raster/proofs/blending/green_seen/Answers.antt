use Rattle.std.proofs.Common.{◌≡◌, ◌+◌, ◌-◌, ◌*◌, ℕ, ap, ◌∙◌, arith}
use Rattle.geom_core.specs.Color.{green_of}
use Rattle.pixel_raster.specs.Shares.{part_of, share_of}
use Rattle.pixel_raster.proofs.MixLaws.{part_of-share}
use Rattle.geom_core.proofs.ColorLaws.{channels}
use Rattle.pixel_raster.proofs.blending.green_seen.Goals as goal

pub returns-clause-value : goal.returns-clause-value
returns-clause-value c =
    let over = green_of c.args.over in
    let under = green_of c.args.under in
    let share : under * (255 - c.args.alpha) + (over * c.args.alpha + 128) ≡ share_of c.args.alpha over under = omega arith in
    rw (c.from.ensures, c.from-2.ensures, c.from-alpha.ensures, c.green.ensures, c.green-2.ensures)
    (ap (λ (n : ℕ). part_of n * 256) share
    ∙ ap (λ (n : ℕ). n * 256) (part_of-share c.args.alpha over under c.ranges.alpha.fits (channels c.args.over).green (channels c.args.under).green))
