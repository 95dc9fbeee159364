use Rattle.std.proofs.Common.{rules, ◌<◌, Fits, w32, arith}
use Rattle.std.proofs.lemmas.Bool.{and_parts}
use Rattle.geom_core.specs.Color.{blend_of}
use Rattle.geom_core.proofs.ColorLaws.{alpha_of-blend_of}
use Rattle.pixel_raster.specs.Cuts.{is_between}
use Rattle.pixel_raster.specs.Strips.{is_set}
use Rattle.pixel_raster.proofs.MarkLaws.{seen_of-written_then, unmarked-changed}
use Rattle.pixel_raster.proofs.strip.ink_strip.Goals as goal

pub returns-clause-colors : goal.returns-clause-colors
returns-clause-colors c =
    let strip = c.args.strip in
    let ink = c.args.ink in
    let fits : Fits w32 ink.color.0 = search rules in
    λ x y column.
    let some : 0 < c.args.width = omega arith in
    seen_of-written_then (blend_of ink.color) (is_between strip.top strip.bottom y) (is_set strip ink.bits x y) (is_set strip ink.bits 0 y) _ _ _ _ _ _
    (λ under. alpha_of-blend_of ink.color under fits.fits) (λ is. (and_parts _ _ (and_parts _ _ is).1).0) (λ is. (and_parts _ _ (and_parts _ _ is).1).0)
    (c.write_range.ensures.seen 0 y some) (c.write_range.ensures.seen x y column)
    (c.ink_written.ensures.colors 0 y some) (c.ink_written.ensures.colors x y column)

pub returns-clause-unmarked : goal.returns-clause-unmarked
returns-clause-unmarked c =
    let ink = c.args.ink in
    let fits : Fits w32 ink.color.0 = search rules in
    λ y is.
    unmarked-changed (blend_of ink.color) (is_set c.args.strip ink.bits 0 y) _ _ (λ under. alpha_of-blend_of ink.color under fits.fits)
    (c.ink_written.ensures.colors 0 y (omega arith)) (c.write_range.ensures.unmarked y is)
