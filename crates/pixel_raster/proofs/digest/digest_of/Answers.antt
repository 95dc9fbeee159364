use Rattle.std.proofs.Common.{◌≡◌, ◌≤◌, ◌+◌, ◌*◌, length, sym, arith, take, take_all, mul_comm}
use Rattle.pixel_raster.specs.Bytes.{bytes_of, rgb_of}
use Rattle.pixel_raster.specs.Marks.{seen_pixels}
use Rattle.pixel_raster.proofs.MarkLaws.{length-seen_pixels}
use Rattle.pixel_raster.proofs.PieceLaws.{flat_map-next_piece}
use Rattle.pixel_raster.proofs.SeenLaws.{seen_pixels-row}
use Rattle.pixel_raster.proofs.digest.digest_of.Goals as goal

pub loop-y-preserved : goal.loop-y-preserved
loop-y-preserved c =
    let y = c.loop-y.y in
    let width = c.args.width in
    let seen = seen_pixels width c.args.pixels.now in
    let absorbed = c.absorb_row.ensures (bytes_of (take (y * width) seen)) c.loop-y.invariant in
    rw (
      sym (seen_pixels-row width c.args.height y c.args.pixels.now c.requires c.loop-y-test.true),
      flat_map-next_piece rgb_of seen (y * width) ((y + 1) * width) (omega arith),
    ) at absorbed

pub returns : goal.returns
returns c =
    let seen = seen_pixels c.args.width c.args.pixels.now in
    let long = length-seen_pixels c.args.width c.args.pixels.now in
    let rows : c.loop-y.y ≡ c.args.height = omega arith in
    let many : length seen ≤ c.args.height * c.args.width = omega (arith, long, c.requires, mul_comm c.args.width c.args.height) in
    c.finalize.ensures (bytes_of seen) (rw (rows, take_all (c.args.height * c.args.width) seen many) at c.loop-y.invariant)
