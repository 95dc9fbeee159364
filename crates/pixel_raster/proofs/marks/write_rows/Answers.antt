use Rattle.std.proofs.Common.{◌≡◌, ◌≤◌, ◌*◌, suc, arith, mul-le-mul_right}
use Rattle.pixel_raster.proofs.WritingLaws.{pixel_at-next_written}
use Rattle.pixel_raster.proofs.marks.write_rows.Goals as goal

pub loop-y-preserved : goal.loop-y-preserved
loop-y-preserved c =
    let rows : suc c.loop-y.y * c.args.width ≤ c.args.bottom * c.args.width = mul-le-mul_right c.args.width c.loop-y-test.true in
    rw c.write_row.ensures (pixel_at-next_written c.args.pixels.now c.loop-y.pixels c.args.width c.args.top c.loop-y.y (omega arith) (omega arith) c.loop-y.invariant)

pub returns : goal.returns
returns c = record { seen = λ x y column. let is : c.loop-y.y ≡ c.args.bottom = omega arith in rw is at (c.loop-y.invariant x y column) }
