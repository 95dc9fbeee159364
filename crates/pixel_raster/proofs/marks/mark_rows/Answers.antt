use Rattle.std.proofs.Common.{◌≡◌, ◌≤◌, ◌*◌, suc, arith, mul-le-mul_right}
use Rattle.pixel_raster.specs.Marks.{mark_of}
use Rattle.pixel_raster.proofs.WritingLaws.{pixel_at-next_mark}
use Rattle.pixel_raster.proofs.marks.mark_rows.Goals as goal

pub loop-y-preserved : goal.loop-y-preserved
unfolding mark_of
loop-y-preserved c =
    let rows : suc c.loop-y.y * c.args.width ≤ c.args.bottom * c.args.width = mul-le-mul_right c.args.width c.loop-y-test.true in
    λ x y column.
    pixel_at-next_mark (mark_of c.args.color) c.args.pixels.now c.loop-y.pixels c.args.width c.args.top c.loop-y.y x y
    c.requires.across (omega arith) (omega arith) column (c.loop-y.invariant x y column)

pub returns : goal.returns
returns c = record { marks = λ x y column. let is : c.loop-y.y ≡ c.args.bottom = omega arith in rw is at (c.loop-y.invariant x y column) }
