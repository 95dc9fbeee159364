use Rattle.std.proofs.Common.{suc, ◌≡◌, ◌≤◌, ◌*◌, arith, mul-le-mul_right}
use Rattle.geom_core.specs.Color.{blend_of}
use Rattle.pixel_raster.proofs.RowLaws.{pixel_at-next_row}
use Rattle.pixel_raster.proofs.rows.fill_rows.Goals as goal

pub loop-y-preserved : goal.loop-y-preserved
loop-y-preserved c =
    let rows : suc c.loop-y.y * c.args.width ≤ c.args.cut.bottom * c.args.width = mul-le-mul_right c.args.width c.loop-y-test.true in
    rw c.fill_run.ensures (λ x y column.
    pixel_at-next_row (blend_of c.args.color) c.args.pixels.now c.loop-y.pixels c.args.width c.args.cut.left c.args.cut.right c.args.cut.top c.loop-y.y x y
    c.requires.across c.requires.inside (omega arith) (omega arith) column (c.loop-y.invariant x y column))

pub returns : goal.returns
returns c = record { colors = λ x y column. let is : c.loop-y.y ≡ c.args.cut.bottom = omega arith in rw is at (c.loop-y.invariant x y column) }
