use Rattle.std.proofs.Common.{◌≡◌, true, sym, refl, arith}
use Rattle.pixel_raster.specs.Cuts.{is_between}
use Rattle.pixel_raster.proofs.MarkLaws.{seen_of-unmarked, unmarked-written}
use Rattle.pixel_raster.proofs.TestLaws.{between_from, between_to, chosen}
use Rattle.pixel_raster.proofs.marks.write_range.Goals as goal

pub returns-then-range-written-clause-seen : goal.returns-then-range-written-clause-seen
returns-then-range-written-clause-seen c =
    let range = c.args.range in
    let written = c.args.written in
    λ x y column.
    chosen (is_between range.top range.bottom y) _ _ _
    (λ is.
    let between = between_from range.top range.bottom y is in
    sym (seen_of-unmarked _ _ (c.requires.unmarked y (between_to written.top written.bottom y (omega arith) (omega arith)))))
    (λ is. refl)

pub returns-clause-unmarked : goal.returns-clause-unmarked
returns-clause-unmarked c = λ y is.
    let range = c.args.range in
    let seen : is_between range.top range.bottom y ≡ true = is in
    rw (c.write_rows.ensures.seen 0 y (omega arith), seen) (unmarked-written _)
