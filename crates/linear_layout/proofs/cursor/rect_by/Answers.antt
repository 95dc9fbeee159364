use Rattle.std.proofs.Common.{◌≡◌, FitsSigned, w32}
use Rattle.std.proofs.lemmas.Int.{to_z-of_z}
use Rattle.linear_layout.proofs.PlacingLaws.{size_of_rect-rect_at}
use Rattle.view_model.specs.Geometry.{rect_at}
use Rattle.linear_layout.proofs.cursor.rect_by.Goals as goal

pub returns-then-vertical-clause-extent : goal.returns-then-vertical-clause-extent
returns-then-vertical-clause-extent c =
    let along : FitsSigned w32 c.args.along = c.ranges.along in
    let beside : FitsSigned w32 c.args.beside = c.ranges.beside in
    let is : c.rect_at.result ≡ rect_at c.args.beside c.args.along c.args.size = simp to_z-of_z at c.rect_at.ensures in
    rw is (size_of_rect-rect_at c.args.beside c.args.along c.args.size)

pub returns-clause-extent : goal.returns-clause-extent
returns-clause-extent c =
    let along : FitsSigned w32 c.args.along = c.ranges.along in
    let beside : FitsSigned w32 c.args.beside = c.ranges.beside in
    let is : c.rect_at-2.result ≡ rect_at c.args.along c.args.beside c.args.size = simp to_z-of_z at c.rect_at-2.ensures in
    rw is (size_of_rect-rect_at c.args.along c.args.beside c.args.size)
