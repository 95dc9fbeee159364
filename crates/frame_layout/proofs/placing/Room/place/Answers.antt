use Rattle.std.proofs.Common.{◌≡◌, ℤ, ◌+ℤ◌, ◌-ℤ◌, FitsSigned, w32, refl, arith, rules}
use Rattle.std.proofs.lemmas.Int.{ints, to_z-of_z}
use Rattle.geom_core.specs.declared.geometry.Size.{Size}
use Rattle.view_model.specs.Geometry.{rect_at, size_of_rect}
use Rattle.frame_layout.proofs.placing.Room.place.Goals as goal

size_at : (left top : ℤ) (size : Size) → size_of_rect (rect_at left top size) ≡ size
size_at left top size =
    let w : left +ℤ size.w -ℤ left ≡ size.w = omega (arith, ints) in
    let h : top +ℤ size.h -ℤ top ≡ size.h = omega (arith, ints) in
    rw (w, h) refl

pub returns-clause-extent : goal.returns-clause-extent
returns-clause-extent c =
    let left : FitsSigned w32 c.left_edge.result = search rules in
    let top : FitsSigned w32 c.top_edge.result = search rules in
    let is : c.rect_at.result ≡ rect_at c.left_edge.result c.top_edge.result c.args.size = simp to_z-of_z at c.rect_at.ensures in
    rw is (size_at c.left_edge.result c.top_edge.result c.args.size)
