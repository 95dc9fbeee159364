-- Counts that rise one after the other.
use Rattle.std.proofs.Common.{◌≡◌, ◌+◌, ◌∙◌, arith, refl}
use Rattle.view_model.specs.declared.work.Work.{Work}
use Rattle.view_tree.specs.Views.{Views}
use Rattle.traversal.specs.Counting.{IsMeasuringCounted}

pub counted_then : {a b c : Views} {x y z : Work} → IsMeasuringCounted a b x y → IsMeasuringCounted b c y z → IsMeasuringCounted a c x z
counted_then f g =
    let p = f.work in
    let q = g.work in
    let r = f.tree in
    let s = g.tree in
    record { by = f.by + g.by; work = omega arith; tree = omega arith; painted = g.painted ∙ f.painted }

pub counted_still : (a b : Views) (x : Work) → b.counts.measures ≡ a.counts.measures → IsMeasuringCounted a b x x
counted_still a b x same = record { by = 0; work = omega arith; tree = omega arith; painted = refl }
