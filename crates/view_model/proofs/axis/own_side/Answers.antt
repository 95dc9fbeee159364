use Rattle.std.proofs.Common.{◌+ℤ◌, w32, FitsSigned, arith, rules}
use Rattle.std.proofs.lemmas.Int.{to_z-of_z}
use Rattle.view_model.proofs.SaturationLaws.{resolve_saturated}
use Rattle.view_model.proofs.axis.own_side.Goals as goal

pub returns-clause-value : goal.returns-clause-value
returns-clause-value c =
    let fits : FitsSigned w32 c.args.spec.size = search rules in
    let e = resolve_saturated c.args.spec.mode c.args.min (c.args.most +ℤ c.args.padding) c.args.spec.size c.ranges.min fits in
    grind (arith, to_z-of_z, e)
