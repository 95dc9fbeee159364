use Rattle.std.proofs.Common.{◌∙◌, ap, sym, arith}
use Rattle.std.proofs.lemmas.Bool.{lt-ltb}
use Rattle.view_model.specs.Dimensions.{weight_in_bounds, weight_near}
use Rattle.view_model.proofs.WeightLaws.{zero_in_bounds, weight_high, weight_low}
use Rattle.view_model.proofs.dimensions.weight_of_parts.Goals as goal

pub returns-then-exponent-gt142 : goal.returns-then-exponent-gt142
returns-then-exponent-gt142 c =
    let high = weight_high c.args.fraction c.args.exponent (let t = c.if-exponent-gt142.true in omega arith) in
    rw (lt-ltb 16776960 (weight_near c.args.fraction c.args.exponent) high)

pub returns-then-exponent-lt110 : goal.returns-then-exponent-lt110
returns-then-exponent-lt110 c =
    sym (zero_in_bounds c.args.negative) ∙ ap (weight_in_bounds c.args.negative) (sym (weight_low c.args.fraction c.args.exponent (let r = c.requires in omega arith) (let t = c.if-exponent-lt110.true in omega arith)))
