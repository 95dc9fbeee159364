use Rattle.std.proofs.Common.{Some, ◌∙◌, sym, ap}
use Rattle.std.specs.Option.{option_map}
use Rattle.linear_layout.proofs.SizedLaws.{sized_first}
use Rattle.linear_layout.specs.Line.{kid_with, own_in, specs_in}
use Rattle.view_model.specs.Measuring.{pair_of}
use Rattle.linear_layout.proofs.first_pass.FirstPass.ask.Goals as goal

pub returns-then-is_sized : goal.returns-then-is_sized
returns-then-is_sized c = λ kids first.
    ap Some c.own_specs.ensures
    ∙ sym (ap (option_map pair_of) (sized_first (own_in c.args.line.now) (specs_in c.args.line.now) kids (kid_with c.args.kid.now c.args.size) (sym c.is_sized.ensures ∙ c.if-is_sized.true)))
