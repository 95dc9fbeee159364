use Rattle.load_maker.proofs.MakerLaws.{◌⨾◌}
use Rattle.load_maker.specs.Load.{weight_line}
use Rattle.load_maker.proofs.making.Maker.put_weight.Goals as goal

pub returns : goal.returns
unfolding weight_line
returns c = c.put.ensures ⨾ c.number.ensures ⨾ c.put-2.ensures ⨾ c.number-2.ensures
