use Rattle.load_maker.proofs.MakerLaws.{◌⨾◌}
use Rattle.load_maker.specs.Load.{margins_line}
use Rattle.load_maker.proofs.making.Maker.put_margins.Goals as goal

pub returns : goal.returns
unfolding margins_line
returns c = c.put.ensures ⨾ c.number.ensures ⨾ c.put-2.ensures ⨾ c.number-2.ensures ⨾ c.put-3.ensures ⨾ c.number-3.ensures ⨾ c.put-4.ensures ⨾ c.number-4.ensures ⨾ c.put-5.ensures ⨾ c.number-5.ensures
