use Rattle.load_maker.proofs.MakerLaws.{◌⨾◌}
use Rattle.load_maker.specs.Load.{size_line}
use Rattle.load_maker.proofs.making.Maker.put_size.Goals as goal

pub returns : goal.returns
unfolding size_line
returns c = c.put.ensures ⨾ c.number.ensures ⨾ c.put-2.ensures ⨾ c.number-2.ensures ⨾ c.put-3.ensures ⨾ c.number-3.ensures
