use Rattle.load_maker.proofs.MakerLaws.{◌⨾◌}
use Rattle.load_maker.specs.Load.{text_line}
use Rattle.load_maker.proofs.making.Maker.put_text.Goals as goal

pub returns : goal.returns
unfolding text_line
returns c = c.put.ensures ⨾ c.number.ensures ⨾ c.put-2.ensures ⨾ c.number-2.ensures
