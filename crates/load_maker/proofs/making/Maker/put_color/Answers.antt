use Rattle.load_maker.proofs.MakerLaws.{◌⨾◌}
use Rattle.load_maker.specs.Load.{color_line}
use Rattle.load_maker.proofs.making.Maker.put_color.Goals as goal

pub returns : goal.returns
unfolding color_line
returns c = c.put.ensures ⨾ c.number.ensures ⨾ c.put-2.ensures ⨾ c.six_digits.ensures
