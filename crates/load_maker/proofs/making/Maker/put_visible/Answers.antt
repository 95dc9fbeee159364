use Rattle.load_maker.proofs.MakerLaws.{◌⨾◌}
use Rattle.load_maker.specs.Load.{visible_line}
use Rattle.load_maker.proofs.making.Maker.put_visible.Goals as goal

pub returns : goal.returns
unfolding visible_line
returns c = rw (← c.as_bytes.ensures.value) (c.put.ensures ⨾ c.number.ensures ⨾ c.put-2.ensures ⨾ c.put-3.ensures)
