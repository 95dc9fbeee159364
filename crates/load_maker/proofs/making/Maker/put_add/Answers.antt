use Rattle.load_maker.proofs.MakerLaws.{◌⨾◌}
use Rattle.load_maker.specs.Load.{add_line}
use Rattle.load_maker.proofs.making.Maker.put_add.Goals as goal

pub returns : goal.returns
unfolding add_line
returns c = rw (← c.as_bytes.ensures.value) (c.put.ensures ⨾ c.number.ensures ⨾ c.put-2.ensures ⨾ c.put-3.ensures ⨾ c.put-4.ensures ⨾ c.number-2.ensures ⨾ c.put-5.ensures ⨾ c.number-3.ensures)
