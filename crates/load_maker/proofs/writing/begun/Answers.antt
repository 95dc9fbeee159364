use Rattle.text_lines.specs.Joined.{◌⧺◌, texts_of}
use Rattle.load_maker.specs.Load.{text_of}
use Rattle.load_maker.proofs.writing.begun.Goals as goal

pub returns : goal.returns
unfolding text_of texts_of ◌⧺◌
returns c = record { state = c.put.ensures.state; text = λ fine. rw c.new.ensures.items at (c.put.ensures.put fine).1 }
