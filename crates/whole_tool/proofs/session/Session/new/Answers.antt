use Rattle.std.proofs.Common.{refl}
use Rattle.whole_tool.proofs.lines.SessionLaws.{runs_nothing}
use Rattle.whole_tool.proofs.session.Session.new.Goals as goal

pub returns : goal.returns
returns c = λ files. runs_nothing files _ c.alone.result c.new.ensures.lines refl c.new.ensures.refused c.new.ensures.carrier c.alone.ensures.start c.alone.ensures.first
