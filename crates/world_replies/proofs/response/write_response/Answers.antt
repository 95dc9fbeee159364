use Rattle.text_lines.proofs.Sending.{delivered}
use Rattle.world_replies.proofs.ResponseLaws.{nothing_reported}
use Rattle.world_replies.proofs.response.write_response.Goals as goal

pub returns-clause-delivered : goal.returns-clause-delivered
returns-clause-delivered g c = delivered c.finish.result c.restart.ensures c.put_response.ensures c.finish.ensures.sends c.finish.ensures.empty c.finish.ensures.whole c.finish.ensures.failed

pub returns-clause-silent : goal.returns-clause-silent
returns-clause-silent g c e =
    absurd (let says = nothing_reported c.args.source.now.tree.now c.args.source.now.surface.now c.args.source.now.log.now.entries.items c.args.source.now.saved.now c.args.response c.requires e in let a = c.is_nothing.ensures in let b = c.if-is_nothing.false in cc)
