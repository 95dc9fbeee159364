use Rattle.std.proofs.Common.{arith, ap, ◌∙◌, ◌++◌, ◌+◌, take, length-take}
use Rattle.std.proofs.lemmas.Slice.{take-put_mid}
use Rattle.script_lines.proofs.lines.FeedLaws.{take_room}
use Rattle.script_lines.proofs.cutting.keep.Goals as goal

pub returns-clause-front : goal.returns-clause-front
returns-clause-front c =
    take-put_mid c.args.len _ c.args.buffer.now c.copy_from_slice.new.self (c.args.len + c.min-n.result) (omega (arith, c.copy_from_slice.ensures.len, length-take c.min-n.result c.args.bytes.now)) c.requires
    ∙ ap (λ l. take c.args.len c.args.buffer.now ++ l) c.copy_from_slice.ensures.after
    ∙ take_room _ c.min-n.result (take c.args.len c.args.buffer.now) c.args.bytes.now (omega (arith, length-take c.args.len c.args.buffer.now)) (omega (arith, length-take c.args.len c.args.buffer.now))
