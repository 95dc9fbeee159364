use Rattle.std.proofs.Common.{inr, rules}
use Rattle.script_lines.proofs.lines.PassedLaws.{empty_passed}
use Rattle.script_lines.proofs.cutting.passed_len.Goals as goal

pub returns-then-bytes-eq10-clause-passed : goal.returns-then-bytes-eq10-clause-passed
returns-then-bytes-eq10-clause-passed c = inr (empty_passed c.args.bytes.now (search rules) c.if-bytes-eq10.true)
