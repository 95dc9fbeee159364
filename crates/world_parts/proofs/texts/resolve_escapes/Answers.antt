use Rattle.std.proofs.Common.{ap, ◌∙◌}
use Rattle.std.specs.Str.{chars}
use Rattle.world_parts.proofs.edits.ResolvedLaws.{chars_of-resolved, length-resolved}
use Rattle.world_parts.proofs.texts.resolve_escapes.Goals as goal

pub returns-clause-value : goal.returns-clause-value
returns-clause-value c = ap chars c.in_ok-resolved.ensures ∙ chars_of-resolved c.args.text.now c.utf8.text

pub returns-clause-short : goal.returns-clause-short
returns-clause-short c = rw c.in_ok-resolved.ensures (length-resolved c.args.text.now c.utf8.text)
