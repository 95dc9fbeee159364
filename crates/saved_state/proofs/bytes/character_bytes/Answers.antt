use Rattle.std.proofs.Common.{subst}
use Rattle.std.specs.Prelude.{IsUtf8}
use Rattle.saved_state.proofs.TextLaws.{character_valid}
use Rattle.saved_state.proofs.bytes.character_bytes.Goals as goal

pub returns-clause-valid : goal.returns-clause-valid
returns-clause-valid c = character_valid c.args.character (subst IsUtf8 c.encode_utf8.ensures.value c.encode_utf8.utf8)
