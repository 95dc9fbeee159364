use Rattle.std.proofs.Common.{arith}
use Rattle.world_parts.proofs.edits.EscapeLaws.{few_characters}
use Rattle.world_parts.proofs.resources.parse_text.Goals as goal

pub from_characters-requires : goal.from_characters-requires
from_characters-requires c = rw c.in_ok-characters.ensures (omega (arith, few_characters c.args.text.now c.utf8.text, c.requires))
