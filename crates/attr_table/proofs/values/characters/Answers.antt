use Rattle.std.proofs.lemmas.Str.{chars_from_encodes}
use Rattle.attr_table.proofs.values.characters.Goals as goal

pub returns : goal.returns
returns c = chars_from_encodes c.in_ok-new.field-0 c.args.text.now c.utf8.text c.in_ok-new.ensures
