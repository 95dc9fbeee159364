use Rattle.std.proofs.Common.{◌≡◌}
use Rattle.axml_reader.specs.Fields.{words_at}
use Rattle.axml_reader.proofs.fields.words_at.Given as goal

abbrev pub invariant-loop-k : goal.invariant-loop-k
invariant-loop-k l = l.words.items ≡ words_at l.bytes l.at l.k
