use Rattle.std.proofs.Common.{◌≡◌}
use Rattle.axml_chunks.specs.Strings.{units_at}
use Rattle.axml_chunks.proofs.strings.units_at.Given as goal

abbrev pub invariant-loop-k : goal.invariant-loop-k
invariant-loop-k l = l.units.items ≡ units_at l.chunk l.i l.k
