use Rattle.std.proofs.Common.{◌≡◌, Option}
use Rattle.axml_chunks.specs.Pool.{StringPool}
use Rattle.axml_reader.specs.Alike.{text_of, AreAlike}
use Rattle.axml_reader.proofs.alike.least.Given as goal

abbrev pub invariant-loop-number : goal.invariant-loop-number
invariant-loop-number l = (pool : Option StringPool) → AreAlike pool l.initial.alike → AreAlike pool l.alike × (text_of pool l.number ≡ text_of pool l.fn.number)

abbrev pub decreases-loop-number : goal.decreases-loop-number
decreases-loop-number l = l.number
