use Rattle.std.proofs.Common.{◌≡◌}
use Rattle.arsc_reader.specs.Entries.{are_zeros}
use Rattle.arsc_reader.proofs.entries.are_zeros.Given as goal

abbrev pub invariant-loop-k : goal.invariant-loop-k
invariant-loop-k l = l.zeros ≡ are_zeros l.bytes l.place l.k
