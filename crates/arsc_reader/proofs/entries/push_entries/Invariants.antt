use Rattle.std.proofs.Common.{◌≡◌, Ok}
use Rattle.arsc_reader.specs.Entries.{entries_upto}
use Rattle.arsc_reader.proofs.entries.push_entries.Given as goal

abbrev pub invariant-loop-k : goal.invariant-loop-k
invariant-loop-k l = entries_upto l.bytes l.listing l.fn.entries.items l.k ≡ Ok l.entries.items
