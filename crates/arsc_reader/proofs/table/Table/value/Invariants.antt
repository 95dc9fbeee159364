use Rattle.std.proofs.Common.{◌≡◌, ◌-◌}
use Rattle.arsc_reader.specs.Table.{followed}
use Rattle.arsc_reader.proofs.table.Table.value.Given as goal

abbrev pub invariant-loop-k : goal.invariant-loop-k
invariant-loop-k l = followed (16 - l.k) l.self.entries l.id ≡ followed 16 l.self.entries l.fn.id
