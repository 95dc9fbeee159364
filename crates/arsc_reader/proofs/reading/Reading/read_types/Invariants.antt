use Rattle.std.proofs.Common.{◌-◌, ◌≤◌}
use Rattle.arsc_reader.specs.Meaning.{found}
use Rattle.arsc_reader.specs.Reading.{in_package, all_chunks}
use Rattle.arsc_reader.proofs.Loop.{StepsLead}
use Rattle.arsc_reader.proofs.reading.Reading.read_types.Given as goal

abbrev pub invariant-loop-at : goal.invariant-loop-at
invariant-loop-at l = record {
  within : l.at ≤ l.end;
  leads : StepsLead (in_package l.bytes l.package_id) l.bytes l.end l.at (found l.self) (all_chunks (in_package l.bytes l.package_id) l.bytes l.end l.place (found l.fn.self));
}

abbrev pub decreases-loop-at : goal.decreases-loop-at
decreases-loop-at l = l.end - l.at
