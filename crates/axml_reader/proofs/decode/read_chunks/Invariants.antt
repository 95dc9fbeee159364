use Rattle.std.proofs.Common.{◌-◌, ◌≤◌}
use Rattle.axml_reader.specs.Decoding.{chunks_from, start}
use Rattle.axml_reader.specs.Meaning.{reading}
use Rattle.axml_reader.proofs.Loop.{Leads}
use Rattle.axml_reader.proofs.decode.read_chunks.Given as goal

abbrev pub invariant-loop-at : goal.invariant-loop-at
invariant-loop-at l = record {
  within : l.at ≤ l.whole.size;
  leads : Leads l.bytes l.whole.size l.at (reading l.so_far) (chunks_from l.whole.size l.bytes l.whole.size l.whole.head start);
}

abbrev pub decreases-loop-at : goal.decreases-loop-at
decreases-loop-at l = l.whole.size - l.at
