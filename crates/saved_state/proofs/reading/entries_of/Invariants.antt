use Rattle.std.proofs.Common.{◌≡◌, ◌≤◌, ◌-◌, drop, length}
use Rattle.saved_state.specs.State.{entries_of}
use Rattle.saved_state.proofs.StateLaws.{ahead}
use Rattle.saved_state.proofs.reading.entries_of.Given as goal

abbrev pub invariant-loop : goal.invariant-loop
invariant-loop l = record {
  within : l.place ≤ length l.bytes;
  rest : ahead l.entries.items (entries_of l.version (l.count - l.counter) l.before l.place (drop l.place l.bytes)) ≡ entries_of l.version l.count 0 5 (drop 5 l.bytes);
}
