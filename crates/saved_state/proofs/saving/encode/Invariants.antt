use Rattle.std.proofs.Common.{◌≡◌, ◌∷◌, ◌++◌, length, map}
use Rattle.std.specs.List.{flat_map}
use Rattle.std.specs.Map.Iter.{deref_pair}
use Rattle.byteorder.specs.Endian.{little_bytes}
use Rattle.saved_state.specs.State.{entry_bytes}
use Rattle.saved_state.proofs.saving.encode.Given as goal

abbrev pub invariant-loop-id : goal.invariant-loop-id
invariant-loop-id l = l.bytes.items ≡ (86 ∷ 83 ∷ 2 ∷ little_bytes 2 (length l.saved.entries)) ++ flat_map entry_bytes (map deref_pair l.yielded)
