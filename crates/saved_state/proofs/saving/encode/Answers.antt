use Rattle.std.proofs.Common.{rules, ◌≡◌, ◌<◌, List, Some, ◌∷◌, ◌++◌, ◌∙◌, ap, map, length}
use Rattle.std.proofs.lemmas.Map.Iter.{iter_end, iter_turn}
use Rattle.std.specs.List.{flat_map, slice_get}
use Rattle.std.specs.Map.Iter.{deref_pair}
use Rattle.byteorder.specs.Endian.{little_bytes}
use Rattle.saved_state.specs.State.{StateEntry, decoded, entry_bytes}
use Rattle.saved_state.specs.Numbers.{last_version}
use Rattle.saved_state.proofs.EntryLaws.{value_got}
use Rattle.saved_state.proofs.StateLaws.{decoded_encoded}
use Rattle.saved_state.proofs.saving.encode.Goals as goal

pub put_entry-requires : goal.put_entry-requires
put_entry-requires c =
    let entries = c.args.saved.now.entries in
    let turn : (length c.loop-id.yielded < length entries) × (slice_get entries (length c.loop-id.yielded) ≡ Some (deref_pair (c.in-Some.id, c.in-Some.value))) = search (rules, iter_turn) in
    value_got last_version 0 entries (length c.loop-id.yielded) (c.in-Some.id.now, c.in-Some.value.now) c.requires.rises turn.1

pub returns-clause-back : goal.returns-clause-back
returns-clause-back c =
    let entries = c.args.saved.now.entries in
    let all : map deref_pair c.loop-id.yielded ≡ entries = search (rules, iter_end) in
    let head = 86 ∷ 83 ∷ 2 ∷ little_bytes 2 (length entries) in
    ap decoded (c.loop-id.invariant ∙ ap (λ (list : List StateEntry). head ++ flat_map entry_bytes list) all) ∙ decoded_encoded last_version entries c.requires
