use Rattle.std.proofs.Common.{◌<◌, ◌∙◌, ap, arith, length, sym}
use Rattle.std.proofs.lemmas.List.{get_or_default}
use Rattle.saved_state.specs.State.{StateEntry}
use Rattle.saved_state.specs.Numbers.{last_version}
use Rattle.saved_state.specs.declared.value.Value.TheVariants.{Offset}
use Rattle.saved_state.proofs.EntryLaws.{entry_here}
use Rattle.saved_state.proofs.states.States.place_by_distance.Goals as goal

pub returns-then-index-id : goal.returns-then-index-id
returns-then-index-id c =
    let entries = c.self.inside.entries in
    let there : _ < length entries.items = omega (arith, c.if-place-len.true, c.len.ensures, entries.ok.0) in
    let read = get_or_default entries.items _ c.index.result.now (0, Offset 0) there in
    rw (← c.self.view_is) (entry_here last_version entries.items c.self.invariant.rises c.args.id _ there (sym (ap (λ (entry : StateEntry). entry.0) (c.index.ensures ∙ read)) ∙ c.if-index-id.true))
