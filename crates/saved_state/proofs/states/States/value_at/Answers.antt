use Rattle.std.proofs.Common.{◌<◌, ap, length, subst, sym, ◌∙◌}
use Rattle.std.proofs.lemmas.List.{get_or_default}
use Rattle.saved_state.proofs.EntryLaws.{values_fit}
use Rattle.saved_state.specs.State.{IsValue, StateEntry}
use Rattle.saved_state.specs.Numbers.{last_version}
use Rattle.saved_state.specs.declared.value.Value.TheVariants.{Offset}
use Rattle.saved_state.proofs.states.States.value_at.Goals as goal

pub returns-clause-value : goal.returns-clause-value
returns-clause-value c =
    let there : c.args.place < length c.self.inside.entries.items = rw (← c.self.view_is) at c.requires in
    let read = get_or_default c.self.inside.entries.items c.args.place c.index.result.now (0, Offset 0) there in
    rw (← c.self.view_is) (ap (λ (entry : StateEntry). entry.1) (c.index.ensures ∙ read))

pub returns-clause-fits : goal.returns-clause-fits
returns-clause-fits c =
    let there : c.args.place < length c.self.inside.entries.items = rw (← c.self.view_is) at c.requires in
    let read = get_or_default c.self.inside.entries.items c.args.place c.index.result.now (0, Offset 0) there in
    subst (λ (entry : StateEntry). IsValue entry.1) (sym (c.index.ensures ∙ read)) (values_fit last_version 0 c.self.inside.entries.items c.args.place c.self.invariant.rises there)
