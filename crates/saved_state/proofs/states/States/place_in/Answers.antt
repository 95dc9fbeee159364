use Rattle.std.proofs.Common.{◌≡◌, None, rules}
use Rattle.std.proofs.lemmas.List.Sorted.{answers_always}
use Rattle.std.specs.Result.{MatchResult}
use Rattle.saved_state.specs.Restoring.{IsEntry, value_for}
use Rattle.saved_state.specs.State.{StateEntry}
use Rattle.saved_state.specs.Numbers.{last_version}
use Rattle.saved_state.proofs.EntryLaws.{searched}
use Rattle.saved_state.proofs.states.States.place_in.Goals as goal

pub returns-in-Ok-clause-entry : goal.returns-in-Ok-clause-entry
returns-in-Ok-clause-entry c =
    let facts = c.binary_search_by_key.ensures in
    let by_key = facts.position (λ (entry : StateEntry). entry.0) (answers_always _ _ _ (λ f a r g called. search rules)) in
    let found : MatchResult c.binary_search_by_key.result (IsEntry c.args.self.now c.args.id) (λ _. value_for c.args.self.now c.args.id ≡ None) =
    rw (← c.self.view_is, ← c.deref.ensures.value) (searched last_version _ (rw c.deref.ensures.value c.self.invariant.rises) c.args.id _ facts.bound by_key) in
    rw c.in-Ok.is at found

pub returns-in-Err-clause-entry : goal.returns-in-Err-clause-entry
returns-in-Err-clause-entry c =
    let facts = c.binary_search_by_key.ensures in
    let by_key = facts.position (λ (entry : StateEntry). entry.0) (answers_always _ _ _ (λ f a r g called. search rules)) in
    let found : MatchResult c.binary_search_by_key.result (IsEntry c.args.self.now c.args.id) (λ _. value_for c.args.self.now c.args.id ≡ None) =
    rw (← c.self.view_is, ← c.deref.ensures.value) (searched last_version _ (rw c.deref.ensures.value c.self.invariant.rises) c.args.id _ facts.bound by_key) in
    rw c.in-Err.is at found
