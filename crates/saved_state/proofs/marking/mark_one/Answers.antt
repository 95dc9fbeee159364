use Rattle.std.proofs.Common.{◌≡◌, ℕ, ap, subst, true, false, None, arith, slice_index_or}
use Rattle.view_model.specs.declared.facts.Facts.{Facts}
use Rattle.view_tree.specs.Views.{view_at}
use Rattle.saved_state.proofs.EntryLaws.{mark_kept, mark_left, mark_set}
use Rattle.saved_state.specs.Restoring.{IsEntry, entry_at, suits, value_for}
use Rattle.saved_state.proofs.marking.mark_one.Goals as goal

pub bounds-marks-place : goal.bounds-marks-place
bounds-marks-place c =
    let few = c.in-Some.ensures.few in
    let sized = c.requires.sized in
    let there = c.in-Some.ensures.entry.there in
    omega arith

pub returns-then-suits-clause-marks : goal.returns-then-suits-clause-marks
returns-then-suits-clause-marks c =
    let few = c.in-Some.ensures.few in
    let sized = c.requires.sized in
    let there = c.in-Some.ensures.entry.there in
    let fits : suits (entry_at c.args.states.now c.in-Some.place).1 (view_at c.args.tree.now c.args.view).class ≡ true = cc in
    let is : IsEntry c.args.states.now (view_at c.args.tree.now c.args.view).facts.id c.in-Some.place =
    subst (λ (id : ℕ). IsEntry c.args.states.now id c.in-Some.place) (ap (λ (facts : Facts). facts.id) c.facts.ensures.value) c.in-Some.ensures.entry in
    mark_set c.args.states.now c.args.marks.now (view_at c.args.tree.now c.args.view) c.in-Some.place fits is (omega arith)

pub returns-else-suits-clause-marks : goal.returns-else-suits-clause-marks
returns-else-suits-clause-marks c =
    λ place there.
    let fits : suits (entry_at c.args.states.now c.in-Some.place).1 (view_at c.args.tree.now c.args.view).class ≡ false = cc in
    let is : IsEntry c.args.states.now (view_at c.args.tree.now c.args.view).facts.id c.in-Some.place =
    subst (λ (id : ℕ). IsEntry c.args.states.now id c.in-Some.place) (ap (λ (facts : Facts). facts.id) c.facts.ensures.value) c.in-Some.ensures.entry in
    mark_left c.args.states.now (slice_index_or c.args.marks.now place false) (view_at c.args.tree.now c.args.view) c.in-Some.place fits is place there

pub returns-in_default-clause-marks : goal.returns-in_default-clause-marks
returns-in_default-clause-marks c =
    λ place there.
    let absent : value_for c.args.states.now c.facts.result.now.id ≡ None = rw c.in_default.is at c.place_of.ensures.entry in
    let none : value_for c.args.states.now (view_at c.args.tree.now c.args.view).facts.id ≡ None =
    subst (λ (id : ℕ). value_for c.args.states.now id ≡ None) (ap (λ (facts : Facts). facts.id) c.facts.ensures.value) absent in
    mark_kept c.args.states.now (slice_index_or c.args.marks.now place false) (view_at c.args.tree.now c.args.view) none place there
