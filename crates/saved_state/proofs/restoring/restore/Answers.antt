use Rattle.std.proofs.Common.{sym, subst}
use Rattle.saved_state.proofs.OffsetLaws.{restored_fits}
use Rattle.saved_state.proofs.RestoredLaws.{restored_geometry, restored_off}
use Rattle.saved_state.proofs.RestoringLaws.{came, reported, values_consistent, values_live, values_plain}
use Rattle.saved_state.specs.Saving.{OffsetsFit}
use Rattle.view_tree.specs.Views.{plain_of}
use Rattle.saved_state.proofs.restoring.restore.Goals as goal

pub set_values-requires-clause-live : goal.set_values-requires-clause-live
set_values-requires-clause-live c = values_live c.args.tree.now c.args.tree.now c.args.states.now c.in_ok-values.values.items c.in_ok-values.ensures.is_tree c.in_ok-values.ensures.values

pub returns-clause-plain : goal.returns-clause-plain
returns-clause-plain c =
    values_plain c.args.tree.now c.set_values.new.tree c.args.states.now c.in_ok-values.values.items c.copied_values.ensures.is_tree c.in_ok-values.ensures.values c.set_values.ensures.tree c.set_values.ensures.held

pub returns-clause-restates : goal.returns-clause-restates
returns-clause-restates c = record {
  tree = reported c.args.tree.now c.set_values.new.tree c.args.states.now c.in_ok-values.values.items c.copied_values.ensures.is_tree c.in_ok-values.ensures.values c.set_values.ensures.tree c.set_values.ensures.held;
  orders = c.set_values.ensures.orders;
  next = c.set_values.ensures.next;
}

pub returns-clause-geometry : goal.returns-clause-geometry
returns-clause-geometry c =
    let old = c.args.tree.now in
    let new = c.set_values.new.tree in
    let set = c.set_values.ensures in
    restored_geometry old new c.args.states.now (came old new c.args.states.now c.in_ok-values.values.items c.copied_values.ensures.is_tree c.in_ok-values.ensures.values set.tree set.held)
    (reported old new c.args.states.now c.in_ok-values.values.items c.copied_values.ensures.is_tree c.in_ok-values.ensures.values set.tree set.held)

pub returns-clause-consistent : goal.returns-clause-consistent
returns-clause-consistent c =
    values_consistent c.args.tree.now c.set_values.new.tree c.args.states.now c.in_ok-values.values.items c.copied_values.ensures.is_tree c.in_ok-values.ensures.values c.set_values.ensures.tree c.set_values.ensures.held

pub returns-clause-held : goal.returns-clause-held
returns-clause-held c =
    came c.args.tree.now c.set_values.new.tree c.args.states.now c.in_ok-values.values.items c.copied_values.ensures.is_tree c.in_ok-values.ensures.values c.set_values.ensures.tree c.set_values.ensures.held

pub returns-clause-asked : goal.returns-clause-asked
returns-clause-asked c =
    restored_off c.args.tree.now c.set_values.new.tree c.args.states.now
    (came c.args.tree.now c.set_values.new.tree c.args.states.now c.in_ok-values.values.items c.copied_values.ensures.is_tree c.in_ok-values.ensures.values c.set_values.ensures.tree c.set_values.ensures.held)

pub returns-clause-fits : goal.returns-clause-fits
returns-clause-fits c = λ every.
    subst OffsetsFit
    (sym (values_plain c.args.tree.now c.set_values.new.tree c.args.states.now c.in_ok-values.values.items c.copied_values.ensures.is_tree c.in_ok-values.ensures.values c.set_values.ensures.tree c.set_values.ensures.held))
    (restored_fits c.args.states.now (plain_of c.args.tree.now) c.recall.ensures every)
