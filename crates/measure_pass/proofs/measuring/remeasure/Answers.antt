use Rattle.std.proofs.Common.{false, ◌≡◌, ◌+◌, ◌-◌, ◌^◌, min, ap, ◌∙◌, subst, arith}
use Rattle.measure_pass.specs.Courses.{IsMeasuredBelow}
use Rattle.measure_pass.proofs.held.Calm.{Ready-below}
use Rattle.measure_pass.proofs.Counts.{counted_one, counted_own}
use Rattle.measure_pass.proofs.held.Own.{make_at, measured_at}
use Rattle.view_model.specs.declared.work.Work.{Work}
use Rattle.view_tree.specs.declared.node.state.State.{State}
use Rattle.view_tree.specs.Rows.{part_from}
use Rattle.view_tree.specs.Views.{held_of, specs_of, state_of}
use Rattle.measure_pass.proofs.measuring.remeasure.Goals as goal

pub measure_below-outcome-requires : goal.measure_below-outcome-requires
measure_below-outcome-requires c =
    let r = c.requires.fit in
    record { live = r.live; ready = Ready-below (held_of c.args.tree.now) (part_from c.args.view c.args.tree.now.tree) r.shown r.ready }

pub returns : goal.returns
returns c =
    let tree = c.args.tree.now.tree in
    let view = c.args.view in
    let old = held_of c.args.tree.now in
    let mid = held_of c.measure_below-outcome.new.tree in
    let r = c.requires.fit in
    let k = c.measure_below-outcome.ensures in
    let f = c.make_up.ensures in
    let size = c.measure_below-outcome.result.size in
    let total = c.measure_below-outcome.result.total in
    let start = c.args.work.now.measured in
    let between = c.measure_below-outcome.new.work.measured in
    let count : c.make_up.new.work.measured ≡ min (between + 1) (2 ^ 64 - 1) = ap (λ (work : Work). work.measured) f.counted in
    let m : IsMeasuredBelow (part_from view tree) (specs_of (state_of c.args.tree.now view)) old mid size total start between =
    subst (λ (state : State). IsMeasuredBelow (part_from view tree) (specs_of state) old mid size total start between) c.state-state.ensures.value k.measured in
    let made = make_at tree view old mid (held_of c.make_up.new.tree) size total start between c.make_up.new.work.measured k.is_tree.keys r.live r.shown r.ready r.sized c.requires.marked
    k.rest.ready m k.rest.keeps k.rest.others (record { at = f.held; others = f.others }) (omega arith) in
    let same = f.same.tree ∙ k.rest.same.tree in
    record {
      same = record { tree = same; orders = f.same.orders ∙ k.rest.same.orders; next = f.same.next ∙ k.rest.same.next };
      held = made.own ∙ ap (λ total. record (old view) { state = record (old view).state { total = total; measure_first = false } }) m.length;
      measured = measured_at c.args.tree.now c.make_up.new.tree view _ _ _ _ _ same made.all;
      keeps = made.all.keeps;
      others = made.all.others;
      counted = counted_own c.args.tree.now c.measure_below-outcome.new.tree c.make_up.new.tree c.args.work.now c.measure_below-outcome.new.work c.make_up.new.work k.rest.counted
          (counted_one c.measure_below-outcome.new.tree c.make_up.new.tree c.measure_below-outcome.new.work c.make_up.new.work f.counts f.counted);
      caches = made.all.trace.caches;
      shares = made.shares;
      back = made.back;
      spent = made.all.costs.spent;
    }
