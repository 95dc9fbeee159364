use Rattle.std.proofs.Common.{◌≡◌, ◌<◌, ℕ, length, rules, sym, ap, subst, ◌∙◌, arith}
use Rattle.std.proofs.lemmas.Iterator.Adapters.{YieldsList-from_vec}
use Rattle.std.proofs.lemmas.Iterator.Consumers.{YieldsList-turn}
use Rattle.std.proofs.lemmas.List.Sums.{fold_push}
use Rattle.view_model.specs.Forest.{Forest}
use Rattle.view_tree.specs.Rows.{Row, count_of_key}
use Rattle.view_tree.specs.Views.{held_of}
use Rattle.saved_state.specs.Restored.{with_text_at}
use Rattle.saved_state.specs.declared.value.Value.{Value}
use Rattle.saved_state.proofs.RestoredLaws.{set_on}
use Rattle.saved_state.proofs.RestatedLaws.{count_sets}
use Rattle.saved_state.proofs.restoring.set_values.Goals as goal

pub set_value-requires-clause-live : goal.set_value-requires-clause-live
set_value-requires-clause-live c =
    let tree = c.args.tree.now.tree in
    let set : ℕ × Value = (c.in-Some.view, c.in-Some.value) in
    let done = c.loop-view.yielded in
    let turn = YieldsList-turn (YieldsList-from_vec {s = c.into_iter-view-iterator.result} c.args.values.items (search rules) (search rules))
    done c.loop-view.view-iterator c.loop-view.yielded_by c.next.result c.next.new.self set c.in-Some.is c.next.ensures.steps in
    let live : 0 < count_of_key c.in-Some.view tree =
    subst (λ (set : ℕ × Value). 0 < count_of_key set.0 tree) (sym turn.1) (c.requires.live (length done) set turn.0) in
    let same : count_of_key c.in-Some.view c.loop-view.tree.tree ≡ count_of_key c.in-Some.view tree =
    ap (count_of_key c.in-Some.view) c.loop-view.invariant.tree ∙ count_sets c.in-Some.view done tree in
    omega arith

pub loop-view-preserved : goal.loop-view-preserved
loop-view-preserved c =
    let i = c.loop-view.invariant in
    let s = c.set_value.ensures in
    let tree = c.args.tree.now.tree in
    let set : ℕ × Value = (c.in-Some.view, c.in-Some.value) in
    let done = c.loop-view.yielded in
    record {
      tree = s.tree ∙ ap (λ (tree : Forest Row). with_text_at tree set) i.tree ∙ sym (fold_push with_text_at tree done set);
      orders = s.orders ∙ i.orders;
      numbers = s.next ∙ i.numbers;
      counts = s.counts ∙ i.counts;
      held = set_on tree c.loop-view.tree.tree done set (held_of c.args.tree.now) (held_of c.loop-view.tree) (held_of c.set_value.new.tree) i.tree i.held s.held;
    }
