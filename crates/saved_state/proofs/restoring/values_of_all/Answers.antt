use Rattle.std.proofs.Common.{◌++◌, ◌<◌, ℕ, Option, List, sym, ap, ◌∙◌}
use Rattle.view_tree.specs.tree.Preorder.{rows_from}
use Rattle.view_tree.specs.Rows.{count_of_key}
use Rattle.saved_state.specs.Restored.{given_values}
use Rattle.saved_state.specs.declared.value.Value.{Value}
use Rattle.saved_state.proofs.RestatedLaws.{given_on}
use Rattle.saved_state.proofs.restoring.values_of_all.Goals as goal

pub loop-next-preserved : goal.loop-next-preserved
loop-next-preserved c =
    let tree = c.args.tree.now.tree in
    let entries = c.args.states.now in
    let i = c.loop-next.invariant in
    let live : 0 < count_of_key c.in-Some.view tree = rw c.in-Some.is at i.live in
    record {
      live = c.next_in_preorder-next.ensures.live;
      is_tree = i.is_tree;
      fit = c.in_ok-copy_value.ensures.fit i.fit;
      left =
          ap (λ (values : List (ℕ × Value)). values ++ given_values entries tree (rows_from c.next_in_preorder-next.result tree)) c.in_ok-copy_value.ensures.values
          ∙ given_on entries tree c.in-Some.view c.next_in_preorder-next.result c.loop-next.values.items live c.next_in_preorder-next.ensures.rows
          ∙ ap (λ (next : Option ℕ). c.loop-next.values.items ++ given_values entries tree (rows_from next tree)) (sym c.in-Some.is)
          ∙ i.left;
    }
