use Rattle.view_tree.proofs.orders.StayLaws.{names_zero}
use Rattle.view_model.specs.declared.relative.Axis.TheVariants.{Horizontal, Vertical}
use Rattle.view_tree.proofs.tree.staying.names_id.Goals as goal

pub returns-then-id-eq0 : goal.returns-then-id-eq0
returns-then-id-eq0 c = record {
  across = λ _. rw c.if-id-eq0.true (names_zero Horizontal c.args.rules.now);
  down = λ _. rw c.if-id-eq0.true (names_zero Vertical c.args.rules.now);
}
