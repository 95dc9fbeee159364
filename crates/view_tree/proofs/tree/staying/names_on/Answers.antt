use Rattle.std.proofs.Common.{◌∙◌, ℕ, List, ap, arith, below_more, get_or}
use Rattle.view_tree.proofs.orders.StayLaws.{names_not}
use Rattle.view_tree.proofs.tree.staying.names_on.Goals as goal

pub loop-named-preserved : goal.loop-named-preserved
loop-named-preserved c =
    below_more _ _ c.loop-named.invariant (λ same. c.if-named-id.false (ap (λ (ids : List ℕ). get_or ids c.loop-named.named-index 0) c.named_ids.ensures ∙ same))

pub returns : goal.returns
returns c = λ _. names_not c.args.axis c.args.rules.now c.args.id (λ k small. c.loop-named.invariant k (omega arith))
