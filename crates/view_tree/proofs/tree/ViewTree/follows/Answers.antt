use Rattle.std.proofs.Common.{arith, below_more, inl, inr}
use Rattle.view_tree.proofs.tree.ViewTree.follows.Goals as goal

pub returns-then-is_last : goal.returns-then-is_last
returns-then-is_last c = λ _. inl (c.is_last.ensures c.if-is_last.true)

pub loop-k-preserved : goal.loop-k-preserved
loop-k-preserved c = below_more _ _ c.loop-k.invariant (c.may_name.ensures c.if-not-may_name.false)

pub returns : goal.returns
returns c = λ _. inr (λ k small. c.loop-k.invariant k (omega arith))
