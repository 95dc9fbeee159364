use Rattle.std.proofs.Common.{length}
use Rattle.std.proofs.lemmas.List.{length-replicate}
use Rattle.relative_layout.proofs.orders.Counting.{AreCounts-all, unmarked}
use Rattle.relative_layout.proofs.orders.TakingLaws.{IsTaking-start}
use Rattle.relative_layout.proofs.ordering.topological.Taking.start.Goals as goal

pub returns : goal.returns
returns c =
    let kids = c.args.kids.now in
    rw (c.in_ok-unmarked.ensures)
    (IsTaking-start c.args.naming.now.axis kids c.in_ok-left.left.items _ c.in_ok-todo.todo.items c.new.result.items c.new.ensures.items (length-replicate _ _) (unmarked (length kids))
    (AreCounts-all kids _ c.in_ok-left.left.items (unmarked (length kids)) c.in_ok-left.ensures) c.in_ok-todo.ensures.inside c.in_ok-todo.ensures.each)
