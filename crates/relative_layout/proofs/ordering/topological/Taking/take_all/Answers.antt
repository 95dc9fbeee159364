use Rattle.std.proofs.Common.{◌≡◌, ◌+◌, ◌∷◌, [], length, length-append, ◌∙◌, ap}
use Rattle.relative_layout.proofs.orders.TakingLaws.{effort-less}
use Rattle.relative_layout.specs.ordering.Naming.{lists_of}
use Rattle.relative_layout.proofs.ordering.topological.Taking.take_all.Goals as goal

pub look_at-requires-clause-taking : goal.look_at-requires-clause-taking
look_at-requires-clause-taking c = let is = c.in-Some.ensures in rw (← is.some, is.left, is.taken, is.order) c.loop-place.invariant

pub loop-place-smaller : goal.loop-place-smaller
loop-place-smaller c =
    let now = c.loop-place.self in
    let longer : length now.todo.items ≡ length c.next.new.self.todo.items + 1 = ap length c.in-Some.ensures.some ∙ length-append c.next.new.self.todo.items (c.in-Some.place ∷ []) in
    let e = rw c.in-Some.ensures.taken at c.in_ok-look_at.ensures.effort in
    rw longer (effort-less (lists_of c.args.naming.now.namers.items) now.taken.items c.look_at.new.self.taken.items (length c.next.new.self.todo.items) (length c.look_at.new.self.todo.items) e)

pub returns : goal.returns
returns c = let is = c.in_default.ensures in rw (← is.none, is.left, is.taken, is.order) c.loop-place.invariant
