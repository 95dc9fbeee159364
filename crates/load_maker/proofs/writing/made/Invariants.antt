use Rattle.load_maker.specs.Load.{opening, with_steps, with_views}
use Rattle.load_maker.specs.Made.{Makes}
use Rattle.load_maker.proofs.writing.made.Given as goal

abbrev pub invariant-loop-k : goal.invariant-loop-k
invariant-loop-k l = Makes l.maker (with_views l.k (opening l.n))

abbrev pub invariant-loop-k-2 : goal.invariant-loop-k-2
invariant-loop-k-2 l = Makes l.maker (with_steps l.views l.k (with_views l.views (opening l.n)))
