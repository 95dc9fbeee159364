use Rattle.std.proofs.Common.{◌≡◌, ◌*◌, arith}
use Rattle.load_maker.specs.Load.{load_of}
use Rattle.load_maker.proofs.writing.made.Goals as goal

pub returns : goal.returns
unfolding load_of
returns c =
    let k : c.loop-k-2.k ≡ 64 * c.args.n = omega arith in
    rw (k, c.from-views.ensures) at c.loop-k-2.invariant
