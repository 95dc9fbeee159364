-- Sums of costs, and what was counted for them.
use Rattle.std.proofs.Common.{◌≡◌, sym, subst, arith}
use Rattle.view_model.specs.declared.work.Work.{Work}
use Rattle.whole_tool.specs.Tally.{with_costs}
use Rattle.view_world.specs.frames.Watched.{LineCosts, IsWorth, no_costs}

pub worth_none : (work : Work) → IsWorth no_costs work work
worth_none work = record { measured = omega arith; measured_later = omega arith; least = omega arith; most = omega arith }

pub worth_both : (a b : LineCosts) (first mid now : Work) → IsWorth a first mid → IsWorth b mid now → IsWorth (with_costs a b) first now
worth_both a b first mid now one two = record {
  measured = omega (arith, one.measured, two.measured);
  measured_later = omega (arith, one.measured_later, two.measured_later);
  least = omega (arith, one.least, two.least);
  most = omega (arith, one.most, two.most);
}

pub worth_same : (costs : LineCosts) (first mid now : Work) → now ≡ mid → IsWorth costs first mid → IsWorth costs first now
worth_same costs first mid now e worth = subst (IsWorth costs first) (sym e) worth
