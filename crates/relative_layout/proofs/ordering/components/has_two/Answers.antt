use Rattle.std.proofs.Common.{◌<◌, arith}
use Rattle.relative_layout.proofs.ordering.components.has_two.Goals as goal

pub returns-then-one-clause-yes : goal.returns-then-one-clause-yes
returns-then-one-clause-yes c = λ t.
    let first = c.loop-place.invariant.some c.if-one.true in
    record {
      one = first.0;
      other = c.loop-place.place;
      from = first.1;
      apart = first.2;
      inside = c.loop-place-test.true;
      one_child = first.3;
      other_child = c.if-path-place.true;
    }

pub returns-clause-no : goal.returns-clause-no
returns-clause-no c = λ f pair.
    let at : pair.other < c.loop-place.place = (let h = pair.inside in omega (arith, c.loop-place-test.false)) in
    let id = c.loop-place.invariant.single pair.one pair.other pair.from pair.apart at pair.one_child in
    let child = pair.other_child in
    omega arith
