use Rattle.std.proofs.Common.{FitsSigned, w64, rules}
use Rattle.std.proofs.lemmas.Int.{to_z-of_z}
use Rattle.measure_pass.proofs.measuring.linear.linear_outcome.Goals as goal

pub returns : goal.returns
returns c = record {
  size = λ group past taken represents. rw represents.0 (c.finish.ensures.value group.own group.specs past taken represents.1);
  total = λ group past taken represents.
      let fits : FitsSigned w64 c.total.result = search rules in
      simp to_z-of_z (rw represents.0 (c.total.ensures group.own group.specs past taken represents.1));
}
