use Rattle.std.proofs.Common.{arith}
use Rattle.std.proofs.lemmas.Grind.{common_steps}
use Rattle.std.proofs.lemmas.Bool.Decides.{nat_tests}
use Rattle.relative_layout.specs.ordering.Naming.{with_last}
use Rattle.relative_layout.proofs.ordering.ids.note_last.Goals as goal

pub returns-then-id-eq0 : goal.returns-then-id-eq0
unfolding with_last
returns-then-id-eq0 c = λ i. grind (arith, common_steps, nat_tests)

pub returns : goal.returns
unfolding with_last
returns c = λ i. let e = c.in_ok-insert.ensures.updates.0 i in grind (arith, common_steps, nat_tests, e)
