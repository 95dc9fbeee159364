use Rattle.std.proofs.Common.{arith, rules}
use Rattle.saved_state.specs.State.{decoded}
use Rattle.saved_state.proofs.FoundLaws.{found_of}
use Rattle.saved_state.proofs.StateLaws.{read_again}
use Rattle.saved_state.proofs.reading.read.Goals as goal

pub returns-in_err-version-clause-only : goal.returns-in_err-version-clause-only
unfolding decoded
returns-in_err-version-clause-only c version entries state bytes = read_again version c.args.bytes.now entries c.from_residual.result state bytes (search rules)

pub returns-clause-found : goal.returns-clause-found
unfolding decoded
returns-clause-found c = found_of c.args.bytes.now c.entries_of.result (λ i. omega (arith, c.type_inv.bytes i)) (search rules)

pub returns-clause-only : goal.returns-clause-only
unfolding decoded
returns-clause-only c version entries state bytes = read_again version c.args.bytes.now entries c.entries_of.result state bytes (search rules)
