use Rattle.std.proofs.Common.{arith}
use Rattle.vindaesk_c.proofs.PackedLaws.{front_length}
use Rattle.vindaesk_c.proofs.packing.first_length.Goals as goal

pub returns-clause-found : goal.returns-clause-found
returns-clause-found c = (
  front_length c.args.bytes.now c.in_ok-length.length.now c.in_ok-length.rest.now c.from_le_bytes.result c.in_ok-length.ensures.cases (λ i. omega (arith, c.type_inv.bytes i)) c.from_le_bytes.ensures,
  c.from_le_bytes.type_inv,
)
