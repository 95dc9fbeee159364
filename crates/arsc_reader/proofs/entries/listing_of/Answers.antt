use Rattle.std.proofs.Common.{arith}
use Rattle.arsc_reader.proofs.entries.listing_of.Goals as goal

pub returns-clause-bounds : goal.returns-clause-bounds
returns-clause-bounds c = record { id = omega arith; offsets = omega arith; first = omega arith; end = omega arith }
