use Rattle.std.proofs.Common.{rules}
use Rattle.axml_chunks.specs.Pool.{pool_in}
use Rattle.axml_chunks.proofs.Pools.{pool_in_found}
use Rattle.axml_chunks.proofs.pool.Pool.read.Goals as goal

pub returns-clause-found : goal.returns-clause-found
unfolding pool_in
returns-clause-found c = pool_in_found _ c.args.at _ _ (search rules)
