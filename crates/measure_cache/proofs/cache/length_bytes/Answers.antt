use Rattle.measure_cache.proofs.KeptLaws.{length_of-bytes}
use Rattle.measure_cache.proofs.cache.length_bytes.Goals as goal

pub returns : goal.returns
returns c = length_of-bytes c.args.length c.to_le_bytes.result c.ranges.length c.to_le_bytes.ensures
