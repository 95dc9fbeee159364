use Rattle.std.proofs.Common.{◌≡◌, length, map, take, ◌-◌}
use Rattle.measure_cache.specs.Entries.{found}
use Rattle.measure_cache.specs.Kept.{entry_of}
use Rattle.measure_cache.proofs.cache.Cache.find.Given as goal

abbrev pub invariant-loop-newer : goal.invariant-loop-newer
invariant-loop-newer l = found l.self (record { across = l.ws; down = l.hs }) ≡ found (map entry_of (take (length l.entries - l.newer) l.entries)) (record { across = l.ws; down = l.hs })
