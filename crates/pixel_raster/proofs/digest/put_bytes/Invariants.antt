use Rattle.std.proofs.Common.{◌≡◌, ◌*◌, map, take}
use Rattle.pixel_raster.specs.Bytes.{bytes_of}
use Rattle.pixel_raster.specs.Marks.{seen_of}
use Rattle.pixel_raster.proofs.digest.put_bytes.Given as goal

abbrev pub invariant-loop-k : goal.invariant-loop-k
invariant-loop-k l = take (3 * l.k) l.bytes ≡ bytes_of (map (seen_of l.first) (take l.k l.run))
