use Rattle.std.proofs.Common.{◌*◌, take}
use Rattle.sha2.specs.Hashers.{Holds256}
use Rattle.pixel_raster.specs.Bytes.{bytes_of}
use Rattle.pixel_raster.specs.Marks.{seen_pixels}
use Rattle.pixel_raster.proofs.digest.digest_of.Given as goal

abbrev pub invariant-loop-y : goal.invariant-loop-y
invariant-loop-y l = Holds256 l.hasher (bytes_of (take (l.y * l.width) (seen_pixels l.width l.pixels)))
