use Rattle.std.proofs.Common.{ℕ, ◌≤◌, ◌-◌, List, ◌++◌, map, take, length, slice_index_or}
use Rattle.geom_core.specs.Numbers.{unpainted}
use Rattle.sha2.specs.Hashers.{Holds256}
use Rattle.pixel_raster.specs.Bytes.{bytes_of}
use Rattle.pixel_raster.specs.Marks.{seen_of}
use Rattle.pixel_raster.proofs.digest.absorb_row.Given as goal

abbrev pub invariant-pieces : goal.invariant-pieces
invariant-pieces l = record {
  inside : l.at ≤ length l.row;
  holds : (message : List ℕ) → Holds256 l.initial.hasher message
      → Holds256 l.hasher (message ++ bytes_of (map (seen_of (slice_index_or l.row 0 unpainted)) (take l.at l.row)));
}

abbrev pub decreases-pieces : goal.decreases-pieces
decreases-pieces l = length l.row - l.at
