use Rattle.std.proofs.Common.{◌++◌, append_assoc, map, take, slice_index_or, arith}
use Rattle.std.proofs.lemmas.List.{get_or_default}
use Rattle.geom_core.specs.Numbers.{unpainted}
use Rattle.pixel_raster.specs.Bytes.{bytes_of, rgb_of}
use Rattle.pixel_raster.specs.Marks.{seen_of}
use Rattle.pixel_raster.proofs.PieceLaws.{flat_map-next_mapped}
use Rattle.pixel_raster.proofs.digest.absorb_row.Goals as goal

pub pieces-preserved : goal.pieces-preserved
pieces-preserved c =
    let row = c.args.row.now in
    let f = seen_of (slice_index_or row 0 unpainted) in
    let same = get_or_default row 0 (record { 0 = 0 }) unpainted (omega arith) in
    record {
      inside = omega arith;
      holds = λ message holds.
          let before = bytes_of (map f (take c.pieces.at row)) in
          let absorbed = c.absorb.ensures (message ++ before) (c.pieces.invariant.holds message holds) in
          rw (same, append_assoc message before _, flat_map-next_mapped rgb_of f row c.pieces.at c.min-end.result (omega arith)) at absorbed;
    }
