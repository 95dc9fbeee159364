use Rattle.std.proofs.Common.{List, ap, arith}
use Rattle.geom_core.specs.declared.color.Argb.{Argb}
use Rattle.pixel_raster.specs.Marks.{seen_pixels}
use Rattle.pixel_raster.specs.Raster.{Raster}
use Rattle.pixel_raster.proofs.BlackLaws.{black-is_raster}
use Rattle.pixel_raster.proofs.MarkLaws.{seen_pixels-black, unmarked-none}
use Rattle.pixel_raster.proofs.surface.Surface.empty.Goals as goal

pub invariant_of-result : goal.invariant_of-result
invariant_of-result c =
    let seen = seen_pixels-black 0 0 c.new.result.items c.new.ensures.items in
    record {
      size = rw c.new.ensures.items (omega arith);
      raster = black-is_raster 0 0 (seen_pixels 0 c.new.result.items) seen (omega arith) (omega arith);
      unmarked = unmarked-none _ _;
      digest = tt;
      black = λ _. c.new.ensures.items;
    }

pub returns : goal.returns
returns c =
    ap (λ (pixels : List Argb). let raster : Raster = record { width = 0; height = 0; pixels = pixels; filled = 0 } in raster)
    (seen_pixels-black 0 0 c.new.result.items c.new.ensures.items)
