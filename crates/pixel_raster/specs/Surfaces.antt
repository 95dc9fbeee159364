-- The picture that a surface is for contracts, and what a surface keeps.
use Rattle.std.specs.Prelude.{◌≡◌, ◌*◌, IfSome, length, replicate, true}
use Rattle.geom_core.specs.Numbers.{unpainted}
use Rattle.pixel_raster.specs.Bytes.{digest_of}
use Rattle.pixel_raster.specs.Marks.{AreWritten, seen_pixels}
use Rattle.pixel_raster.specs.Raster.{IsRaster, Raster}
use Rattle.pixel_raster.specs.declared.surface.Surface.TheInside.{Inside}

abbrev pub raster_of : Inside → Raster
raster_of surface = record {
  width = surface.width;
  height = surface.height;
  pixels = seen_pixels surface.width surface.pixels.items;
  filled = surface.filled;
}

-- a picture, rows of it that aren't marked, its digest if that is kept, and whether no pixel was painted since all were
-- made black
pub record IsSurface (surface : Inside) : Type 0 where
  pub size : length surface.pixels.items ≡ surface.width * surface.height
  pub raster : IsRaster (raster_of surface)
  pub unmarked : AreWritten surface.width surface.written surface.pixels.items
  pub digest : IfSome surface.digest (λ digest. digest ≡ digest_of (seen_pixels surface.width surface.pixels.items))
  pub black : surface.black ≡ true → surface.pixels.items ≡ replicate (surface.width * surface.height) unpainted
