-- Rows of one colour, of which a surface keeps no more than a mark in the place of their first pixel.
use Rattle.std.specs.Prelude.{ℕ, ◌≡◌, true, false, ◌+◌, ◌*◌, ◌/◌, ◌%◌, ◌==◌, List, length, map, slice_index_or}
use Rattle.std.specs.Prelude.{if◌then◌else◌}
use Rattle.std.specs.List.{range_with_len}
use Rattle.geom_core.specs.Color.{alpha_of}
use Rattle.geom_core.specs.Numbers.{unpainted}
use Rattle.geom_core.specs.declared.color.Argb.{Argb}
use Rattle.pixel_raster.specs.Cuts.{is_between}
use Rattle.pixel_raster.specs.Raster.{pixel_at}
use Rattle.pixel_raster.specs.declared.marks.RowRange.{RowRange}

-- the mark of a row of an opaque colour: the colour without its alpha, which no pixel has
unfoldable pub mark_of : Argb → Argb
mark_of color = record { 0 = color.0 % 0x100_0000 }

-- the colour that is seen of a pixel in a row that begins with this one
unfoldable pub seen_of : Argb → Argb → Argb
seen_of first pixel = if alpha_of first == 0 then record { 0 = first.0 + 0xff00_0000 } else pixel

-- the colour that is seen in a column and a row
abbrev pub seen_at : ℕ → List Argb → ℕ → ℕ → Argb
seen_at width pixels x y = seen_of (pixel_at width pixels 0 y) (pixel_at width pixels x y)

-- the colours that are seen of all pixels
unfoldable pub seen_pixels : ℕ → List Argb → List Argb
seen_pixels width pixels =
    map
    (λ place.
    seen_of (slice_index_or pixels (place / width * width) unpainted) (slice_index_or pixels place unpainted))
    (range_with_len 0 (length pixels))

-- none of the rows of a range is marked
abbrev pub AreWritten : ℕ → RowRange → List Argb → Type 0
AreWritten width range pixels =
    (y : ℕ) → is_between range.top range.bottom y ≡ true → (alpha_of (pixel_at width pixels 0 y) == 0) ≡ false
