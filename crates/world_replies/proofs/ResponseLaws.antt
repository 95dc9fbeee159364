-- The texts of responses.
use Rattle.std.proofs.Common.{◌≡◌, ◌≢◌, ℕ, zero, suc, ◌<◌, Bool, true, false, List, [], ◌∷◌, ◌++◌, length, length-append, refl, ap, arith}
use Rattle.std.specs.Prelude.{ℤ, Option, Some, None, codes}
use Rattle.geom_core.specs.declared.color.Argb.{Argb}
use Rattle.geom_core.specs.declared.geometry.Rect.{Rect}
use Rattle.hex.specs.Hex.{encode_lower}
use Rattle.pixel_raster.specs.Bytes.{digest_of}
use Rattle.pixel_raster.specs.Raster.{Raster}
use Rattle.text_lines.specs.Joined.{◌⧺◌, texts_of}
use Rattle.view_model.specs.Forest.{Forest, Nothing, Branch}
use Rattle.view_model.specs.Geometry.{Laid, rect_in}
use Rattle.view_tree.specs.Rows.{Row}
use Rattle.view_tree.specs.Views.{Held, Views, class_of, geometry_of, held_of, number_of, offset_of, plain_rows}
use Rattle.touch_dispatch.specs.declared.log.Entry.{Entry}
use Rattle.world_replies.specs.Deliveries.{done_text, entries_text}
use Rattle.world_replies.specs.Replies.{bounds_line, framed_text, inflated_text, pixel_text, pixels_text, row_text, separator, texts_below}
use Rattle.world_replies.specs.Responses.{IsReportable, color_of, is_nothing, response_text}
use Rattle.world_replies.specs.Bounds.{bounds_text, printed_offset}
use Rattle.world_replies.specs.declared.response.Response.{Response}
use Rattle.world_replies.specs.declared.response.Response.TheVariants as response

ends-some : (before row : List ℕ) → before ++ (row ++ codes "\n") ≢ []
ends-some before row e = absurd (omega (arith, ap length e, length-append before (row ++ codes "\n"), length-append row (codes "\n")))

line-some : (number : ℕ) (offset : Option ℤ) (rect : Option Rect) → bounds_line number offset rect ≢ []
unfolding ◌⧺◌
line-some number offset rect e = absurd cc

bounds-some : (geometry : List Laid) (held : ℕ → Held) (tree : Forest Row) → tree ≢ Nothing → bounds_text geometry (plain_rows held tree) ≢ []
unfolding ◌⧺◌
bounds-some geometry held Nothing some e = some refl
bounds-some geometry held (Branch row kids siblings) some e = absurd cc

rows-some : (color : ℕ → ℕ → Argb) (width height : ℕ) → pixels_text color width (suc height) ≢ []
unfolding ◌⧺◌
rows-some color width height e = ends-some (texts_below (λ row. row_text (λ column. color column row) width) height) (texts_below (λ column. separator column ⧺ pixel_text (color column height)) width) e

pixels-some : (color : ℕ → ℕ → Argb) (width height : ℕ) → 0 < height → pixels_text color width height ≢ []
pixels-some color width zero some e = absurd (omega (arith, some))
pixels-some color width (suc height) some e = rows-some color width height e

entries-some : (entries : List Entry) → entries ≢ [] → entries_text entries ≢ []
unfolding ◌⧺◌ texts_of
entries-some [] some e = some refl
entries-some (entry ∷ entries) some e = absurd cc

done-some : (before : List ℕ) (yes_ : Bool) → before ++ done_text yes_ ≢ []
unfolding ◌⧺◌
done-some [] yes_ e = absurd cc
done-some (b ∷ before) yes_ e = absurd cc

framed-some : (settled : Bool) (fired : ℕ) → framed_text settled fired ≢ []
unfolding ◌⧺◌
framed-some true fired e = absurd cc
framed-some false fired e = absurd cc

-- a response without a text prints nothing
pub nothing_reported : (views : Views) (surface : Raster) (reported : List Entry) (saved : List ℕ) (response : Response) → IsReportable views surface reported saved response → response_text views surface reported saved response ≡ [] → is_nothing response ≡ true
unfolding ◌⧺◌ inflated_text
nothing_reported views surface reported saved response.Nothing reportable e = refl
nothing_reported views surface reported saved (response.Made number) reportable e = absurd cc
nothing_reported views surface reported saved (response.Inflated first last ignored) reportable e = absurd cc
nothing_reported views surface reported saved (response.Framed settled fired) reportable e = absurd (framed-some settled fired e)
nothing_reported views surface reported saved (response.Bounds None) reportable e = absurd (bounds-some (geometry_of views) (held_of views) views.tree reportable e)
nothing_reported views surface reported saved (response.Bounds (Some view)) reportable e = absurd (line-some (number_of views view) (printed_offset (class_of views view) (offset_of views view)) (rect_in (geometry_of views) (number_of views view)) e)
nothing_reported views surface reported saved (response.Pixels part) reportable e = absurd (pixels-some (color_of surface part) part.width part.height reportable.some e)
nothing_reported views surface reported saved response.Digest reportable e = absurd (ends-some [] (encode_lower (digest_of surface.pixels)) e)
nothing_reported views surface reported saved (response.Deliveries None) reportable e = absurd (entries-some reported reportable e)
nothing_reported views surface reported saved (response.Deliveries (Some yes_)) reportable e = absurd (done-some (entries_text reported) yes_ e)
nothing_reported views surface reported saved response.State reportable e = absurd cc
