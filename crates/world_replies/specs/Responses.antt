-- What is printed for a line that was carried out.
use Rattle.std.specs.Prelude.{◌≢◌, Bool, true, false, List, [], ◌∷◌, ℕ, ◌+◌, ◌<◌, ◌≤◌, ◌^◌, ℤ, unsigned_abs, Option}
use Rattle.std.specs.Prelude.{Some, None}
use Rattle.geom_core.specs.declared.color.Argb.{Argb}
use Rattle.pixel_raster.specs.Bytes.{digest_of}
use Rattle.pixel_raster.specs.Raster.{Raster, color_at}
use Rattle.text_lines.specs.Joined.{◌⧺◌}
use Rattle.touch_dispatch.specs.declared.log.Entry.{Entry}
use Rattle.view_model.specs.Forest.{Nothing}
use Rattle.view_tree.specs.Views.{Views, IsLive, geometry_of, plain_of, view_at}
use Rattle.world_replies.specs.declared.pixels.Part.{Part}
use Rattle.world_replies.specs.declared.response.Response.{Response}
use Rattle.world_replies.specs.declared.response.Response.TheVariants as response
use Rattle.world_replies.specs.Deliveries.{done_text, entries_text}
use Rattle.world_replies.specs.Replies.{added_text, digest_text, framed_text, inflated_text, pixels_text}
use Rattle.world_replies.specs.Replies.{state_text}
use Rattle.world_replies.specs.Bounds.{bounds_of, bounds_text}
use Rattle.std.specs.Prelude.{◌+ℤ◌, int_le, ◌&&◌}
use Rattle.geom_core.specs.declared.geometry.Size.{Size}

-- the part that a line asks for
abbrev pub part_of : ℤ → ℤ → ℤ → ℤ → Part
part_of x y w h =
    record { left = unsigned_abs x; top = unsigned_abs y; width = unsigned_abs w; height = unsigned_abs h }

-- a part of a picture lies in it
pub record IsPartOf (surface : Raster) (part : Part) : Type 0 where
  pub some : 0 < part.height
  pub right : part.left + part.width ≤ surface.width
  pub bottom : part.top + part.height ≤ surface.height
  pub across : part.left + part.width < 2 ^ 31
  pub down : part.top + part.height < 2 ^ 31

-- the colour of a pixel of a part, counted from its corner
abbrev pub color_of : Raster → Part → ℕ → ℕ → Argb
color_of surface part column row = color_at surface (part.left + column) (part.top + row)

-- deliveries, and after those of an event what the root has said to it
abbrev pub deliveries_text : List Entry → Option Bool → List ℕ
deliveries_text entries None = entries_text entries
deliveries_text entries (Some yes_) = entries_text entries ⧺ done_text yes_

-- the text of a response, if these are the views, the picture, the deliveries and the saved bytes after the line
abbrev pub response_text : Views → Raster → List Entry → List ℕ → Response → List ℕ
response_text views surface reported saved response.Nothing = []
response_text views surface reported saved (response.Made number) = added_text number
response_text views surface reported saved (response.Inflated first last ignored) = inflated_text first last ignored
response_text views surface reported saved (response.Framed settled fired) = framed_text settled fired
response_text views surface reported saved (response.Bounds None) = bounds_text (geometry_of views) (plain_of views)
response_text views surface reported saved (response.Bounds (Some view)) =
    bounds_of (geometry_of views) (view_at views view)
response_text views surface reported saved (response.Pixels part) =
    pixels_text (color_of surface part) part.width part.height
response_text views surface reported saved (response.Deliveries said) = deliveries_text reported said
response_text views surface reported saved response.Digest = digest_text (digest_of surface.pixels)
response_text views surface reported saved response.State = state_text saved

-- the text of deliveries, if there are any
abbrev pub deliveries_only : List Entry → Response
deliveries_only [] = response.Nothing
deliveries_only (entry ∷ entries) = response.Deliveries None

-- whether there is nothing to print
abbrev pub is_nothing : Response → Bool
is_nothing response.Nothing = true
is_nothing (response.Made number) = false
is_nothing (response.Inflated first last ignored) = false
is_nothing (response.Framed settled fired) = false
is_nothing (response.Bounds view) = false
is_nothing (response.Pixels part) = false
is_nothing response.Digest = false
is_nothing (response.Deliveries said) = false
is_nothing response.State = false

-- what a response prints is there
abbrev pub IsReportable : Views → Raster → List Entry → List ℕ → Response → Type 0
IsReportable views surface reported saved response.Nothing = Unit {0}
IsReportable views surface reported saved (response.Made number) = Unit {0}
IsReportable views surface reported saved (response.Inflated first last ignored) = Unit {0}
IsReportable views surface reported saved (response.Framed settled fired) = Unit {0}
IsReportable views surface reported saved (response.Bounds None) = views.tree ≢ Nothing
IsReportable views surface reported saved (response.Bounds (Some view)) = IsLive views view
IsReportable views surface reported saved (response.Pixels part) = IsPartOf surface part
IsReportable views surface reported saved response.Digest = Unit {0}
IsReportable views surface reported saved (response.Deliveries None) = reported ≢ []
IsReportable views surface reported saved (response.Deliveries (Some yes_)) = Unit {0}
IsReportable views surface reported saved response.State = Unit {0}

-- whether a part of a picture is wholly in its window
unfoldable pub lies_in : Size → ℤ → ℤ → ℤ → ℤ → Bool
lies_in window x y w h = int_le (x +ℤ w) window.w && int_le (y +ℤ h) window.h
