-- The numbers of definitions: the limits of sizes and coordinates, the dimensions that are no number of pixels, and the
-- colour of a new window. The code names each of them once; `NumberLaws` says that its numbers are these.
use Rattle.std.specs.Prelude.{ℤ, pos, negsuc}
use Rattle.geom_core.specs.declared.color.Argb.{Argb}

-- the greatest side of a size, in pixels
abbrev pub max_side : ℤ
max_side = pos 16777215

-- the least and the greatest left or top edge, in pixels
abbrev pub min_coordinate : ℤ
min_coordinate = negsuc 268435455

abbrev pub max_coordinate : ℤ
max_coordinate = pos 268435456

-- the dimension of a view that wants to be as large as its parent
abbrev pub match_parent : ℤ
match_parent = negsuc 0

-- the dimension of a view that wants to be as large as its content
abbrev pub wrap_content : ℤ
wrap_content = negsuc 1

-- the colour of a pixel on which nothing was painted: an opaque black
abbrev pub unpainted : Argb
unpainted = record { 0 = 0xff00_0000 }
