-- The bytes of pixels, red, green and blue of each, one after the other; and their digest.
use Rattle.std.specs.Prelude.{ℕ, List, ◌∷◌, []}
use Rattle.std.specs.List.{flat_map}
use Rattle.geom_core.specs.declared.color.Argb.{Argb}
use Rattle.sha2.specs.Sha256.{sha256}
use Rattle.geom_core.specs.Color.{blue_of, green_of, red_of}

abbrev pub rgb_of : Argb → List ℕ
rgb_of color = red_of color ∷ green_of color ∷ blue_of color ∷ []

abbrev pub bytes_of : List Argb → List ℕ
bytes_of pixels = flat_map rgb_of pixels

-- the digest of a picture
abbrev pub digest_of : List Argb → List ℕ
digest_of pixels = sha256 (bytes_of pixels)
