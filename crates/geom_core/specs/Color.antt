-- Colours, and what is seen where one is painted over another. A channel is a number of 0..255.
use Rattle.std.specs.Prelude.{ℕ, ◌+◌, ◌-◌, ◌*◌, ◌/◌, ◌%◌}
use Rattle.geom_core.specs.declared.color.Argb.{Argb}

unfoldable pub alpha_of : Argb → ℕ
alpha_of color = color.0 / 0x100_0000

unfoldable pub red_of : Argb → ℕ
red_of color = color.0 / 0x1_0000 % 256

unfoldable pub green_of : Argb → ℕ
green_of color = color.0 / 0x100 % 256

unfoldable pub blue_of : Argb → ℕ
blue_of color = color.0 % 256

-- one channel of a colour with this alpha over the same channel of another one, rounded to the nearest number
unfoldable pub mixed : ℕ → ℕ → ℕ → ℕ
mixed alpha over under = (over * alpha + under * (255 - alpha) + 127) / 255

-- the colour of these channels with the alpha 255
unfoldable pub opaque_of : ℕ → ℕ → ℕ → Argb
opaque_of red green blue = record { 0 = 0xff00_0000 + red * 0x1_0000 + green * 0x100 + blue }

-- what is seen of a colour over another one
unfoldable pub blend_of : Argb → Argb → Argb
blend_of over under =
    let mix = mixed (alpha_of over) in
    opaque_of (mix (red_of over) (red_of under)) (mix (green_of over) (green_of under))
    (mix (blue_of over) (blue_of under))
