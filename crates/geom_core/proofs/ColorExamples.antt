-- What is seen of colours over others, by computation.
use Rattle.std.specs.Prelude.{◌≡◌, ℕ, refl}
use Rattle.geom_core.specs.declared.color.Argb.{Argb}
use Rattle.geom_core.specs.Color.{alpha_of, blend_of, blue_of, green_of, mixed, opaque_of, red_of}
use Rattle.geom_core.specs.Numbers.{unpainted}

abbrev color : ℕ → Argb
color number = record { 0 = number }

-- an alpha of 128 takes 128 of 255 parts
half_of_red : blend_of (color 0x80ff_0000) unpainted ≡ color 0xff80_0000
unfolding alpha_of red_of green_of blue_of mixed opaque_of blend_of
half_of_red = refl

green_over_that : blend_of (color 0x8000_ff00) (color 0xff80_0000) ≡ color 0xff40_8000
unfolding alpha_of red_of green_of blue_of mixed opaque_of blend_of
green_over_that = refl

red_over_blue : blend_of (color 0x80ff_0000) (color 0xff00_00ff) ≡ color 0xff80_007f
unfolding alpha_of red_of green_of blue_of mixed opaque_of blend_of
red_over_blue = refl

-- the least alpha of the brightest colour gives one step, and that of a darker one is lost
least_alpha : blend_of (color 0x01ff_7f80) unpainted ≡ color 0xff01_0001
unfolding alpha_of red_of green_of blue_of mixed opaque_of blend_of
least_alpha = refl

covers : blend_of (color 0xff61_6263) (color 0xff12_3456) ≡ color 0xff61_6263
unfolding alpha_of red_of green_of blue_of mixed opaque_of blend_of
covers = refl

covers_nothing : blend_of (color 0x00ff_ffff) (color 0xff12_3456) ≡ color 0xff12_3456
unfolding alpha_of red_of green_of blue_of mixed opaque_of blend_of
covers_nothing = refl

-- the alpha of what is below is not looked at
transparent_below : blend_of (color 0x00ff_ffff) (color 0x0012_3456) ≡ color 0xff12_3456
unfolding alpha_of red_of green_of blue_of mixed opaque_of blend_of
transparent_below = refl
