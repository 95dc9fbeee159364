-- Laws of colours: channels stay within a byte, what is seen is opaque, a colour that covers all is all that is seen,
-- and one that covers nothing leaves what is below it.
use Rattle.std.proofs.Common.{◌≡◌, ℕ, ◌+◌, ◌-◌, ◌*◌, ◌/◌, ◌%◌, ◌<◌, ◌≤◌, ◌^◌, arith, ap, mul-le-mul_right}
use Rattle.geom_core.specs.declared.color.Argb.{Argb}
use Rattle.geom_core.specs.Color.{alpha_of, blend_of, blue_of, green_of, mixed, opaque_of, red_of}

-- two shares of 255 of what is at most 255
shares : (alpha over under : ℕ) → alpha ≤ 255 → over ≤ 255 → under ≤ 255 → over * alpha + under * (255 - alpha) ≤ 255 * 255
shares alpha over under a o u =
    let x : over * alpha ≤ 255 * alpha = mul-le-mul_right alpha o in
    let y : under * (255 - alpha) ≤ 255 * (255 - alpha) = mul-le-mul_right (255 - alpha) u in
    omega arith

pub mix_fits : (alpha over under : ℕ) → alpha < 2 ^ 8 → over < 2 ^ 8 → under < 2 ^ 8 → (over * alpha + under * (255 - alpha) + 127) / 255 < 2 ^ 8
mix_fits alpha over under a o u =
    let s : over * alpha + under * (255 - alpha) ≤ 255 * 255 = shares alpha over under (omega arith) (omega arith) (omega arith) in
    omega arith

mixed-fits : (alpha over under : ℕ) → alpha < 2 ^ 8 → over < 2 ^ 8 → under < 2 ^ 8 → mixed alpha over under < 2 ^ 8
unfolding mixed
mixed-fits alpha over under a o u = mix_fits alpha over under a o u

mixed-covering : (over under : ℕ) → mixed 255 over under ≡ over
unfolding mixed
mixed-covering over under = omega arith

mixed-clear : (over under : ℕ) → mixed 0 over under ≡ under
unfolding mixed
mixed-clear over under = omega arith

-- an opaque colour is known by its channels
number_is : (n : ℕ) → n / 0x100_0000 ≡ 255 → 0xff00_0000 + n / 0x1_0000 % 256 * 0x1_0000 + n / 0x100 % 256 * 0x100 + n % 256 ≡ n
number_is n is = omega arith

opaque_of-channels : (color : Argb) → alpha_of color ≡ 255 → opaque_of (red_of color) (green_of color) (blue_of color) ≡ color
unfolding alpha_of red_of green_of blue_of opaque_of
opaque_of-channels color is = ap (λ (n : ℕ). let c : Argb = record { 0 = n } in c) (number_is color.0 is)

alpha_of-opaque_of : (red green blue : ℕ) → red < 2 ^ 8 → green < 2 ^ 8 → blue < 2 ^ 8 → alpha_of (opaque_of red green blue) ≡ 255
unfolding alpha_of opaque_of
alpha_of-opaque_of red green blue r g b = omega arith

pub record AreBytes (color : Argb) : Type 0 where
  pub red : red_of color < 2 ^ 8
  pub green : green_of color < 2 ^ 8
  pub blue : blue_of color < 2 ^ 8

pub channels : (color : Argb) → AreBytes color
unfolding red_of green_of blue_of
channels color = record { red = omega arith; green = omega arith; blue = omega arith }

alpha_of-fits : (color : Argb) → color.0 < 2 ^ 32 → alpha_of color < 2 ^ 8
unfolding alpha_of
alpha_of-fits color fits = omega arith

-- what is seen is opaque
pub alpha_of-blend_of : (over under : Argb) → over.0 < 2 ^ 32 → alpha_of (blend_of over under) ≡ 255
unfolding blend_of
alpha_of-blend_of over under fits =
    let alpha = alpha_of-fits over fits in
    let above = channels over in
    let below = channels under in
    alpha_of-opaque_of _ _ _
    (mixed-fits (alpha_of over) (red_of over) (red_of under) alpha above.red below.red)
    (mixed-fits (alpha_of over) (green_of over) (green_of under) alpha above.green below.green)
    (mixed-fits (alpha_of over) (blue_of over) (blue_of under) alpha above.blue below.blue)

-- an opaque colour is all that is seen
pub blend_of-covering : (over under : Argb) → alpha_of over ≡ 255 → blend_of over under ≡ over
unfolding blend_of
blend_of-covering over under is =
    rw (is, mixed-covering (red_of over) (red_of under), mixed-covering (green_of over) (green_of under), mixed-covering (blue_of over) (blue_of under))
    (opaque_of-channels over is)

-- a colour that covers nothing leaves an opaque one
pub blend_of-clear : (over under : Argb) → alpha_of over ≡ 0 → alpha_of under ≡ 255 → blend_of over under ≡ under
unfolding blend_of
blend_of-clear over under none is =
    rw (none, mixed-clear (red_of over) (red_of under), mixed-clear (green_of over) (green_of under), mixed-clear (blue_of over) (blue_of under))
    (opaque_of-channels under is)
