-- The meaning of the words of dimensions and of floats in a layout file.
use Rattle.std.specs.Prelude.{ℕ, ◌+◌, ◌*◌, ◌-◌, ◌^◌, ◌/◌, ◌%◌, ◌==◌, ◌&&◌, ◌||◌, not, nat_lt, int_lt, ℤ, pos, negsuc}
use Rattle.std.specs.Prelude.{◌+ℤ◌, ◌*ℤ◌, Bool, Option, Some, None, if◌then◌else◌}
use Rattle.std.specs.Int.{int_div_euclid}
use Rattle.std.specs.Ordering.{int_eq}
use Rattle.view_model.specs.Numbers.{max_pixels, max_weight, min_pixels, normal_dpi}

-- what a unit is in pixels at this density, as a numerator and a denominator: px, dip, sp, pt, in, mm
unfoldable pub unit_of : ℕ → ℕ → Option (ℕ × ℕ)
unit_of dpi unit =
    if unit == 0 then Some (1, 1)
    else (if unit == 1 || unit == 2 then Some (dpi, normal_dpi)
    else (if unit == 3 then Some (dpi, 72)
    else (if unit == 4 then Some (dpi, 1)
    else (if unit == 5 then Some (5 * dpi, 127)
    else None))))

-- the mantissa of a dimension, in bits 8 to 31, signed
unfoldable pub mantissa : ℕ → ℤ
mantissa word = if nat_lt (word / 256) 0x80_0000 then pos (word / 256) else negsuc (0xff_ffff - word / 256)

-- what the mantissa is divided by, from bits 4 and 5
unfoldable pub radix : ℕ → ℕ
radix bits = if bits == 0 then 1 else (if bits == 1 then 2 ^ 7 else (if bits == 2 then 2 ^ 15 else 2 ^ 23))

-- an integer near x, but if that is 0 and x is not, 1 or -1 by the sign of x
unfoldable pub never_lost : ℤ → ℤ → ℤ
never_lost near x =
    if not (int_eq near (pos 0)) then near
    else (if int_eq x (pos 0) then near else (if int_lt x (pos 0) then negsuc 0 else pos 1))

-- x / d to the nearest integer, a half rounded up, and never 0 if x is not 0
unfoldable pub nearest : ℤ → ℕ → ℤ
nearest x d = never_lost (int_div_euclid (pos 2 *ℤ x +ℤ pos d) (pos 2 *ℤ pos d)) x

-- a number of pixels that is not too far from 0
unfoldable pub pixels_in_bounds : ℤ → Option ℤ
pixels_in_bounds n = if int_lt max_pixels n || int_lt n min_pixels then None else Some n

abbrev pub px_in : ℕ → Option (ℕ × ℕ) → Option ℤ
px_in word None = None
px_in word (Some unit) = pixels_in_bounds (nearest (mantissa word *ℤ pos unit.0) (radix (word / 16 % 4) * unit.1))

-- the pixels of a dimension's word at a density: its mantissa over its radix, in its unit
unfoldable pub px_of : ℕ → ℕ → Option ℤ
px_of word dpi = px_in word (unit_of dpi (word % 16))

-- 256ths of a float with this fraction and exponent, to the nearest, a half rounded up:
-- (2^23 + fraction) * 2^(exponent - 142)
unfoldable pub weight_near : ℕ → ℕ → ℕ
weight_near fraction exponent =
    if nat_lt 142 exponent then (2 ^ 23 + fraction) * 2 ^ (exponent - 142)
    else (2 * (2 ^ 23 + fraction) + 2 ^ (142 - exponent)) / 2 ^ (143 - exponent)

-- a weight is not negative, and not too large
abbrev pub weight_in_bounds : Bool → ℕ → Option ℕ
weight_in_bounds negative n = if nat_lt max_weight n || (negative && not (n == 0)) then None else Some n

-- the weight of a float's word, in 256ths: its sign in bit 31, its exponent in bits 23 to 30, its fraction below
unfoldable pub weight_of : ℕ → Option ℕ
weight_of word =
    let exponent = word / 2 ^ 23 % 256 in
    if exponent == 255 then None
    else (if exponent == 0 then Some 0
    else weight_in_bounds (word / 2 ^ 31 == 1) (weight_near (word % 2 ^ 23) exponent))
