-- Worked words of layout files, by computation: the pixels and weights that they represent.
use Rattle.std.specs.Prelude.{◌≡◌, ◌+◌, ◌-◌, ◌*◌, ◌^◌, pos, negsuc, refl, Some, None}
use Rattle.view_model.specs.Dimensions.{mantissa, nearest, never_lost, pixels_in_bounds, px_of, radix, unit_of, weight_near, weight_of}

-- 16 dip at 160 and at 240 dots an inch
sixteen_dip : px_of 0x1001 160 ≡ Some (pos 16)
unfolding px_of mantissa radix unit_of nearest never_lost pixels_in_bounds
sixteen_dip = refl

sixteen_dip_at_240 : px_of 0x1001 240 ≡ Some (pos 24)
unfolding px_of mantissa radix unit_of nearest never_lost pixels_in_bounds
sixteen_dip_at_240 = refl

-- a third of a dip is 2796203 / 2^23: never 0, and 2 at 1000 dots an inch
third_at_40 : px_of (2796203 * 256 + 0x31) 40 ≡ Some (pos 1)
unfolding px_of mantissa radix unit_of nearest never_lost pixels_in_bounds
third_at_40 = refl

third_at_1000 : px_of (2796203 * 256 + 0x31) 1000 ≡ Some (pos 2)
unfolding px_of mantissa radix unit_of nearest never_lost pixels_in_bounds
third_at_1000 = refl

-- -1/128 px, and no px at all
hardly_below : px_of 0xffff_ff10 160 ≡ Some (negsuc 0)
unfolding px_of mantissa radix unit_of nearest never_lost pixels_in_bounds
hardly_below = refl

nothing : px_of 0x0011 160 ≡ Some (pos 0)
unfolding px_of mantissa radix unit_of nearest never_lost pixels_in_bounds
nothing = refl

-- a half is rounded up on both sides of 0: 1.5 px, and -1.5 px
half_up : px_of (192 * 256 + 0x10) 160 ≡ Some (pos 2)
unfolding px_of mantissa radix unit_of nearest never_lost pixels_in_bounds
half_up = refl

half_up_below : px_of ((0x100_0000 - 192) * 256 + 0x10) 160 ≡ Some (negsuc 0)
unfolding px_of mantissa radix unit_of nearest never_lost pixels_in_bounds
half_up_below = refl

-- one inch, one point and 127 millimetres at 160 dots an inch, and a unit that is not known
one_inch : px_of 0x0104 160 ≡ Some (pos 160)
unfolding px_of mantissa radix unit_of nearest never_lost pixels_in_bounds
one_inch = refl

one_point : px_of 0x0103 160 ≡ Some (pos 2)
unfolding px_of mantissa radix unit_of nearest never_lost pixels_in_bounds
one_point = refl

five_inches_in_millimetres : px_of 0x7f05 160 ≡ Some (pos 800)
unfolding px_of mantissa radix unit_of nearest never_lost pixels_in_bounds
five_inches_in_millimetres = refl

unknown_unit : px_of 0x0106 160 ≡ None
unfolding px_of mantissa radix unit_of nearest never_lost pixels_in_bounds
unknown_unit = refl

-- 2^30 pixels are not too many, and 2^30 and 2^14 are
greatest : px_of (2 ^ 16 * 256 + 4) (2 ^ 14) ≡ Some (pos (2 ^ 30))
unfolding px_of mantissa radix unit_of nearest never_lost pixels_in_bounds
greatest = refl

too_great : px_of ((2 ^ 16 + 1) * 256 + 4) (2 ^ 14) ≡ None
unfolding px_of mantissa radix unit_of nearest never_lost pixels_in_bounds
too_great = refl

-- 1.0, 0.5, 65535.0, and 65536.0, which is too much
one : weight_of 0x3f80_0000 ≡ Some 256
unfolding weight_of weight_near
one = refl

one_half : weight_of 0x3f00_0000 ≡ Some 128
unfolding weight_of weight_near
one_half = refl

greatest_weight : weight_of 0x477f_ff00 ≡ Some 16776960
unfolding weight_of weight_near
greatest_weight = refl

too_heavy : weight_of 0x4780_0000 ≡ None
unfolding weight_of weight_near
too_heavy = refl

-- 1/512 counts as 1/256, and the float just below it as 0
least_weight : weight_of 0x3b00_0000 ≡ Some 1
unfolding weight_of weight_near
least_weight = refl

below_the_least : weight_of 0x3aff_ffff ≡ Some 0
unfolding weight_of weight_near
below_the_least = refl

-- -1.0 is refused, and -0.0 is 0, as is a float below 0 that counts as 0; infinity is no weight
negative : weight_of 0xbf80_0000 ≡ None
unfolding weight_of weight_near
negative = refl

negative_zero : weight_of 0x8000_0000 ≡ Some 0
unfolding weight_of weight_near
negative_zero = refl

hardly_negative : weight_of 0xbaff_ffff ≡ Some 0
unfolding weight_of weight_near
hardly_negative = refl

infinite : weight_of 0x7f80_0000 ≡ None
unfolding weight_of weight_near
infinite = refl
