-- Channels that are mixed without a division, one by one and in pairs.
use Rattle.std.proofs.Common.{◌≡◌, ℕ, ◌+◌, ◌-◌, ◌*◌, ◌/◌, ◌%◌, ◌<◌, ◌≤◌, ◌^◌, arith, mul-le-mul_right, ap, ◌∙◌}
use Rattle.std.proofs.lemmas.Nat.{mul-le}
use Rattle.std.proofs.Math.Nat.{add-mul}
use Rattle.geom_core.specs.declared.color.Argb.{Argb}
use Rattle.geom_core.specs.Color.{blue_of, mixed, red_of}
use Rattle.geom_core.proofs.ColorLaws.{mix_fits, channels}
use Rattle.pixel_raster.specs.Shares.{part_of, share_of}

pub share_of-bound : (alpha over under : ℕ) → alpha < 2 ^ 8 → over < 2 ^ 8 → under < 2 ^ 8 → share_of alpha over under ≤ 65153
share_of-bound alpha over under a o u =
    let x : over * alpha ≤ 255 * alpha = mul-le-mul_right alpha (omega arith) in
    let y : under * (255 - alpha) ≤ 255 * (255 - alpha) = mul-le-mul_right (255 - alpha) (omega arith) in
    omega arith

rounded : (n : ℕ) → n ≤ 65025 → (n + 128 + (n + 128) / 256) / 256 ≡ (n + 127) / 255
rounded n le = omega arith

pub part_of-share : (alpha over under : ℕ) → alpha < 2 ^ 8 → over < 2 ^ 8 → under < 2 ^ 8 → part_of (share_of alpha over under) ≡ mixed alpha over under
unfolding mixed
part_of-share alpha over under a o u =
    let bound = share_of-bound alpha over under a o u in
    rounded (over * alpha + under * (255 - alpha)) (omega arith)

scaled : (m n k : ℕ) → (m * 65536 + n) * k ≡ m * k * 65536 + n * k
scaled m n k =
    let first : m * 65536 * k ≡ m * k * 65536 = omega arith in
    add-mul (m * 65536) n k ∙ ap (λ (z : ℕ). z + n * k) first

-- a pair of channels, or what is left of it, times a part of 255
pub pair-fits : (pair part : ℕ) → pair ≤ 16711935 → part ≤ 255 → pair * part ≤ 4261543425
pair-fits pair part p q = mul-le pair part 16711935 255 p q

pub pair_of-shares : (alpha ro bo ru bu : ℕ) → (ru * 65536 + bu) * (255 - alpha) + ((ro * 65536 + bo) * alpha + 8388736) ≡ share_of alpha ro ru * 65536 + share_of alpha bo bu
pair_of-shares alpha ro bo ru bu = rw (scaled ru bu (255 - alpha), scaled ro bo alpha) (omega arith)

mixed-bound : (alpha over under : ℕ) → alpha < 2 ^ 8 → over < 2 ^ 8 → under < 2 ^ 8 → mixed alpha over under ≤ 255
unfolding mixed
mixed-bound alpha over under a o u = let fits = mix_fits alpha over under a o u in omega arith

-- the result of a pair of shares
module _ (alpha : ℕ) (over under : Argb) (a : alpha < 2 ^ 8) where
  abbrev red_share : ℕ
  red_share = share_of alpha (red_of over) (red_of under)

  abbrev blue_share : ℕ
  blue_share = share_of alpha (blue_of over) (blue_of under)

  pub red-bound : red_share ≤ 65153
  red-bound = share_of-bound alpha (red_of over) (red_of under) a (channels over).red (channels under).red

  pub blue-bound : blue_share ≤ 65153
  blue-bound = share_of-bound alpha (blue_of over) (blue_of under) a (channels over).blue (channels under).blue

  pub upper : (pair : ℕ) → pair ≡ red_share * 65536 + blue_share → pair / 65536 ≡ red_share
  upper pair is = let b = blue-bound in omega arith

  pub lower : (pair : ℕ) → pair ≡ red_share * 65536 + blue_share → pair % 65536 ≡ blue_share
  lower pair is = let b = blue-bound in omega arith

  pub pair-seen : (pair result : ℕ) → pair ≡ red_share * 65536 + blue_share → result ≡ part_of (pair / 65536) * 65536 + part_of (pair % 65536)
      → result ≡ mixed alpha (red_of over) (red_of under) * 65536 + mixed alpha (blue_of over) (blue_of under)
  pair-seen pair result is parts =
      parts
      ∙ ap (λ (n : ℕ). part_of n * 65536 + part_of (pair % 65536)) (upper pair is)
      ∙ ap (λ (n : ℕ). part_of red_share * 65536 + part_of n) (lower pair is)
      ∙ ap (λ (n : ℕ). n * 65536 + part_of blue_share) (part_of-share alpha (red_of over) (red_of under) a (channels over).red (channels under).red)
      ∙ ap (λ (n : ℕ). mixed alpha (red_of over) (red_of under) * 65536 + n) (part_of-share alpha (blue_of over) (blue_of under) a (channels over).blue (channels under).blue)

  pub seen-bound : (result : ℕ) → result ≡ mixed alpha (red_of over) (red_of under) * 65536 + mixed alpha (blue_of over) (blue_of under) → result ≤ 16711935
  seen-bound result is =
      let red = mixed-bound alpha (red_of over) (red_of under) a (channels over).red (channels under).red in
      let blue = mixed-bound alpha (blue_of over) (blue_of under) a (channels over).blue (channels under).blue in
      omega arith
