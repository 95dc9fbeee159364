-- Weights of floats that are too large or too small to count.
use Rattle.std.proofs.Common.{◌≡◌, ℕ, suc, ◌+◌, ◌*◌, ◌-◌, ◌^◌, ◌<◌, ◌≤◌, Bool, Some, refl, ◌∙◌, ap, arith, true, false}
use Rattle.std.proofs.lemmas.Bool.{lt-ltb, le-ltb}
use Rattle.std.proofs.lemmas.Nat.{pow_below}
use Rattle.std.proofs.Math.Pow.{pow_mono}
use Rattle.std.proofs.Math.Nat.{div-eq_of_lt, pow-succ'}
use Rattle.view_model.specs.Dimensions.{weight_in_bounds, weight_near}

twice_or_more : (a p : ℕ) → 2 ≤ p → a * 2 ≤ a * p
twice_or_more a p more = grind arith

pub weight_high : (f e : ℕ) → 142 < e → 16776960 < weight_near f e
unfolding weight_near
weight_high f e high =
    let p : 2 ^ 0 < 2 ^ (e - 142) = pow_below 0 (e - 142) (omega arith) in
    let t = twice_or_more (2 ^ 23 + f) (2 ^ (e - 142)) (omega arith) in
    rw (lt-ltb 142 e high) (omega arith)

pub weight_low : (f e : ℕ) → f < 8388608 → e < 110 → weight_near f e ≡ 0
unfolding weight_near
weight_low f e few low =
    let few_bits : 25 ≤ 142 - e = omega arith in
    let a : 2 ^ 25 ≤ 2 ^ (142 - e) = pow_mono {i = 25} {j = 142 - e} few_bits in
    let k : 143 - e ≡ suc (142 - e) = omega arith in
    let b : 2 ^ (143 - e) ≡ 2 * 2 ^ (142 - e) = ap (λ n. 2 ^ n) k ∙ pow-succ' 2 (142 - e) in
    rw (le-ltb 142 e (omega arith)) (div-eq_of_lt {n = 2 * (2 ^ 23 + f) + 2 ^ (142 - e)} {m = 2 ^ (143 - e)} (omega arith))

pub zero_in_bounds : (negative : Bool) → weight_in_bounds negative 0 ≡ Some 0
zero_in_bounds true = refl
zero_in_bounds false = refl
