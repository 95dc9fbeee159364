use Rattle.std.proofs.Common.{◌<◌, ◌≤◌, ◌+◌, ◌*◌, ◌^◌, arith, ℕ}
use Rattle.std.proofs.Math.Nat.{pow-le-pow_right}
use Rattle.line_words.proofs.words.naming.read_hex.Goals as goal

-- one digit more has room
room : (n i d : ℕ) → n < 16 ^ i → i < 8 → d < 16 → 16 * n + d < 4294967296
room n i d h k e =
    let m : 16 ^ i ≤ 16 ^ 7 = pow-le-pow_right {n = 16} (omega arith) {i = i} {j = 7} (omega (arith, k)) in
    omega (arith, m, h, e)

pub overflow_mul-n : goal.overflow_mul-n
overflow_mul-n c = let h = room c.loop-d.n c.loop-d.d-index 0 c.loop-d.invariant.bound (omega arith) (omega arith) in omega arith

pub overflow_add-n : goal.overflow_add-n
overflow_add-n c =
    let small : c.in-Some.digit < 16 = grind arith in
    let h = room c.loop-d.n c.loop-d.d-index c.in-Some.digit c.loop-d.invariant.bound (omega arith) small in
    omega arith
