-- How large a share can be, and what it leaves.
use Rattle.std.proofs.Common.{◌≡◌, ℕ, suc, zero, ◌≤◌, ◌*◌, ◌+◌, ◌/◌, ℤ, pos, negsuc, ◌*ℤ◌, ◌-ℤ◌, ◌≤ℤ◌, ◌<ℤ◌, neg_ℤ, int_div, int_lt, unsigned_abs, true, false, arith, refl}
use Rattle.std.proofs.lemmas.Int.{ints, unsigned_abs-mul}
use Rattle.std.proofs.Math.Nat.{div-le_of_le-mul, div-le_self, mul-le-mul_left}
use Rattle.view_model.specs.LinearLayout.{share}

abs-neg : (n : ℕ) → unsigned_abs (neg_ℤ (pos n)) ≡ n
abs-neg zero = refl
abs-neg (suc n) = refl

-- a quotient by a number above 0 is no larger than what was divided
pub abs-int_div : (x : ℤ) (s : ℕ) → unsigned_abs (int_div x (pos s)) ≡ unsigned_abs x / s
abs-int_div (pos n) s = refl
abs-int_div (negsuc n) s = abs-neg (suc n / s)

div-neg : (m s : ℕ) → int_div (neg_ℤ (pos m)) (pos (suc s)) ≡ neg_ℤ (pos (m / suc s))
div-neg zero s = let z : 0 / suc s ≡ 0 = omega (arith, div-le_self 0 (suc s)) in rw z refl
div-neg (suc m) s = refl

abs-diff : (n q : ℕ) → q ≤ n → unsigned_abs (pos n -ℤ pos q) ≤ n
abs-diff n q h = omega (arith, ints)

abs-diff_neg : (n q : ℕ) → q ≤ n → unsigned_abs (neg_ℤ (pos n) -ℤ neg_ℤ (pos q)) ≤ n
abs-diff_neg n q h = omega (arith, ints)

part : (w n s : ℕ) → w ≤ s → w * n / s ≤ n
part w n s h = div-le_of_le-mul s (grind arith)

share-all : (s : ℕ) (d : ℤ) (w : ℕ) → share (pos (suc s)) d w ≡ int_div (pos w *ℤ d) (pos (suc s))
unfolding share
share-all s d w = let e : int_lt (pos 0) (pos (suc s)) ≡ true = grind (arith, ints) in rw e refl

share-none : (d : ℤ) (w : ℕ) → share (pos 0) d w ≡ pos 0
unfolding share
share-none d w = refl

share-below : (s : ℕ) (d : ℤ) (w : ℕ) → share (negsuc s) d w ≡ pos 0
unfolding share
share-below s d w = refl

-- a share of no more than the whole leaves no more than was there
pub share_leaves : (s d : ℤ) (w b : ℕ) → pos w ≤ℤ s → unsigned_abs d ≤ b → unsigned_abs (d -ℤ share s d w) ≤ b
share_leaves (negsuc s) d w b h k = rw share-below (omega (arith, ints))
share_leaves (pos zero) d w b h k = rw share-none (omega (arith, ints))
share_leaves (pos (suc s)) (pos n) w b h k = rw share-all (omega (arith, abs-diff n (w * n / suc s) (part w n (suc s) (omega (arith, ints)))))
share_leaves (pos (suc s)) (negsuc n) w b h k = rw (share-all, div-neg) (omega (arith, abs-diff_neg (suc n) (w * suc n / suc s) (part w (suc n) (suc s) (omega (arith, ints)))))

-- a share is not above the weight times what is left
pub share_range : (s d : ℤ) (w : ℕ) → unsigned_abs (share s d w) ≤ w * unsigned_abs d
share_range (negsuc s) d w = rw share-below (omega arith)
share_range (pos zero) d w = rw share-none (omega arith)
share_range (pos (suc s)) d w = rw (share-all, abs-int_div, unsigned_abs-mul) (div-le_self (w * unsigned_abs d) (suc s))

pub share-above : (s d : ℤ) (w : ℕ) → pos 0 <ℤ s → share s d w ≡ int_div (pos w *ℤ d) s
unfolding share
share-above s d w h = let e : int_lt (pos 0) s ≡ true = grind (arith, ints) in rw e refl

-- what is left after a share, if a share was given out at all
pub rest_near : (s d : ℤ) (w b : ℕ) → (pos 0 <ℤ s → unsigned_abs d ≤ b) → pos 0 <ℤ (s -ℤ pos w) → unsigned_abs (d -ℤ share s d w) ≤ b
rest_near s d w b near h = share_leaves s d w b (omega (arith, ints)) (near (omega (arith, ints)))

pub share_fits : (s d : ℤ) (w b : ℕ) → (pos 0 <ℤ s → unsigned_abs d ≤ b) → unsigned_abs (share s d w) ≤ w * b
share_fits (negsuc s) d w b near = rw share-below (omega arith)
share_fits (pos zero) d w b near = rw share-none (omega arith)
share_fits (pos (suc s)) d w b near =
    let n : unsigned_abs d ≤ b = near (omega (arith, ints)) in
    let r : unsigned_abs (share (pos (suc s)) d w) ≤ w * unsigned_abs d = share_range (pos (suc s)) d w in
    omega (arith, mul-le-mul_left w n)

pub rest_far : (s d : ℤ) (w b far : ℕ) → (pos 0 <ℤ s → unsigned_abs d ≤ b) → unsigned_abs d ≤ far → b + w * b ≤ far → unsigned_abs (d -ℤ share s d w) ≤ far
rest_far (negsuc s) d w b far near k h = rw share-below (omega (arith, ints))
rest_far (pos zero) d w b far near k h = rw share-none (omega (arith, ints))
rest_far (pos (suc s)) d w b far near k h =
    let n : unsigned_abs d ≤ b = near (omega (arith, ints)) in
    let r : unsigned_abs (share (pos (suc s)) d w) ≤ w * b = share_fits (pos (suc s)) d w b near in
    omega (arith, ints)

pub share-at_most : (s d : ℤ) (w : ℕ) → s ≤ℤ pos 0 → share s d w ≡ pos 0
unfolding share
share-at_most s d w h = let e : int_lt (pos 0) s ≡ false = grind (arith, ints) in rw e refl
