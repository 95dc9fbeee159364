-- Sets of pointers, and the numbers that represent them.
use Rattle.std.proofs.Common.{◌≡◌, ℕ, zero, suc, ◌<◌, ◌≤◌, ◌+◌, ◌-◌, ◌^◌, true, false, Bool, min, max, refl, sym, ◌∙◌, ap, inl, inr, arith}
use mathlib.Core.Path.{fun_ext}
use Rattle.std.proofs.Math.Bool.{and-false}
use Rattle.std.specs.Prelude.{◌==◌, ◌&&◌, ◌||◌, not}
use Rattle.std.specs.Int.{bit_at, w32}
use Rattle.std.specs.List.{list_any, range_with_len}
use Rattle.std.proofs.lemmas.Bool.{cases_Bool, cases_eq, cases_lt, ne_eqb}
use Rattle.std.proofs.lemmas.Nat.{and_le_r}
use Rattle.std.proofs.lemmas.Nat.Bits.{bit_at-lt, bit_at-zero, bit_at_above, bit_at_and, bit_at_not, bit_at_ones, bit_at_or, same_from_bits_below}
use Rattle.touch_event.specs.PointerSets.{has_id}
use Rattle.touch_targets.specs.Captures.{has_any}
use Rattle.touch_targets.specs.Seats.{mask_with, mask_without}
use Rattle.touch_targets.proofs.chains.Chains.{true_not_false}

bit_with : (a b : ℕ) → a < 2 → b < 2 → (max a b == 1) ≡ ((a == 1) || (b == 1))
bit_with zero zero p q = refl
bit_with zero (suc zero) p q = refl
bit_with (suc zero) zero p q = refl
bit_with (suc zero) (suc zero) p q = refl
bit_with zero (suc (suc b)) p q = absurd (omega (arith, q))
bit_with (suc zero) (suc (suc b)) p q = absurd (omega (arith, q))
bit_with (suc (suc a)) b p q = absurd (omega (arith, p))

bit_without : (a b : ℕ) → a < 2 → b < 2 → (min a (1 - b) == 1) ≡ ((a == 1) && not (b == 1))
bit_without zero zero p q = refl
bit_without zero (suc zero) p q = refl
bit_without (suc zero) zero p q = refl
bit_without (suc zero) (suc zero) p q = refl
bit_without zero (suc (suc b)) p q = absurd (omega (arith, q))
bit_without (suc zero) (suc (suc b)) p q = absurd (omega (arith, q))
bit_without (suc (suc a)) b p q = absurd (omega (arith, p))

pub has_with : (a b : ℕ) → has_id (mask_with a b) ≡ (λ id. has_id a id || has_id b id)
unfolding has_id mask_with
has_with a b = fun_ext (λ id. rw (bit_at_or a b id) (bit_with (bit_at a id) (bit_at b id) (bit_at-lt a id) (bit_at-lt b id)))

pub mask_without_fits : (a b : ℕ) → mask_without a b < 2 ^ 32
unfolding mask_without
mask_without_fits a b = omega (arith, and_le_r a (2 ^ 32 - 1 - b))

min_zero : (n : ℕ) → (min 0 n == 1) ≡ false
min_zero n = let none : min 0 n ≡ 0 = omega arith in rw none refl

pub has_without : (a b : ℕ) → a < 2 ^ 32 → b < 2 ^ 32 → has_id (mask_without a b) ≡ (λ id. has_id a id && not (has_id b id))
unfolding has_id mask_without
has_without a b fits fits_too = fun_ext (λ id. elim (cases_lt id 32) [
  | inl less ↦
      rw (bit_at_and a (2 ^ 32 - 1 - b) id, bit_at_not w32 b id fits_too less)
      (bit_without (bit_at a id) (bit_at b id) (bit_at-lt a id) (bit_at-lt b id))
  | inr more ↦ rw (bit_at_and a (2 ^ 32 - 1 - b) id, bit_at_above a 32 id fits more) (min_zero (bit_at (2 ^ 32 - 1 - b) id))
])

-- a set without an id below 32 is empty
any_false : (p : ℕ → Bool) (a n : ℕ) → list_any p (range_with_len a n) ≡ false → (i : ℕ) → a ≤ i → i < a + n → p i ≡ false
any_false p a zero none i low high = absurd (omega (arith, low, high))
any_false p a (suc n) none i low high =
    elim (cases_Bool (p a)) [
      | inl is ↦ true_not_false (rw is refl) none
      | inr is ↦
          elim (cases_eq i a) [
            | inl e ↦ ap p e ∙ is
            | inr ne ↦ any_false p (a + 1) n (rw is at none) i (omega (arith, low, ne)) (omega (arith, high))
          ]
    ]

none_of_zero : (a n : ℕ) → list_any (has_id 0) (range_with_len a n) ≡ false
unfolding has_id
none_of_zero a zero = refl
none_of_zero a (suc n) = rw (bit_at-zero a) (none_of_zero (a + 1) n)

zero_or : (n : ℕ) → n < 2 → (n == 1) ≡ false → n ≡ 0
zero_or zero less isnt = refl
zero_or (suc zero) less isnt = true_not_false refl isnt
zero_or (suc (suc n)) less isnt = absurd (omega (arith, less))

pub has_any_of : (m : ℕ) → m < 2 ^ 32 → has_any (has_id m) ≡ not (m == 0)
unfolding has_id
has_any_of m fits =
    elim (cases_eq m 0) [
      | inl e ↦ rw (e, none_of_zero 0 32) refl
      | inr ne ↦
          elim (cases_Bool (list_any (has_id m) (range_with_len 0 32))) [
            | inl is ↦ rw (is, ne_eqb m 0 ne) refl
            | inr is ↦
                absurd (ne (same_from_bits_below 32 m 0 fits (omega arith) (λ i less.
                zero_or (bit_at m i) (bit_at-lt m i) (any_false (has_id m) 0 32 is i (omega arith) less) ∙ sym (bit_at-zero i))))
          ]
    ]

has_ones : (i : ℕ) → i < 32 → has_id 4294967295 i ≡ true
unfolding has_id
has_ones i less = rw (bit_at_ones 32 i less) refl

-- without all pointers below 32 there is none left
pub none_left : (ids : ℕ → Bool) → has_any (λ id. ids id && not (has_id 4294967295 id)) ≡ false
none_left ids = go 0 32 (omega arith)
  where
    has_all : (i : ℕ) → i < 32 → has_id 4294967295 i ≡ true
    has_all i less = has_ones i less

    go : (a n : ℕ) → a + n ≤ 32 → list_any (λ id. ids id && not (has_id 4294967295 id)) (range_with_len a n) ≡ false
    go a zero within = refl
    go a (suc n) within = rw (has_all a (omega (arith, within)), and-false (ids a)) (go (a + 1) n (omega (arith, within)))
