-- The numbers that represent one pointer and all of them.
use Rattle.std.proofs.Common.{◌≡◌, ℕ, ◌*◌, ◌%◌, ◌<◌, ◌≤◌, ◌-◌, ◌^◌, true, false, refl, sym, arith, inl, inr}
use mathlib.Core.Path.{fun_ext}
use Rattle.std.specs.Prelude.{nat_lt}
use Rattle.std.proofs.lemmas.Bool.{cases_eq, cases_lt, eq-eqb, ne_eqb}
use Rattle.std.proofs.lemmas.Nat.{one_shl}
use Rattle.std.proofs.lemmas.Nat.Bits.{bit_at-pow_other, bit_at-pow_same, bit_at_ones, bit_at_ones_above}
use Rattle.touch_dispatch.specs.Dispatch.{every, only}
use Rattle.touch_event.specs.PointerSets.{has_id}

-- the number of one pointer
pub bit_only : (id : ℕ) → has_id (2 ^ id) ≡ only id
unfolding has_id
bit_only id = fun_ext (λ k. elim (cases_eq k id) [
  | inl e ↦ rw (e, bit_at-pow_same id) (sym (eq-eqb id id refl))
  | inr ne ↦ rw (bit_at-pow_other id k ne) (sym (ne_eqb k id ne))
])

-- that of all pointers
pub all_every : has_id (2 ^ 32 - 1) ≡ every
unfolding has_id
all_every = fun_ext (λ k. elim (cases_lt k 32) [
  | inl less ↦ rw (bit_at_ones 32 k less) (sym (lt_yes k less))
  | inr more ↦ rw (bit_at_ones_above 32 k more) (sym (lt_no k more))
])
  where
    lt_yes : (k : ℕ) → k < 32 → nat_lt k 32 ≡ true
    lt_yes k less = grind (arith)

    lt_no : (k : ℕ) → 32 ≤ k → nat_lt k 32 ≡ false
    lt_no k more = grind (arith)

pub bit_small : (id : ℕ) → id < 32 → 1 * (2 ^ id) % 4294967296 ≡ 2 ^ id
bit_small id less = one_shl id 32 less
