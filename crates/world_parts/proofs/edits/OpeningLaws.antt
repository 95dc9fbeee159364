-- Places for views that are to be added: what they leave as it was.
use Rattle.std.proofs.Common.{◌≡◌, ◌≢◌, ◌∙◌, ℕ, zero, suc, ◌+◌, ◌≤◌, arith, Bool, true, false, refl, sym, ap, inl, inr}
use Rattle.std.specs.Prelude.{◌==◌, ◌||◌, Result, Ok, Err, OnOk}
use Rattle.std.specs.Result.{is_err}
use Rattle.std.proofs.lemmas.Bool.{cases_eq, eq-eqb, ne_eqb}
use Rattle.touch_dispatch.specs.gesture.Kept.{IsUnknown, Kept, gesture_of, is_open, with_place}
use Rattle.touch_targets.proofs.pools.SeatOrder.{opened_with, targets_with}
use Rattle.touch_targets.specs.Seats.{is_open as has_seat}
use Rattle.world_parts.specs.Places.{AreOpened, with_places}

or_right_false : (a b : Bool) → (a || b) ≡ false → a ≡ false
or_right_false true b h = h
or_right_false false b h = refl

-- a view of which nothing is kept once another has a place
pub unknown_still : (kept : Kept) (view other : ℕ) → other ≢ view → IsUnknown kept other → IsUnknown (with_place view kept) other
unknown_still kept view other apart unknown = record {
  seat = opened_with view kept.seats other ∙ rw (unknown.seat, ne_eqb other view apart) refl;
  marks = unknown.marks;
}

-- nor was anything before
pub unknown_before : (kept : Kept) (view other : ℕ) → IsUnknown (with_place view kept) other → IsUnknown kept other
unknown_before kept view other unknown = record {
  seat = or_right_false (has_seat kept.seats other) (other == view) (sym (opened_with view kept.seats other) ∙ unknown.seat);
  marks = unknown.marks;
}

pub unknown_above : (first count : ℕ) (kept : Kept) (other : ℕ) → first + count ≤ other → IsUnknown kept other → IsUnknown (with_places first count kept) other
unknown_above first zero kept other above unknown = unknown
unknown_above first (suc count) kept other above unknown =
    let apart : other ≢ first + count = λ e. absurd (omega (arith, e, above)) in
    unknown_still (with_places first count kept) (first + count) other apart (unknown_above first count kept other (omega (arith, above)) unknown)

pub unknown_first : (first count : ℕ) (kept : Kept) (other : ℕ) → IsUnknown (with_places first count kept) other → IsUnknown kept other
unknown_first first zero kept other unknown = unknown
unknown_first first (suc count) kept other unknown = unknown_first first count kept other (unknown_before (with_places first count kept) (first + count) other unknown)

-- a place is not a target
pub targets_places : (first count : ℕ) (kept : Kept) (group : ℕ) → (gesture_of (with_places first count kept)).targets group ≡ (gesture_of kept).targets group
targets_places first zero kept group = refl
targets_places first (suc count) kept group = targets_with (first + count) (with_places first count kept).seats group ∙ targets_places first count kept group

-- one more
pub opened_more : (first count : ℕ) (old kept new : Kept) → AreOpened first count old kept → ((other : ℕ) → is_open new other ≡ (is_open kept other || other == first + count))
    → AreOpened first (count + 1) old new
opened_more first count old kept new opened more = record {
  there = λ number from to.
      elim (cases_eq number (first + count)) [
        | inl e ↦ more number ∙ rw (eq-eqb number (first + count) e) (or_true (is_open kept number))
        | inr ne ↦ more number ∙ ap (λ b. b || number == first + count) (opened.there number from (omega (arith, to, ne)))
      ];
  below = λ number less. still number (λ e. absurd (omega (arith, e, less))) ∙ opened.below number less;
  above = λ number above. still number (λ e. absurd (omega (arith, e, above))) ∙ opened.above number (omega (arith, above));
}
  where
    or_true : (b : Bool) → (b || true) ≡ true
    or_true true = refl
    or_true false = refl

    or_false : (b : Bool) → (b || false) ≡ b
    or_false true = refl
    or_false false = refl

    still : (number : ℕ) → number ≢ first + count → is_open new number ≡ is_open kept number
    still number apart = more number ∙ rw (ne_eqb number (first + count) apart) (or_false (is_open kept number))

-- what a call ensures if it has not failed
pub done : {A E : Type 0} (P : Type 0) (result : Result A E) → false ≡ is_err result → OnOk result P → P
done P (Ok value) ok h = h
done P (Err error) ok h = absurd (cc)
