-- There is room for the marks of each open view that has none, whatever views are opened, closed and marked.
use Rattle.std.proofs.Common.{◌≡◌, ◌≢◌, ◌∙◌, ℕ, ◌+◌, ◌≤◌, arith, Bool, true, false, List, [], ◌∷◌, Option, Some, None, is_some, length, map, refl, sym, ap, subst, eqb-true, true≢false, inl, inr}
use Rattle.std.proofs.Math.Bool.{and-false, and-true}
use Rattle.std.specs.Prelude.{◌==◌, ◌&&◌, ◌||◌, not, if◌then◌else◌, nat_eq, Result, Ok, Err, OnOk, OnErr}
use Rattle.std.proofs.lemmas.List.{length-map}
use Rattle.std.proofs.lemmas.Bool.{cases_Bool, cases_eq, eq-eqb, ne_eqb}
use Rattle.touch_dispatch.specs.gesture.Kept.{HasRoom, is_among}
use Rattle.touch_dispatch.specs.declared.gesture.marks.Marks.{Marks}
use Rattle.touch_targets.specs.Seats.{Seat, is_open}

-- as many views are open
pub room_same : (old new : ℕ → Bool) (marks : ℕ → Option Marks) (room : ℕ) → HasRoom old marks room → ((view : ℕ) → new view ≡ old view) → HasRoom new marks room
room_same old new marks room has same = record {
  placed = λ view closed. has.placed view (sym (same view) ∙ closed);
  unmarked = has.unmarked;
  each = λ view there none. has.each view (sym (same view) ∙ there) none;
  fits = has.fits;
}

-- there is more room
room_more : (opened : ℕ → Bool) (was now : ℕ → Option Marks) (room more : ℕ) → HasRoom opened was room → ((view : ℕ) → now view ≡ was view) → room ≤ more → HasRoom opened now more
room_more opened was now room more has same less = record {
  placed = λ view closed. same view ∙ has.placed view closed;
  unmarked = has.unmarked;
  each = λ view there none. has.each view there (sym (same view) ∙ none);
  fits = omega (arith, less);
}

among_seats : (view : ℕ) (seats : List Seat) → is_among view (map (λ (s : Seat). s.view) seats) ≡ is_open seats view
among_seats view [] = refl
among_seats view (s ∷ seats) = ap (λ b. (s.view == view) || b) (among_seats view seats)

or_cases : (a b : Bool) → (a || b) ≡ false → a ≡ false
or_cases true b e = e
or_cases false b e = refl

or_swapped : (a b : Bool) → (a || b) ≡ true → (b || a) ≡ true
or_swapped true true e = refl
or_swapped true false e = refl
or_swapped false true e = refl
or_swapped false false e = e

eq_swapped : (a b : ℕ) → (a == b) ≡ (b == a)
eq_swapped a b = elim (cases_eq a b) [
  | inl e ↦ eq-eqb a b e ∙ sym (eq-eqb b a (sym e))
  | inr ne ↦ ne_eqb a b ne ∙ sym (ne_eqb b a (λ e. ne (sym e)))
]

-- one more view is open
room_opened : (seats : List Seat) (new : ℕ → Bool) (was now : ℕ → Option Marks) (room more view : ℕ) → HasRoom (is_open seats) was room
    → ((other : ℕ) → new other ≡ (is_open seats other || other == view)) → ((other : ℕ) → now other ≡ was other) → length seats + 1 ≤ more → HasRoom new now more
room_opened seats new was now room more view has opened same enough = record {
  placed = λ other closed. same other ∙ has.placed other (or_cases (is_open seats other) (other == view) (sym (opened other) ∙ closed));
  unmarked = view ∷ map (λ (s : Seat). s.view) seats;
  each = λ other there none.
      ap (λ b. b || is_among other (map (λ (s : Seat). s.view) seats)) (eq_swapped view other)
      ∙ ap (λ b. (other == view) || b) (among_seats other seats)
      ∙ or_swapped (is_open seats other) (other == view) (sym (opened other) ∙ there);
  fits = let count = length-map seats (λ (s : Seat). s.view) in omega (arith, count, enough);
}

-- a view is opened, or there was no memory
pub room_after : {A E : Type 0} (result : Result A E) (seats new : List Seat) (was now : ℕ → Option Marks) (room more view : ℕ) → HasRoom (is_open seats) was room
    → OnOk result ((other : ℕ) → is_open new other ≡ (is_open seats other || other == view)) → OnErr result (new ≡ seats)
    → ((other : ℕ) → now other ≡ was other) → length seats + 1 ≤ more → room ≤ more → HasRoom (is_open new) now more
room_after (Ok value) seats new was now room more view has opened unchanged same enough less = room_opened seats (is_open new) was now room more view has opened same enough
room_after (Err error) seats new was now room more view has opened unchanged same enough less =
    subst (λ s. HasRoom (is_open s) now more) (sym unchanged) (room_more (is_open seats) was now room more has same less)

-- a view is closed
pub room_closed : (old new : ℕ → Bool) (was now : ℕ → Option Marks) (room more view : ℕ) → HasRoom old was room
    → ((other : ℕ) → new other ≡ (old other && not (other == view))) → ((other : ℕ) → now other ≡ (if nat_eq view other then None else was other)) → room ≤ more
    → HasRoom new now more
room_closed old new was now room more view has opened forgot less = record {
  placed = λ other closed. elim (cases_eq view other) [
    | inl e ↦ forgot other ∙ rw (eq-eqb view other e) refl
    | inr ne ↦ forgot other ∙ rw (ne_eqb view other ne) (has.placed other (sym (others other ne) ∙ closed))
  ];
  unmarked = has.unmarked;
  each = λ other there none. elim (cases_eq view other) [
    | inl e ↦ absurd (true≢false (sym there ∙ itself other e))
    | inr ne ↦ has.each other (sym (others other ne) ∙ there) (sym (forgot other ∙ rw (ne_eqb view other ne) refl) ∙ none)
  ];
  fits = omega (arith, less);
}
  where
    others : (other : ℕ) → view ≢ other → new other ≡ old other
    others other ne = opened other ∙ ap (λ b. old other && not b) (ne_eqb other view (λ e. ne (sym e))) ∙ and-true (old other)

    itself : (other : ℕ) → view ≡ other → new other ≡ false
    itself other e = opened other ∙ ap (λ b. old other && not b) (eq-eqb other view (sym e)) ∙ and-false (old other)

without : ℕ → List ℕ → List ℕ
without view [] = []
without view (v ∷ views) = if v == view then without view views else v ∷ without view views

without_length : (view : ℕ) (views : List ℕ) → length (without view views) ≤ length views
unfolding without
without_length view [] = omega arith
without_length view (v ∷ views) =
    let rest = without_length view views in
    elim (cases_Bool (v == view)) [ inl e ↦ rw e (omega (arith, rest)) | inr e ↦ rw e (omega (arith, rest)) ]

-- what is among some views is counted
without_fewer : (view : ℕ) (views : List ℕ) → is_among view views ≡ true → length (without view views) + 1 ≤ length views
unfolding without
without_fewer view [] there = absurd (cc)
without_fewer view (v ∷ views) there =
    elim (cases_Bool (v == view)) [
      | inl e ↦ let rest = without_length view views in rw e (omega (arith, rest))
      | inr e ↦ let rest = without_fewer view views (rw e at there) in rw e (omega (arith, rest))
    ]

without_other : (view other : ℕ) (views : List ℕ) → view ≢ other → is_among other (without view views) ≡ is_among other views
unfolding without
without_other view other [] ne = refl
without_other view other (v ∷ views) ne =
    elim (cases_Bool (v == view)) [
      | inl e ↦ rw (e, ne_eqb v other (λ is. ne (sym (eqb-true v view e) ∙ is))) (without_other view other views ne)
      | inr e ↦ rw e (ap (λ b. (v == other) || b) (without_other view other views ne))
    ]

-- an open view gets marks
pub room_marked : (opened : ℕ → Bool) (was now : ℕ → Option Marks) (room left view : ℕ) (new : Marks) → opened view ≡ true → HasRoom opened was room
    → ((other : ℕ) → now other ≡ (if nat_eq view other then Some new else was other)) → room ≤ left + (if is_some (was view) then 0 else 1)
    → HasRoom opened now left
room_marked opened was now room left view new there has marks less = record {
  placed = λ other closed. let ne : view ≢ other = λ e. true≢false (sym there ∙ ap opened e ∙ closed) in
      marks other ∙ rw (ne_eqb view other ne) (has.placed other closed);
  unmarked = without view has.unmarked;
  each = λ other there_too none. elim (cases_eq view other) [
    | inl e ↦ let some : now other ≡ Some new = marks other ∙ rw (eq-eqb view other e) refl in absurd (cc)
    | inr ne ↦ without_other view other has.unmarked ne ∙ has.each other there_too (sym (marks other ∙ rw (ne_eqb view other ne) refl) ∙ none)
  ];
  fits = fits (was view) refl less;
}
  where
    fits : (m : Option Marks) → was view ≡ m → room ≤ left + (if is_some m then 0 else 1) → length (without view has.unmarked) ≤ left
    fits None is less = let fewer = without_fewer view has.unmarked (has.each view there is) in let enough = has.fits in omega (arith, fewer, enough, less)
    fits (Some m) is less = let fewer = without_length view has.unmarked in let enough = has.fits in omega (arith, fewer, enough, less)
