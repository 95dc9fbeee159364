-- What is read off a gesture once a view is closed, or has other marks.
use Rattle.std.proofs.Common.{◌≡◌, ◌∙◌, ℕ, [], None, refl, sym, ap, inl, inr}
use Rattle.std.specs.Prelude.{◌==◌, if◌then◌else◌, nat_eq}
use Rattle.std.proofs.lemmas.Bool.{cases_eq, eq-eqb, ne_eqb}
use Rattle.touch_dispatch.specs.gesture.Gestures.{closed}
use Rattle.touch_dispatch.specs.gesture.Kept.{Kept, gesture_of, marks_at, marks_of, marks_or, no_marks}
use Rattle.touch_dispatch.specs.declared.gesture.marks.Marks.{Marks}
use Rattle.touch_targets.specs.Captures.{without_child}
use Rattle.touch_targets.specs.Seats.{targets_of}

-- what is read off the marks of a view, once one of them is gone
read_gone : {A : Type 0} (read : Marks → A) (old new : Kept) (view : ℕ) → ((other : ℕ) → marks_at new other ≡ (if nat_eq view other then None else marks_at old other))
    → (other : ℕ) → read (marks_of new other) ≡ (if other == view then read no_marks else read (marks_of old other))
read_gone read old new view forgot other =
    elim (cases_eq view other) [
      | inl e ↦
          let marks : marks_at new other ≡ None = forgot other ∙ rw (eq-eqb view other e) refl in
          ap (λ m. read (marks_or m)) marks ∙ sym (rw (eq-eqb other view (sym e)) refl)
      | inr ne ↦
          let marks : marks_at new other ≡ marks_at old other = forgot other ∙ rw (ne_eqb view other ne) refl in
          ap (λ m. read (marks_or m)) marks ∙ sym (rw (ne_eqb other view (λ e. ne (sym e))) refl)
    ]

pub closed_gesture : (old new : Kept) (view : ℕ) → ((group : ℕ) → targets_of new.seats group ≡ (if group == view then [] else without_child view (targets_of old.seats group)))
    → ((other : ℕ) → marks_at new other ≡ (if nat_eq view other then None else marks_at old other)) → gesture_of new ≡ closed view (gesture_of old)
closed_gesture old new view targets forgot =
    let disallows = read_gone (λ (m : Marks). m.disallows) old new view forgot in
    let presses = read_gone (λ (m : Marks). m.pressed) old new view forgot in
    let drags = read_gone (λ (m : Marks). m.drag) old new view forgot in
    λ j. record { targets = λ group. targets group j; disallows = λ other. disallows other j; presses = λ other. presses other j; drags = λ other. drags other j }
