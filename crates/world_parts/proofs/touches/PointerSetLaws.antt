-- The ids of pointers as a set.
use Rattle.std.proofs.Common.{◌≡◌, ◌∙◌, ℕ, ◌<◌, ◌*◌, ◌%◌, ◌^◌, ◌==◌, true, false, Bool, List, [], ◌∷◌, ◌++◌, refl, ap, sym, inl, inr, w32, bit_or}
use Rattle.std.specs.Prelude.{◌||◌}
use Rattle.std.specs.Int.{bit_at}
use Rattle.std.proofs.lemmas.Bool.{cases_Bool, cases_eq, eq-eqb, ne_eqb}
use Rattle.std.proofs.lemmas.Nat.Bits.{bit_at-zero, bit_at_set_same, bit_at_set_other}
use Rattle.touch_event.specs.PointerSets.{has_id}
use Rattle.touch_event.specs.declared.event.Point.{Point}
use Rattle.world_parts.specs.Pointers.{is_pressed}

-- no pointer is in the set of none
pub none_has : (id : ℕ) → has_id 0 id ≡ false
unfolding has_id
none_has id = rw (bit_at-zero id) refl

or_false : (b : Bool) → (b || false) ≡ b
or_false true = refl
or_false false = refl

or_true : (b : Bool) → (b || true) ≡ true
or_true true = refl
or_true false = refl

pressed_push : (id : ℕ) (points : List Point) (p : Point) → is_pressed id (points ++ p ∷ []) ≡ (is_pressed id points || (p.id == id))
pressed_push id [] p = elim (cases_Bool (p.id == id)) [ inl e ↦ rw e refl | inr e ↦ rw e refl ]
pressed_push id (q ∷ points) p = elim (cases_Bool (q.id == id)) [ inl e ↦ rw e refl | inr e ↦ rw e (pressed_push id points p) ]

-- one pointer more
pub set_one : (ids id : ℕ) (points : List Point) (p : Point) → p.id < 32 → has_id ids id ≡ is_pressed id points
    → has_id (bit_or ids (1 * 2 ^ p.id % 2 ^ 32)) id ≡ is_pressed id (points ++ p ∷ [])
unfolding has_id
set_one ids id points p small before = elim (cases_eq p.id id) [
  | inl e ↦ ap (λ (n : ℕ). bit_at (bit_or ids (1 * 2 ^ p.id % 2 ^ 32)) n == 1) (sym e) ∙ ap (λ (n : ℕ). n == 1) (bit_at_set_same w32 ids p.id small)
      ∙ sym (pressed_push id points p ∙ ap (λ (b : Bool). is_pressed id points || b) (eq-eqb p.id id e) ∙ or_true (is_pressed id points))
  | inr ne ↦ ap (λ (n : ℕ). n == 1) (bit_at_set_other w32 ids p.id small id (λ same. ne (sym same))) ∙ before
      ∙ sym (pressed_push id points p ∙ ap (λ (b : Bool). is_pressed id points || b) (ne_eqb p.id id ne) ∙ or_false (is_pressed id points))
]

-- where there are points, one is in their set
pub none_pressed : (points : List Point) → ((id : ℕ) → is_pressed id points ≡ false) → points ≡ []
none_pressed [] none = refl
none_pressed (p ∷ points) none = absurd (cc (let one = none p.id in rw (eq-eqb p.id p.id refl) at one))
