-- What a group has captured once a child has been put among it.
use Rattle.std.proofs.Common.{◌≡◌, ◌≢◌, ℕ, true, false, List, [], ◌∷◌, Some, None, map, refl, sym, ◌∙◌, ap, inl, inr}
use Rattle.std.specs.Prelude.{◌==◌, if◌then◌else◌}
use Rattle.std.proofs.lemmas.Bool.{cases_Bool, cases_eq, eq-eqb, ne_eqb}
use Rattle.slab.specs.Slab.{Slab, get}
use Rattle.touch_targets.specs.Nodes.{AreLinked, caught_at, caught_by, caught_in_slot, changed, has_slot, slots_by, view_at}
use Rattle.touch_targets.specs.Seats.{Caught, is_caught, mask_with, put_caught}
use Rattle.touch_targets.specs.declared.node.Node.{Node}
use Rattle.touch_targets.proofs.chains.Chains.{There, has_apart, has_first, has_later, map_same, some_is}
use Rattle.touch_targets.proofs.pools.Removing.{elsewhere, free_nowhere, is_caught_by, nodes_by}

put_new : (child ids : ℕ) (caught : List Caught) → is_caught child caught ≡ false → put_caught child ids caught ≡ record { child = child; ids = ids } ∷ caught
put_new child ids caught absent = rw absent refl

put_more : (child ids : ℕ) (caught : List Caught) → is_caught child caught ≡ true
    → put_caught child ids caught ≡ map (λ (c : Caught). if c.child == child then record c { ids = mask_with c.ids ids } else c) caught
put_more child ids caught present = rw present refl

-- a new target
pub caught_put_new : (s t : Slab Node) (group child ids : ℕ) (k : Node) → AreLinked s → get s child ≡ Some k → k.group ≡ None
    → ((x : ℕ) → caught_by t x ≡ (if x == group then caught_in_slot (get s child) ids ∷ caught_by s x else caught_by s x))
    → (x : ℕ) → caught_by t x ≡ (if x == group then put_caught (view_at s child) ids (caught_by s x) else caught_by s x)
caught_put_new s t group child ids k linked is free caught x =
    let absent : is_caught k.view (caught_by s x) ≡ false = is_caught_by s linked x child k is ∙ free_nowhere s linked x child k is free in
    let now = caught x in
    let put : caught_in_slot (get s child) ids ∷ caught_by s x ≡ put_caught (view_at s child) ids (caught_by s x) =
    ap (λ o. caught_in_slot o ids ∷ caught_by s x) is ∙ sym (put_new k.view ids (caught_by s x) absent)
    ∙ ap (λ o. put_caught (caught_at o).child ids (caught_by s x)) (sym is) in
    elim (cases_Bool (x == group)) [
      | inl here ↦ (rw here at now) ∙ rw here put
      | inr other ↦ (rw other at now) ∙ rw other refl
    ]

-- a target that was one before
module _ (s t : Slab Node) (child ids : ℕ) (k : Node) (linked : AreLinked s) (is : get s child ≡ Some k)
    (written : (x : ℕ) → get t x ≡ changed (get s) child (λ n. record n { ids = mask_with k.ids ids }) x) where
  more : (ps : List ℕ) → ((p : ℕ) → has_slot p ps ≡ true → There (get s p))
      → map (λ p. caught_at (get t p)) ps ≡ map (λ (c : Caught). if c.child == k.view then record c { ids = mask_with c.ids ids } else c) (map (λ p. caught_at (get s p)) ps)
  more [] nodes = refl
  more (p ∷ ps) nodes =
      let n = nodes p (has_first p ps) in
      let later = more ps (λ q has. nodes q (has_later p q ps has)) in
      elim (cases_eq p child) [
        | inl e ↦
            let same : n.value ≡ k = some_is (sym n.is ∙ ap (get s) e ∙ is) in
            rw (written p, eq-eqb p child e, n.is, same, eq-eqb k.view k.view refl) (ap (λ l. record { child = k.view; ids = mask_with k.ids ids } ∷ l) later)
        | inr ne ↦
            rw (written p, ne_eqb p child ne, n.is, ne_eqb n.value.view k.view (λ e. ne (linked.single p child n.value k n.is is e)))
            (ap (λ l. record { child = n.value.view; ids = n.value.ids } ∷ l) later)
      ]

  unlike : (p : ℕ) → p ≢ child → caught_at (get t p) ≡ caught_at (get s p)
  unlike p apart = rw (written p, ne_eqb p child apart) refl

pub caught_put_more : (s t : Slab Node) (group child ids : ℕ) (k : Node) → AreLinked s → get s child ≡ Some k → k.group ≡ Some group
    → ((x : ℕ) → get t x ≡ changed (get s) child (λ n. record n { ids = mask_with k.ids ids }) x)
    → ((x : ℕ) → slots_by t x ≡ slots_by s x)
    → (x : ℕ) → caught_by t x ≡ (if x == group then put_caught (view_at s child) ids (caught_by s x) else caught_by s x)
caught_put_more s t group child ids k linked is group_is written slots x =
    ap (map (λ p. caught_at (get t p))) (slots x)
    ∙ elim (cases_eq x group) [
      | inl e ↦
          let there : has_slot child (slots_by s x) ≡ true = ap (λ g. has_slot child (slots_by s g)) e ∙ (linked.member child group k is group_is).1 in
          let present : is_caught k.view (caught_by s x) ≡ true = is_caught_by s linked x child k is ∙ there in
          let put = sym (put_more k.view ids (caught_by s x) present) ∙ ap (λ o. put_caught (caught_at o).child ids (caught_by s x)) (sym is) in
          more s t child ids k linked is written (slots_by s x) (nodes_by s linked x) ∙ rw (eq-eqb x group e) put
      | inr ne ↦
          map_same (λ p. caught_at (get t p)) (λ p. caught_at (get s p)) (slots_by s x)
          (λ p has. unlike s t child ids k linked is written p (has_apart child p (slots_by s x) has (elsewhere s linked group x child k is group_is ne)))
          ∙ rw (ne_eqb x group ne) refl
    ]
