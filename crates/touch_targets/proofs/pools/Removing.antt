-- What groups have captured once a target is taken away.
use Rattle.std.proofs.Common.{◌≡◌, ◌≢◌, ℕ, true, false, List, [], ◌∷◌, Some, None, map, filter, refl, sym, ◌∙◌, ap, subst, inl, inr}
use Rattle.std.specs.Prelude.{◌==◌, not, if◌then◌else◌}
use Rattle.std.proofs.lemmas.Bool.{cases_Bool, cases_eq, eq-eqb, ne_eqb}
use Rattle.slab.specs.Slab.{Slab, get}
use Rattle.touch_targets.specs.Nodes.{AreLinked, caught_at, caught_by, has_slot, slots_by, view_of, without_caught, without_slot}
use Rattle.touch_targets.specs.Seats.{Caught, is_caught}
use Rattle.touch_targets.specs.declared.node.Node.{Node}
use Rattle.touch_targets.proofs.chains.Chains.{There, TargetOf, cases_Option, has_first, has_later, no_some, slots_none, some_is, target_in}
use Rattle.touch_targets.proofs.chains.Unlinking.{without_absent}

-- the targets of a group have nodes that name it
pub target_by : (s : Slab Node) → AreLinked s → (group p : ℕ) → has_slot p (slots_by s group) ≡ true → TargetOf group (get s p)
target_by s linked group p has =
    elim (cases_Option (get s group)) [
      | inl none ↦ absurd (no_slot p (subst (λ l. has_slot p l ≡ true) (slots_none s group none) has))
      | inr there ↦ target_in (get s) group there.value.newest (slots_by s group) p (linked.chained group there.value there.is) has
    ]
  where
    no_slot : (p : ℕ) → has_slot p [] ≢ true
    no_slot p h = absurd (cc)

-- a target of one group is none of another
pub elsewhere : (s : Slab Node) → AreLinked s → (group x child : ℕ) (k : Node) → get s child ≡ Some k → k.group ≡ Some group → x ≢ group → has_slot child (slots_by s x) ≡ false
elsewhere s linked group x child k is group_is apart =
    elim (cases_Bool (has_slot child (slots_by s x))) [
      | inl has ↦
          let t = target_by s linked x child has in
          absurd (apart (some_is (sym t.group ∙ ap (λ (n : Node). n.group) (some_is (sym t.is ∙ is)) ∙ group_is)))
      | inr lacks ↦ lacks
    ]

module _
    (s : Slab Node) (caught : ℕ → Caught) (child : ℕ) (k : Node)
    (single : (p : ℕ) (n : Node) → get s p ≡ Some n → n.view ≡ k.view → p ≡ child)
    (child_is : get s child ≡ Some k)
    (others : (p : ℕ) → p ≢ child → caught p ≡ caught_at (get s p)) where
  left : (ps : List ℕ) → ((p : ℕ) → has_slot p ps ≡ true → There (get s p))
      → map caught (without_slot child ps) ≡ filter (λ (c : Caught). not (c.child == k.view)) (map (λ p. caught_at (get s p)) ps)
  left [] nodes = refl
  left (p ∷ ps) nodes =
      let n = nodes p (has_first p ps) in
      let later = left ps (λ q has. nodes q (has_later p q ps has)) in
      elim (cases_eq p child) [
        | inl e ↦
            let view : n.value.view ≡ k.view = ap (λ (n : Node). n.view) (some_is (sym n.is ∙ ap (get s) e ∙ child_is)) in
            rw (eq-eqb p child e, n.is, eq-eqb n.value.view k.view view) later
        | inr ne ↦
            rw (ne_eqb p child ne, others p ne, n.is, ne_eqb n.value.view k.view (λ e. ne (single p n.value n.is e)))
            (ap (λ l. record { child = n.value.view; ids = n.value.ids } ∷ l) later)
      ]

pub caught_unlinked : (s t : Slab Node) (group child : ℕ) (k : Node) → AreLinked s → get s child ≡ Some k → k.group ≡ Some group
    → ((x : ℕ) → slots_by t x ≡ (if x == group then without_slot child (slots_by s x) else slots_by s x))
    → ((x : ℕ) → x ≢ child → caught_at (get t x) ≡ caught_at (get s x))
    → (x : ℕ) → caught_by t x ≡ without_caught (Some k.view) (caught_by s x)
caught_unlinked s t group child k linked is group_is slots others x =
    let now = slots x in
    let all : slots_by t x ≡ without_slot child (slots_by s x) =
    elim (cases_eq x group) [
      | inl e ↦ rw (eq-eqb x group e) at now
      | inr ne ↦ (rw (ne_eqb x group ne) at now) ∙ sym (without_absent child (slots_by s x) (elsewhere s linked group x child k is group_is ne))
    ] in
    ap (map (λ p. caught_at (get t p))) all
    ∙ left s (λ p. caught_at (get t p)) child k (λ p n h same. linked.single p child n k h is same) is others (slots_by s x)
    (λ p has. let t = target_by s linked x p has in record { value = t.node; is = t.is })

-- a view is captured if the slot of its node is among those of the targets
pub caught_iff : (s : Slab Node) → AreLinked s → (child : ℕ) (k : Node) → get s child ≡ Some k → (ps : List ℕ) → ((p : ℕ) → has_slot p ps ≡ true → There (get s p))
    → is_caught k.view (map (λ p. caught_at (get s p)) ps) ≡ has_slot child ps
caught_iff s linked child k is [] nodes = refl
caught_iff s linked child k is (p ∷ ps) nodes =
    let n = nodes p (has_first p ps) in
    let later = caught_iff s linked child k is ps (λ q has. nodes q (has_later p q ps has)) in
    elim (cases_eq p child) [
      | inl e ↦
          let view : n.value.view ≡ k.view = ap (λ (n : Node). n.view) (some_is (sym n.is ∙ ap (get s) e ∙ is)) in
          rw (n.is, eq-eqb n.value.view k.view view, eq-eqb child p (sym e)) refl
      | inr ne ↦
          rw (n.is, ne_eqb n.value.view k.view (λ e. ne (linked.single p child n.value k n.is is e)), ne_eqb child p (λ e. ne (sym e))) later
    ]

pub nodes_by : (s : Slab Node) → AreLinked s → (group p : ℕ) → has_slot p (slots_by s group) ≡ true → There (get s p)
nodes_by s linked group p has = let t = target_by s linked group p has in record { value = t.node; is = t.is }

pub is_caught_by : (s : Slab Node) → AreLinked s → (group child : ℕ) (k : Node) → get s child ≡ Some k → is_caught k.view (caught_by s group) ≡ has_slot child (slots_by s group)
is_caught_by s linked group child k is = caught_iff s linked child k is (slots_by s group) (nodes_by s linked group)

-- a view that is no target is in no group
pub free_nowhere : (s : Slab Node) → AreLinked s → (group child : ℕ) (k : Node) → get s child ≡ Some k → k.group ≡ None → has_slot child (slots_by s group) ≡ false
free_nowhere s linked group child k is free =
    elim (cases_Bool (has_slot child (slots_by s group))) [
      | inl has ↦ let t = target_by s linked group child has in no_some free (ap (λ (n : Node). n.group) (some_is (sym is ∙ t.is)) ∙ t.group)
      | inr lacks ↦ lacks
    ]

pub caught_free : (s : Slab Node) (child : ℕ) (k : Node) → AreLinked s → get s child ≡ Some k → k.group ≡ None → (x : ℕ) → caught_by s x ≡ without_caught (view_of (get s child)) (caught_by s x)
caught_free s child k linked is free x =
    sym (ap (map (λ p. caught_at (get s p))) (without_absent child (slots_by s x) (free_nowhere s linked x child k is free)))
    ∙ left s (λ p. caught_at (get s p)) child k (λ p n h same. linked.single p child n k h is same) is (λ p apart. refl) (slots_by s x) (nodes_by s linked x)
    ∙ ap (λ o. without_caught (view_of o) (caught_by s x)) (sym is)
