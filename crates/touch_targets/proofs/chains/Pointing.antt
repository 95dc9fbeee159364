-- What nodes hold once a target has other pointers.
use Rattle.std.proofs.Common.{◌≡◌, ◌≢◌, ◌<◌, ◌^◌, ℕ, true, false, Bool, List, Option, Some, None, IsSome, option_map, refl, sym, ◌∙◌, ap, subst, inl, inr}
use Rattle.std.specs.Prelude.{◌==◌, if◌then◌else◌}
use Rattle.std.proofs.lemmas.Bool.{cases_eq, eq-eqb, ne_eqb}
use Rattle.slab.specs.Slab.{Slab, get}
use Rattle.touch_targets.specs.Nodes.{AreLinked, Chain, IsLinked, IsTarget, changed, slots_by}
use Rattle.touch_targets.specs.declared.node.Node.{Node}
use Rattle.touch_targets.proofs.chains.Chains.{Was, are_linked, cases_Option, chain_stays, slots_are, slots_none, there, was}

-- what a node holds then
abbrev pub node_pointed : ℕ → ℕ → ℕ → Node → Node
node_pointed slot ids x node = record node { ids = if x == slot then ids else node.ids }

one : (b : Bool) (ids : ℕ) (o : Option Node) → (if b then option_map (λ (n : Node). record n { ids = ids }) o else o) ≡ option_map (λ (n : Node). record n { ids = if b then ids else n.ids }) o
one true ids None = refl
one true ids (Some n) = refl
one false ids None = refl
one false ids (Some n) = refl

pub pointed_at : (s t : Slab Node) (slot ids : ℕ) → ((x : ℕ) → get t x ≡ changed (get s) slot (λ n. record n { ids = ids }) x)
    → (x : ℕ) → get t x ≡ option_map (node_pointed slot ids x) (get s x)
pointed_at s t slot ids h x = h x ∙ one (x == slot) ids (get s x)

pub target_there : (o : Option Node) → IsTarget o → IsSome o
target_there None h = absurd h
target_there (Some n) h = refl

target_is : (o : Option Node) (n : Node) → IsTarget o → o ≡ Some n → n.group ≢ None
target_is o n h e = subst IsTarget e h

module _
    (at new : ℕ → Option Node) (slots : ℕ → List ℕ) (slot ids : ℕ)
    (linked : IsLinked at slots)
    (target : IsTarget (at slot))
    (some : ids ≢ 0)
    (small : ids < 2 ^ 32)
    (written : (x : ℕ) → new x ≡ option_map (node_pointed slot ids x) (at x)) where
  now : (x : ℕ) (n : Node) → at x ≡ Some n → new x ≡ Some (node_pointed slot ids x n)
  now x n h = written x ∙ ap (option_map (node_pointed slot ids x)) h

  before : (x : ℕ) (m : Node) → new x ≡ Some m → Was (node_pointed slot ids x) (at x) m
  before x m h = was (node_pointed slot ids x) (at x) m (sym (written x) ∙ h)

  pub pointed : IsLinked new slots
  pointed = record {
    chained = λ x m h.
        let w = before x m h in
        subst (λ (m : Node). Chain new x m.newest (slots x)) w.now
        (chain_stays at new x w.value.newest (slots x)
        (λ p n has i. record { node = node_pointed slot ids p n; is = now p n i; group = refl; next = refl })
        (linked.chained x w.value w.is));
    member = λ p x m h i.
        let w = before p m h in
        let o = linked.member p x w.value w.is (ap (λ (m : Node). m.group) w.now ∙ i) in
        let t = there (at x) o.0 in
        (rw (now x t.value t.is) refl, o.1);
    free = λ p m h none.
        let w = before p m h in
        let freed : w.value.group ≡ None = ap (λ (m : Node). m.group) w.now ∙ none in
        subst (λ (m : Node). (m.next ≡ None) × (m.ids ≡ 0)) w.now
        (elim (cases_eq p slot) [
          | inl e ↦ absurd (target_is (at slot) w.value target (ap at (sym e) ∙ w.is) freed)
          | inr ne ↦ rw (ne_eqb p slot ne) (linked.free p w.value w.is freed)
        ]);
    held = λ p x m h i.
        let w = before p m h in
        subst (λ (m : Node). m.ids ≢ 0) w.now
        (elim (cases_eq p slot) [
          | inl e ↦ rw (eq-eqb p slot e) some
          | inr ne ↦ rw (ne_eqb p slot ne) (linked.held p x w.value w.is (ap (λ (m : Node). m.group) w.now ∙ i))
        ]);
    fits = λ p m h.
        let w = before p m h in
        subst (λ (m : Node). m.ids < 2 ^ 32) w.now
        (elim (cases_eq p slot) [
          | inl e ↦ rw (eq-eqb p slot e) small
          | inr ne ↦ rw (ne_eqb p slot ne) (linked.fits p w.value w.is)
        ]);
    small = λ p m h. let w = before p m h in linked.small p w.value w.is;
    single = λ p q m n h i same.
        let v = before p m h in
        let w = before q n i in
        linked.single p q v.value w.value v.is w.is (ap (λ (m : Node). m.view) v.now ∙ same ∙ sym (ap (λ (m : Node). m.view) w.now));
  }

-- the same of slabs
pub are_pointed : (s t : Slab Node) (slot ids : ℕ) → AreLinked s → IsTarget (get s slot) → ids ≢ 0 → ids < 2 ^ 32
    → ((x : ℕ) → get t x ≡ option_map (node_pointed slot ids x) (get s x)) → AreLinked t
are_pointed s t slot ids linked target some small written = are_linked t (slots_by s) (pointed (get s) (get t) (slots_by s) slot ids linked target some small written)

pub slots_pointed : (s t : Slab Node) (slot ids : ℕ) → AreLinked s → IsTarget (get s slot) → ids ≢ 0 → ids < 2 ^ 32
    → ((x : ℕ) → get t x ≡ option_map (node_pointed slot ids x) (get s x)) → (x : ℕ) → slots_by t x ≡ slots_by s x
slots_pointed s t slot ids linked target some small written x =
    elim (cases_Option (get s x)) [
      | inl none ↦
          let gone : get t x ≡ None = written x ∙ ap (option_map (node_pointed slot ids x)) none in
          rw (slots_none s x none, slots_none t x gone) refl
      | inr there ↦
          let now : get t x ≡ Some (node_pointed slot ids x there.value) = written x ∙ ap (option_map (node_pointed slot ids x)) there.is in
          slots_are t (slots_by s) (pointed (get s) (get t) (slots_by s) slot ids linked target some small written) x _ now
    ]
