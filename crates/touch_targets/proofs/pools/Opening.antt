-- What nodes hold once there is one more, or one less.
use Rattle.std.proofs.Common.{◌≡◌, ◌≢◌, ◌⊎◌, ◌<◌, ◌^◌, arith, ℕ, true, false, List, [], ◌∷◌, Some, None, IsSome, map, refl, sym, ◌∙◌, ap, subst, inl, inr}
use Rattle.std.specs.Prelude.{◌==◌, if◌then◌else◌}
use Rattle.std.proofs.lemmas.Bool.{cases_eq, eq-eqb, ne_eqb}
use Rattle.slab.specs.Slab.{Slab, Updates, get}
use Rattle.slab_link.specs.Numbers.{links_end}
use Rattle.touch_targets.specs.Nodes.{AreLinked, Chain, IsLinked, caught_at, caught_by, fresh_node, has_slot, slots_by, view_at}
use Rattle.touch_targets.specs.Seats.{is_caught}
use Rattle.touch_targets.specs.declared.node.Node.{Node}
use Rattle.touch_targets.proofs.chains.Chains.{are_linked, cases_Option, chain_stays, has_apart, map_same, no_some, slots_are, slots_none, some_is, there}
use Rattle.touch_targets.proofs.pools.Removing.{is_caught_by, target_by}

module _
    (s t : Slab Node) (slot : ℕ) (k : Node)
    (linked : AreLinked s)
    (is : get s slot ≡ Some k)
    (empty : caught_by s slot ≡ [])
    (free : (x : ℕ) → is_caught (view_at s slot) (caught_by s x) ≡ false)
    (written : (x : ℕ) → get t x ≡ (if x == slot then None else get s x)) where
  gone : (x : ℕ) → x ≡ slot → get t x ≡ None
  gone x e = written x ∙ rw (eq-eqb x slot e) refl

  left : (x : ℕ) → x ≢ slot → get t x ≡ get s x
  left x apart = written x ∙ rw (ne_eqb x slot apart) refl

  still : (x : ℕ) (n : Node) → get t x ≡ Some n → (x ≢ slot) × (get s x ≡ Some n)
  still x n h = let apart : x ≢ slot = λ e. no_some (gone x e) h in (apart, sym (left x apart) ∙ h)

  lacks : (x : ℕ) → has_slot slot (slots_by s x) ≡ false
  lacks x = sym (is_caught_by s linked x slot k is) ∙ subst (λ o. is_caught (caught_at o).child (caught_by s x) ≡ false) is (free x)

  no_slots : slots_by s slot ≡ []
  no_slots = nothing (slots_by s slot) empty
    where
      nothing : (ps : List ℕ) → map (λ p. caught_at (get s p)) ps ≡ [] → ps ≡ []
      nothing [] e = refl
      nothing (p ∷ ps) e = absurd (cc)

  linked_without : IsLinked (get t) (slots_by s)
  linked_without = record {
    chained = λ x n h.
        let o = still x n h in
        chain_stays (get s) (get t) x n.newest (slots_by s x)
        (λ p m has i. record { node = m; is = left p (has_apart slot p (slots_by s x) has (lacks x)) ∙ i; group = refl; next = refl })
        (linked.chained x n o.1);
    member = λ p x n h i.
        let o = still p n h in
        let m = linked.member p x n o.1 i in
        let apart : x ≢ slot = λ e. nothing p (subst (λ l. has_slot p l ≡ true) (ap (slots_by s) e ∙ no_slots) m.1) in
        (subst IsSome (sym (left x apart)) m.0, m.1);
    free = λ p n h none. linked.free p n (still p n h).1 none;
    held = λ p x n h i. linked.held p x n (still p n h).1 i;
    fits = λ p n h. linked.fits p n (still p n h).1;
    small = λ p n h. linked.small p n (still p n h).1;
    single = λ p q n m h i same. linked.single p q n m (still p n h).1 (still q m i).1 same;
  }
    where
      nothing : (p : ℕ) → has_slot p [] ≢ true
      nothing p h = absurd (cc)

  pub are_linked_without : AreLinked t
  are_linked_without = are_linked t (slots_by s) linked_without

  pub caught_without : (x : ℕ) → caught_by t x ≡ caught_by s x
  caught_without x =
      elim (cases_Option (get t x)) [
        | inl none ↦
            ap (map (λ p. caught_at (get t p))) (slots_none t x none)
            ∙ elim (cases_eq x slot) [
              | inl e ↦ sym (ap (caught_by s) e ∙ empty)
              | inr ne ↦ ap (map (λ p. caught_at (get s p))) (sym (slots_none s x (sym (left x ne) ∙ none)))
            ]
        | inr n ↦
            ap (map (λ p. caught_at (get t p))) (slots_are t (slots_by s) linked_without x n.value n.is)
            ∙ map_same (λ p. caught_at (get t p)) (λ p. caught_at (get s p)) (slots_by s x)
            (λ p has. ap caught_at (left p (has_apart slot p (slots_by s x) has (lacks x))))
      ]

module _
    (s t : Slab Node) (slot view : ℕ)
    (linked : AreLinked s)
    (unused : get s slot ≡ None)
    (low : slot < links_end)
    (unknown : (x : ℕ) (n : Node) → get s x ≡ Some n → n.view ≢ view)
    (written : (x : ℕ) → get t x ≡ (if x == slot then Some (fresh_node view) else get s x)) where
  come : (x : ℕ) → x ≡ slot → get t x ≡ Some (fresh_node view)
  come x e = written x ∙ rw (eq-eqb x slot e) refl

  stay : (x : ℕ) (n : Node) → get s x ≡ Some n → get t x ≡ Some n
  stay x n h = let apart : x ≢ slot = λ e. no_some (ap (get s) e ∙ unused) h in written x ∙ rw (ne_eqb x slot apart) h

  -- each node is the new one or an old one
  old_or : (x : ℕ) (n : Node) → get t x ≡ Some n → ((x ≡ slot) × (n ≡ fresh_node view)) ⊎ (get s x ≡ Some n)
  old_or x n h =
      elim (cases_eq x slot) [
        | inl e ↦ inl (e, some_is (sym h ∙ come x e))
        | inr ne ↦ inr (sym (written x ∙ rw (ne_eqb x slot ne) refl) ∙ h)
      ]

  linked_with : IsLinked (get t) (slots_by s)
  linked_with = record {
    chained = λ x n h.
        elim (old_or x n h) [
          | inl new ↦
              subst (λ (n : Node). Chain (get t) x n.newest (slots_by s x)) (sym new.1)
              (subst (Chain (get t) x None) (sym (ap (slots_by s) new.0 ∙ slots_none s slot unused)) refl)
          | inr old ↦
              chain_stays (get s) (get t) x n.newest (slots_by s x)
              (λ p m has i. record { node = m; is = stay p m i; group = refl; next = refl })
              (linked.chained x n old)
        ];
    member = λ p x n h i.
        elim (old_or p n h) [
          | inl new ↦ no_some (ap (λ (n : Node). n.group) new.1) i
          | inr old ↦
              let m = linked.member p x n old i in
              let g = there (get s x) m.0 in
              (rw (stay x g.value g.is) refl, m.1)
        ];
    free = λ p n h none.
        elim (old_or p n h) [
          | inl new ↦ subst (λ (n : Node). (n.next ≡ None) × (n.ids ≡ 0)) (sym new.1) (refl, refl)
          | inr old ↦ linked.free p n old none
        ];
    held = λ p x n h i.
        elim (old_or p n h) [
          | inl new ↦ no_some (ap (λ (n : Node). n.group) new.1) i
          | inr old ↦ linked.held p x n old i
        ];
    fits = λ p n h.
        elim (old_or p n h) [
          | inl new ↦ subst (λ (n : Node). n.ids < 2 ^ 32) (sym new.1) (omega arith)
          | inr old ↦ linked.fits p n old
        ];
    small = λ p n h.
        elim (old_or p n h) [
          | inl new ↦ subst (λ x. x < links_end) (sym new.0) low
          | inr old ↦ linked.small p n old
        ];
    single = λ p q n m h i same.
        elim (old_or p n h) [
          | inl new ↦
              elim (old_or q m i) [
                | inl its ↦ new.0 ∙ sym its.0
                | inr old ↦ absurd (unknown q m old (sym same ∙ ap (λ (n : Node). n.view) new.1))
              ]
          | inr old ↦
              elim (old_or q m i) [
                | inl its ↦ absurd (unknown p n old (same ∙ ap (λ (n : Node). n.view) its.1))
                | inr its ↦ linked.single p q n m old its same
              ]
        ];
  }

  pub are_linked_with : AreLinked t
  are_linked_with = are_linked t (slots_by s) linked_with

  pub caught_with : (x : ℕ) → caught_by t x ≡ caught_by s x
  caught_with x =
      elim (cases_Option (get t x)) [
        | inl none ↦
            let old : get s x ≡ None = elim (cases_Option (get s x)) [ inl gone ↦ gone | inr n ↦ no_some none (stay x n.value n.is) ] in
            ap (map (λ p. caught_at (get t p))) (slots_none t x none) ∙ ap (map (λ p. caught_at (get s p))) (sym (slots_none s x old))
        | inr n ↦
            ap (map (λ p. caught_at (get t p))) (slots_are t (slots_by s) linked_with x n.value n.is)
            ∙ map_same (λ p. caught_at (get t p)) (λ p. caught_at (get s p)) (slots_by s x)
            (λ p has. let k = target_by s linked x p has in ap caught_at (stay p k.node k.is ∙ sym k.is))
      ]

-- a slab after a removal and after an insertion
pub taken_out : (s t : Slab Node) (slot : ℕ) → Updates s t slot None → (x : ℕ) → get t x ≡ (if x == slot then None else get s x)
taken_out s t slot updates x =
    elim (cases_eq x slot) [
      | inl e ↦ rw (eq-eqb x slot e) (ap (get t) e ∙ updates.changed)
      | inr ne ↦ rw (ne_eqb x slot ne) (updates.others x ne)
    ]

pub put_in : (s t : Slab Node) (slot view : ℕ) → Updates s t slot (Some (fresh_node view)) → (x : ℕ) → get t x ≡ (if x == slot then Some (fresh_node view) else get s x)
put_in s t slot view updates x =
    elim (cases_eq x slot) [
      | inl e ↦ rw (eq-eqb x slot e) (ap (get t) e ∙ updates.changed)
      | inr ne ↦ rw (ne_eqb x slot ne) (updates.others x ne)
    ]
