-- What nodes hold once one of them is the newest target of a group.
use Rattle.std.proofs.Common.{◌≡◌, ◌≢◌, ◌<◌, ◌^◌, ℕ, true, false, Bool, List, ◌∷◌, Option, Some, None, IsSome, map, option_map, refl, sym, ◌∙◌, ap, subst, inl, inr}
use Rattle.std.specs.Prelude.{◌==◌, if◌then◌else◌}
use Rattle.std.proofs.lemmas.Bool.{cases_Bool, cases_eq, eq-eqb, ne_eqb}
use Rattle.slab.specs.Slab.{Slab, get}
use Rattle.touch_targets.specs.Nodes.{AreLinked, Chain, IsLinked, caught_at, caught_by, caught_in_slot, changed, has_slot, slots_by, view_of}
use Rattle.touch_targets.specs.declared.node.Node.{Node}
use Rattle.touch_targets.proofs.chains.Chains.{StaysLinked, Was, are_linked, chain_stays, free_apart, has_apart, has_first, has_later, cases_Option, map_same, no_some, slots_are, slots_none, some_is, there, was}

-- what a node holds then
abbrev pub node_linked : ℕ → ℕ → Option ℕ → ℕ → ℕ → Node → Node
node_linked group child next ids x node = record node {
  newest = if x == group then Some child else node.newest;
  group = if x == child then Some group else node.group;
  next = if x == child then next else node.next;
  ids = if x == child then ids else node.ids;
}

both : (b c : Bool) (group child : ℕ) (next : Option ℕ) (ids : ℕ) (o : Option Node)
    → (if b then option_map (λ (n : Node). record n { newest = Some child }) (if c then option_map (λ (n : Node). record n { group = Some group; next = next; ids = ids }) o else o)
    else (if c then option_map (λ (n : Node). record n { group = Some group; next = next; ids = ids }) o else o))
    ≡ option_map (λ (n : Node). record n {
      newest = if b then Some child else n.newest;
      group = if c then Some group else n.group;
      next = if c then next else n.next;
      ids = if c then ids else n.ids;
    }) o
both true true group child next ids None = refl
both true true group child next ids (Some n) = refl
both true false group child next ids None = refl
both true false group child next ids (Some n) = refl
both false true group child next ids None = refl
both false true group child next ids (Some n) = refl
both false false group child next ids None = refl
both false false group child next ids (Some n) = refl

pub linked_at : (s0 s1 s2 : Slab Node) (group child : ℕ) (next : Option ℕ) (ids : ℕ)
    → ((x : ℕ) → get s1 x ≡ changed (get s0) child (λ n. record n { group = Some group; next = next; ids = ids }) x)
    → ((x : ℕ) → get s2 x ≡ changed (get s1) group (λ n. record n { newest = Some child }) x)
    → (x : ℕ) → get s2 x ≡ option_map (node_linked group child next ids x) (get s0 x)
linked_at s0 s1 s2 group child next ids one two x = rw (two x, one x) (both (x == group) (x == child) group child next ids (get s0 x))

-- the slots of targets then
abbrev pub slots_linked : ℕ → ℕ → (ℕ → List ℕ) → ℕ → List ℕ
slots_linked group child slots x = if x == group then child ∷ slots x else slots x

module _
    (at new : ℕ → Option Node) (slots : ℕ → List ℕ) (group child ids : ℕ) (g c : Node)
    (linked : IsLinked at slots)
    (group_is : at group ≡ Some g)
    (child_is : at child ≡ Some c)
    (free : c.group ≡ None)
    (some : ids ≢ 0)
    (small : ids < 2 ^ 32)
    (written : (x : ℕ) → new x ≡ option_map (node_linked group child g.newest ids x) (at x)) where
  now : (x : ℕ) (n : Node) → at x ≡ Some n → new x ≡ Some (node_linked group child g.newest ids x n)
  now x n h = written x ∙ ap (option_map (node_linked group child g.newest ids x)) h

  before : (x : ℕ) (m : Node) → new x ≡ Some m → Was (node_linked group child g.newest ids x) (at x) m
  before x m h = was (node_linked group child g.newest ids x) (at x) m (sym (written x) ∙ h)

  child_free : (n : Node) → at child ≡ Some n → n.group ≡ None
  child_free n h = ap (λ (n : Node). n.group) (some_is (sym h ∙ child_is)) ∙ free

  -- the child was in no chain
  lacks : (x : ℕ) (n : Node) → at x ≡ Some n → has_slot child (slots x) ≡ false
  lacks x n h = free_apart at x n.newest (slots x) child (linked.chained x n h) child_free

  stays : (x p : ℕ) (n : Node) → x ≢ child → at x ≡ Some n → StaysLinked n (new x)
  stays x p n apart h = record {
    node = node_linked group child g.newest ids x n;
    is = now x n h;
    group = rw (ne_eqb x child apart) refl;
    next = rw (ne_eqb x child apart) refl;
  }

  old_chain : (x : ℕ) (n : Node) → at x ≡ Some n → Chain new x n.newest (slots x)
  old_chain x n h =
      chain_stays at new x n.newest (slots x) (λ p m has i. stays p x m (has_apart child p (slots x) has (lacks x n h)) i) (linked.chained x n h)

  new_chain : Chain new group (Some child) (child ∷ slots group)
  new_chain = (
    refl,
    lacks group g group_is,
    node_linked group child g.newest ids child c,
    now child c child_is,
    rw (eq-eqb child child refl) refl,
    subst (λ o. Chain new group o (slots group)) (rw (eq-eqb child child refl) refl) (old_chain group g group_is),
  )

  some_new : (x : ℕ) → IsSome (at x) → IsSome (new x)
  some_new x h = let t = there (at x) h in rw (now x t.value t.is) refl

  pub linked_newest : IsLinked new (slots_linked group child slots)
  linked_newest = record {
    chained = λ x m h.
        let w = before x m h in
        subst (λ (m : Node). Chain new x m.newest (slots_linked group child slots x)) w.now
        (elim (cases_eq x group) [
          | inl e ↦ subst (λ x. Chain new x (if x == group then Some child else w.value.newest) (slots_linked group child slots x)) (sym e)
              (rw (eq-eqb group group refl) new_chain)
          | inr ne ↦ rw (ne_eqb x group ne) (old_chain x w.value w.is)
        ]);
    member = λ p x m h i.
        let w = before p m h in
        let own : (if p == child then Some group else w.value.group) ≡ Some x = ap (λ (m : Node). m.group) w.now ∙ i in
        elim (cases_eq p child) [
          | inl e ↦
              let is : group ≡ x = some_is (rw (eq-eqb p child e) at own) in
              subst (λ x. IsSome (new x) × (has_slot p (slots_linked group child slots x) ≡ true)) is
              (rw (now group g group_is) refl, rw (eq-eqb group group refl) (subst (λ q. has_slot q (child ∷ slots group) ≡ true) (sym e) (has_first child (slots group))))
          | inr ne ↦
              let m = linked.member p x w.value w.is (rw (ne_eqb p child ne) at own) in (
                some_new x m.0,
                elim (cases_Bool (x == group)) [
                  | inl is ↦ rw is (has_later child p (slots x) m.1)
                  | inr is ↦ rw is m.1
                ],
              )
        ];
    free = λ p m h none.
        let w = before p m h in
        let own : (if p == child then Some group else w.value.group) ≡ None = ap (λ (m : Node). m.group) w.now ∙ none in
        elim (cases_eq p child) [
          | inl e ↦ no_some {x = group} own (rw (eq-eqb p child e) refl)
          | inr ne ↦
              let f = linked.free p w.value w.is (rw (ne_eqb p child ne) at own) in
              subst (λ (m : Node). (m.next ≡ None) × (m.ids ≡ 0)) w.now (rw (ne_eqb p child ne) f)
        ];
    held = λ p x m h i.
        let w = before p m h in
        let own : (if p == child then Some group else w.value.group) ≡ Some x = ap (λ (m : Node). m.group) w.now ∙ i in
        subst (λ (m : Node). m.ids ≢ 0) w.now
        (elim (cases_eq p child) [
          | inl e ↦ rw (eq-eqb p child e) some
          | inr ne ↦ rw (ne_eqb p child ne) (linked.held p x w.value w.is (rw (ne_eqb p child ne) at own))
        ]);
    fits = λ p m h.
        let w = before p m h in
        subst (λ (m : Node). m.ids < 2 ^ 32) w.now
        (elim (cases_eq p child) [
          | inl e ↦ rw (eq-eqb p child e) small
          | inr ne ↦ rw (ne_eqb p child ne) (linked.fits p w.value w.is)
        ]);
    small = λ p m h. let w = before p m h in linked.small p w.value w.is;
    single = λ p q m n h i same.
        let v = before p m h in
        let w = before q n i in
        linked.single p q v.value w.value v.is w.is (ap (λ (m : Node). m.view) v.now ∙ same ∙ sym (ap (λ (m : Node). m.view) w.now));
  }

  -- and what they have captured
  pub caught_elsewhere : (p : ℕ) → p ≢ child → caught_at (new p) ≡ caught_at (at p)
  caught_elsewhere p apart = ap caught_at (written p) ∙ same (at p)
    where
      same : (o : Option Node) → caught_at (option_map (node_linked group child g.newest ids p) o) ≡ caught_at o
      same None = refl
      same (Some n) = rw (ne_eqb p child apart) refl

  pub caught_new : caught_at (new child) ≡ caught_in_slot (at child) ids
  caught_new = rw (now child c child_is, child_is, eq-eqb child child refl) refl

  pub caught_linked : (x : ℕ) (n : Node) → at x ≡ Some n → map (λ p. caught_at (new p)) (slots_linked group child slots x)
      ≡ (if x == group then caught_in_slot (at child) ids ∷ map (λ p. caught_at (at p)) (slots x) else map (λ p. caught_at (at p)) (slots x))
  caught_linked x n h =
      let same : map (λ p. caught_at (new p)) (slots x) ≡ map (λ p. caught_at (at p)) (slots x) =
      map_same (λ p. caught_at (new p)) (λ p. caught_at (at p)) (slots x) (λ p has. caught_elsewhere p (has_apart child p (slots x) has (lacks x n h))) in
      elim (cases_Bool (x == group)) [ inl is ↦ rw (is, same, caught_new) refl | inr is ↦ rw is same ]

-- the same of slabs
pub caught_linked_by : (s t : Slab Node) (group child ids : ℕ) (g c : Node) → AreLinked s → get s group ≡ Some g → get s child ≡ Some c → c.group ≡ None → ids ≢ 0 → ids < 2 ^ 32
    → ((x : ℕ) → get t x ≡ option_map (node_linked group child g.newest ids x) (get s x))
    → (x : ℕ) → caught_by t x ≡ (if x == group then caught_in_slot (get s child) ids ∷ caught_by s x else caught_by s x)
caught_linked_by s t group child ids g c linked group_is child_is free some small written x =
    elim (cases_Option (get s x)) [
      | inl none ↦
          let apart : x ≢ group = λ e. no_some (ap (get s) (sym e) ∙ none) group_is in
          let gone : get t x ≡ None = written x ∙ ap (option_map (node_linked group child g.newest ids x)) none in
          rw (ne_eqb x group apart, slots_none s x none, slots_none t x gone) refl
      | inr there ↦
          let n = there.value in
          let new = linked_newest (get s) (get t) (slots_by s) group child ids g c linked group_is child_is free some small written in
          let now : get t x ≡ Some (node_linked group child g.newest ids x n) = written x ∙ ap (option_map (node_linked group child g.newest ids x)) there.is in
          ap (map (λ p. caught_at (get t p))) (slots_are t (slots_linked group child (slots_by s)) new x _ now)
          ∙ caught_linked (get s) (get t) (slots_by s) group child ids g c linked group_is child_is free some small written x n there.is
    ]

pub are_linked_newest : (s t : Slab Node) (group child ids : ℕ) (g c : Node) → AreLinked s → get s group ≡ Some g → get s child ≡ Some c → c.group ≡ None → ids ≢ 0 → ids < 2 ^ 32
    → ((x : ℕ) → get t x ≡ option_map (node_linked group child g.newest ids x) (get s x)) → AreLinked t
are_linked_newest s t group child ids g c linked group_is child_is free some small written =
    are_linked t (slots_linked group child (slots_by s)) (linked_newest (get s) (get t) (slots_by s) group child ids g c linked group_is child_is free some small written)

pub views_linked : (s t : Slab Node) (group child ids : ℕ) (g : Node) → ((x : ℕ) → get t x ≡ option_map (node_linked group child g.newest ids x) (get s x))
    → (x : ℕ) → view_of (get t x) ≡ view_of (get s x)
views_linked s t group child ids g written x = ap view_of (written x) ∙ same (get s x)
  where
    same : (o : Option Node) → view_of (option_map (node_linked group child g.newest ids x) o) ≡ view_of o
    same None = refl
    same (Some n) = refl
