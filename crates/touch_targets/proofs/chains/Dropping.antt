-- A walk over the targets of a group that takes pointers away from each.
use Rattle.std.proofs.Common.{◌≡◌, ◌≢◌, ℕ, ◌<◌, length, arith, true, false, List, [], ◌∷◌, ◌++◌, Option, Some, None, IsSome, map, refl, sym, ◌∙◌, ap, subst, inl, inr}
use Rattle.std.specs.Prelude.{◌==◌, ◌&&◌, if◌then◌else◌}
use Rattle.std.proofs.lemmas.Bool.{cases_Bool, cases_eq, eq-eqb, ne_eqb}
use Rattle.std.proofs.lemmas.List.{append_assoc, append-nil, map-append}
use Rattle.slab.specs.Slab.{Slab, get}
use Rattle.touch_targets.specs.Nodes.{AreLinked, Chain, caught_at, caught_by, caught_in_slot, has_slot, left_at, slots_by, slots_from, view_of, without_slot}
use Rattle.touch_targets.specs.Seats.{Caught, drop_caught, mask_without}
use Rattle.touch_targets.specs.declared.node.Node.{Node}
use Rattle.touch_targets.proofs.chains.Chains.{first_of, from_start, has_apart, map_same, no_some, some_is, starts_at, there, true_not_false}
use Rattle.touch_targets.proofs.pools.Removing.{elsewhere}
use Rattle.touch_targets.proofs.chains.Unlinking.{has_following, without_following}
use Rattle.touch_targets.proofs.chains.Walks.{Here, LinkWalk, chain_ahead, here, last_end, node_here, walk_start, whole_here}

-- the pool as it was, and the pool once the walk has reached this slot
pub record Drops (old new : Slab Node) (group ids : ℕ) (previous at : Option ℕ) : Type 0 where
  pub linked : AreLinked new
  pub opened : IsSome (get new group)
  pub walk : LinkWalk new group previous at
  pub dropped : map (λ p. caught_at (get new p)) walk.front ++ drop_caught ids (map (λ p. caught_at (get new p)) walk.back) ≡ drop_caught ids (caught_by old group)
  pub others : (x : ℕ) → x ≢ group → caught_by new x ≡ caught_by old x
  pub views : (x : ℕ) → view_of (get new x) ≡ view_of (get old x)
  pub capacity : new.capacity ≡ old.capacity

pub drops_start : (s : Slab Node) (group ids : ℕ) (g : Node) → AreLinked s → get s group ≡ Some g → Drops s s group ids None g.newest
drops_start s group ids g linked is = record {
  linked = linked;
  opened = rw is refl;
  walk = walk_start s group g linked is;
  dropped = refl;
  others = λ x apart. refl;
  views = λ x. refl;
  capacity = refl;
}

-- a slot is there once among others
front_lacks : (at : ℕ → Option Node) (g : ℕ) (start : Option ℕ) (slot : ℕ) (front back : List ℕ) → Chain at g start (front ++ slot ∷ back) → has_slot slot front ≡ false
front_lacks at g start slot [] back c = refl
front_lacks at g start slot (q ∷ front) back c =
    let apart : slot ≢ q = has_apart q slot (front ++ slot ∷ back) (has_following slot front back) c.1 in
    rw (ne_eqb slot q apart) (front_lacks at g c.2.next slot front back c.5)

-- how one captured child changes
drop_first : (ids : ℕ) (c : Caught) (caught : List Caught) → drop_caught ids (c ∷ caught)
    ≡ (if mask_without c.ids ids == 0 then drop_caught ids caught else record { child = c.child; ids = mask_without c.ids ids } ∷ drop_caught ids caught)
drop_first ids c caught = elim (cases_Bool (mask_without c.ids ids == 0)) [ inl is ↦ rw is refl | inr is ↦ rw is refl ]

module _
    (s t u : Slab Node) (group ids slot : ℕ) (previous : Option ℕ) (n : Node)
    (drops : Drops s t group ids previous (Some slot))
    (is : get t slot ≡ Some n)
    (linked : AreLinked u)
    (slots : (x : ℕ) → slots_by u x ≡ (if left_at t slot ids == 0 && x == group then without_slot slot (slots_by t x) else slots_by t x))
    (others : (x : ℕ) → x ≢ slot → caught_at (get u x) ≡ caught_at (get t x))
    (own : left_at t slot ids ≢ 0 → caught_at (get u slot) ≡ caught_in_slot (get t slot) (left_at t slot ids))
    (views : (x : ℕ) → view_of (get u x) ≡ view_of (get t x))
    (capacity : u.capacity ≡ t.capacity) where
  at : Here t group slot drops.walk.back
  at = here t group previous slot drops.linked drops.opened drops.walk

  whole : slots_by t group ≡ drops.walk.front ++ slot ∷ at.back
  whole = whole_here t group previous slot drops.walk at

  whole_chain : Chain (get t) group (first_of (slots_by t group)) (drops.walk.front ++ slot ∷ at.back)
  whole_chain =
      let g = there (get t group) drops.opened in
      let chained = drops.linked.chained group g.value g.is in
      subst (Chain (get t) group (first_of (slots_by t group))) whole
      (subst (λ o. Chain (get t) group o (slots_by t group)) (starts_at (get t) group g.value.newest (slots_by t group) chained) chained)

  same_at : (ps : List ℕ) → has_slot slot ps ≡ false → map (λ p. caught_at (get u p)) ps ≡ map (λ p. caught_at (get t p)) ps
  same_at ps lacks = map_same (λ p. caught_at (get u p)) (λ p. caught_at (get t p)) ps (λ p has. others p (has_apart slot p ps has lacks))

  still_open : IsSome (get u group)
  still_open = view_open (get u group) (get t group) (views group) drops.opened
    where
      view_open : (new old : Option Node) → view_of new ≡ view_of old → IsSome old → IsSome new
      view_open None (Some m) e h = absurd (cc)
      view_open None None e h = h
      view_open (Some m) old e h = refl

  -- what is captured ahead of and after it stays
  same_back : map (λ p. caught_at (get u p)) at.back ≡ map (λ p. caught_at (get t p)) at.back
  same_back = same_at at.back at.lacks

  same_front : map (λ p. caught_at (get u p)) drops.walk.front ≡ map (λ p. caught_at (get t p)) drops.walk.front
  same_front = same_at drops.walk.front (front_lacks (get t) group (first_of (slots_by t group)) slot drops.walk.front at.back whole_chain)

  next_chain : Chain (get t) group n.next at.back
  next_chain = node_here t group previous slot drops.walk at n is

  -- the walk's equation, with the target at which it is taken off
  equation : map (λ p. caught_at (get t p)) drops.walk.front
      ++ (if left_at t slot ids == 0 then drop_caught ids (map (λ p. caught_at (get t p)) at.back)
      else record { child = (caught_at (get t slot)).child; ids = left_at t slot ids } ∷ drop_caught ids (map (λ p. caught_at (get t p)) at.back))
      ≡ drop_caught ids (caught_by s group)
  equation =
      ap (λ l. map (λ p. caught_at (get t p)) drops.walk.front ++ l)
      (sym (ap (λ ps. drop_caught ids (map (λ p. caught_at (get t p)) ps)) at.first ∙ drop_first ids (caught_at (get t slot)) (map (λ p. caught_at (get t p)) at.back)))
      ∙ drops.dropped

  others_on : (x : ℕ) → x ≢ group → caught_by u x ≡ caught_by s x
  others_on x apart =
      let now = slots x in
      let same : slots_by u x ≡ slots_by t x =
      elim (cases_Bool (left_at t slot ids == 0)) [ inl zero ↦ rw (zero, ne_eqb x group apart) at now | inr some ↦ rw some at now ] in
      ap (map (λ p. caught_at (get u p))) same
      ∙ same_at (slots_by t x) (elsewhere t drops.linked group x slot n is (ap (λ (n : Node). n.group) (some_is (sym is ∙ at.is)) ∙ at.group_is) apart)
      ∙ drops.others x apart

  views_on : (x : ℕ) → view_of (get u x) ≡ view_of (get s x)
  views_on x = views x ∙ drops.views x

  dropped_here : left_at t slot ids == 0 ≡ true → Drops s u group ids previous n.next
  dropped_here zero =
      let now = slots group in
      let gone : slots_by u group ≡ drops.walk.front ++ at.back =
      (rw (zero, eq-eqb group group refl) at now) ∙ ap (without_slot slot) whole
      ∙ without_following (get t) group (first_of (slots_by t group)) slot drops.walk.front at.back whole_chain in
      record {
        linked = linked;
        opened = still_open;
        walk = record {
          front = drops.walk.front;
          back = at.back;
          whole = gone;
          before = drops.walk.before;
          ahead = starts_at (get t) group n.next at.back next_chain;
        };
        dropped = rw (same_front, same_back) (rw zero at equation);
        others = others_on;
        views = views_on;
        capacity = capacity ∙ drops.capacity;
      }

  kept_here : left_at t slot ids == 0 ≡ false → Drops s u group ids (Some slot) n.next
  kept_here some =
      let now = slots group in
      let stay : slots_by u group ≡ drops.walk.front ++ slot ∷ at.back = (rw some at now) ∙ whole in
      let nonzero : left_at t slot ids ≢ 0 = λ e. true_not_false (eq-eqb (left_at t slot ids) 0 e) some in
      let here : caught_at (get u slot) ≡ record { child = (caught_at (get t slot)).child; ids = left_at t slot ids } =
      own nonzero ∙ rw is refl in
      record {
        linked = linked;
        opened = still_open;
        walk = record {
          front = drops.walk.front ++ slot ∷ [];
          back = at.back;
          whole = stay ∙ sym (append_assoc drops.walk.front (slot ∷ []) at.back);
          before = last_end None drops.walk.front slot;
          ahead = starts_at (get t) group n.next at.back next_chain;
        };
        dropped =
            rw (map-append (λ p. caught_at (get u p)) drops.walk.front (slot ∷ []), same_front, same_back, here)
            (append_assoc (map (λ p. caught_at (get t p)) drops.walk.front) (record { child = (caught_at (get t slot)).child; ids = left_at t slot ids } ∷ [])
            (drop_caught ids (map (λ p. caught_at (get t p)) at.back))
            ∙ (rw some at equation));
        others = others_on;
        views = views_on;
        capacity = capacity ∙ drops.capacity;
      }

  pub drops_on : Drops s u group ids (if left_at t slot ids == 0 then previous else Some slot) n.next
  drops_on = elim (cases_Bool (left_at t slot ids == 0)) [ inl zero ↦ rw zero (dropped_here zero) | inr some ↦ rw some (kept_here some) ]

  rest_on : slots_from u n.next ≡ at.back
  unfolding dropped_here kept_here
  rest_on =
      elim (cases_Bool (left_at t slot ids == 0)) [
        | inl zero ↦ from_start u group n.next at.back (chain_ahead u group previous n.next linked still_open (dropped_here zero).walk)
        | inr some ↦ from_start u group n.next at.back (chain_ahead u group (Some slot) n.next linked still_open (kept_here some).walk)
      ]

  pub fewer_on : length (slots_from u n.next) < length (slots_from t (Some slot))
  fewer_on = rw (rest_on, at.from) (omega arith)

-- a walk that has reached its end has been at all targets
pub drops_end : (s t : Slab Node) (group ids : ℕ) (previous : Option ℕ) → Drops s t group ids previous None
    → (x : ℕ) → caught_by t x ≡ (if x == group then drop_caught ids (caught_by s x) else caught_by s x)
drops_end s t group ids previous drops x =
    elim (cases_eq x group) [
      | inl e ↦ rw (eq-eqb x group e) (subst (λ y. caught_by t y ≡ drop_caught ids (caught_by s y)) (sym e) all)
      | inr ne ↦ rw (ne_eqb x group ne) (drops.others x ne)
    ]
  where
    nothing : (back : List ℕ) → None ≡ first_of back → back ≡ []
    nothing [] e = refl
    nothing (p ∷ back) e = no_some refl e

    front : List ℕ
    front = drops.walk.front

    none : drops.walk.back ≡ []
    none = nothing drops.walk.back drops.walk.ahead

    all : caught_by t group ≡ drop_caught ids (caught_by s group)
    all =
        ap (map (λ p. caught_at (get t p))) (drops.walk.whole ∙ ap (λ l. front ++ l) none ∙ append-nil front)
        ∙ sym (append-nil (map (λ p. caught_at (get t p)) front))
        ∙ ap (λ l. map (λ p. caught_at (get t p)) front ++ drop_caught ids (map (λ p. caught_at (get t p)) l)) (sym none)
        ∙ drops.dropped
