-- What a pool represents once an open view has a node.
use Rattle.std.proofs.Common.{◌≡◌, ◌≢◌, ◌+◌, ℕ, arith, true, List, [], ◌∷◌, Option, Some, None, is_some, count_by, length, map, refl, sym, ◌∙◌, ap, inl, inr}
use Rattle.std.specs.Prelude.{◌==◌, if◌then◌else◌, nat_eq}
use Rattle.std.specs.Map.{lookup}
use Rattle.std.specs.Option.{option_flatten}
use Rattle.std.proofs.lemmas.Bool.{cases_Bool, cases_eq, eq-eqb, ne_eqb}
use Rattle.slab.specs.Slab.{HasRoomFor, Slab, get, slab_len}
use Rattle.indexmap.specs.IndexMap.{IndexMap, get as get_key, insert_entry}
use Rattle.touch_targets.specs.Nodes.{AreLinked, caught_at, caught_by, fresh_node, view_of}
use Rattle.touch_targets.specs.Pool.{IsSoundPool, caught_from, has_node, slot_in, seat_at, seats_in}
use Rattle.touch_targets.specs.Seats.{Caught, Seat}
use Rattle.touch_targets.specs.declared.node.Node.{Node}
use Rattle.touch_targets.proofs.chains.Chains.{no_some, slots_none, some_is}
use Rattle.touch_targets.proofs.entries.EntryCounts.{count-bare, count-noted, length-noted}
use Rattle.touch_targets.proofs.pools.SeatOrder.{same_caught, same_seats}

-- an open view without a node
bare_entry : (o : Option (Option ℕ)) → is_some o ≡ true → option_flatten o ≡ None → o ≡ Some None
bare_entry None there none = absurd (cc)
bare_entry (Some None) there none = refl
bare_entry (Some (Some p)) there none = absurd (cc)

-- what is known of a pool with such a view
module _
    {S : Type 0} (s : Slab Node) (m : IndexMap ℕ (Option ℕ) S) (view : ℕ)
    (sound : IsSoundPool s m)
    (opened : is_some (get_key nat_eq m view) ≡ true)
    (none : slot_in m view ≡ None) where
  bare : get_key nat_eq m view ≡ Some None
  bare = bare_entry (get_key nat_eq m view) opened none

  pub room_for_one : HasRoomFor s 1
  room_for_one = omega (arith, sound.counted, sound.room, count-bare m.entries view bare)

  pub view_unknown : (x : ℕ) (node : Node) → get s x ≡ Some node → node.view ≢ view
  view_unknown x node is e = no_some (ap (slot_in m) e ∙ none) (sound.found x node is)

  module _
      (t : Slab Node) (n : IndexMap ℕ (Option ℕ) S) (slot : ℕ)
      (linked : AreLinked t)
      (unused : get s slot ≡ None)
      (nodes : (x : ℕ) → get t x ≡ (if x == slot then Some (fresh_node view) else get s x))
      (caught : (x : ℕ) → caught_by t x ≡ caught_by s x)
      (len : slab_len t ≡ slab_len s + 1)
      (capacity : t.capacity ≡ s.capacity)
      (entries : n.entries ≡ insert_entry nat_eq m.entries view (Some slot))
      (noted : (other : ℕ) → get_key nat_eq n other ≡ (if nat_eq view other then Some (Some slot) else get_key nat_eq m other)) where
    pub own_slot : slot_in n view ≡ Some slot
    own_slot =
        let now : get_key nat_eq n view ≡ Some (Some slot) = noted view ∙ rw (eq-eqb view view refl) refl in
        ap option_flatten now

    other_slot : (other : ℕ) → other ≢ view → slot_in n other ≡ slot_in m other
    other_slot other differs =
        let now : get_key nat_eq n other ≡ get_key nat_eq m other = noted other ∙ rw (ne_eqb view other (λ e. differs (sym e))) refl in
        ap option_flatten now

    pub slot_kept : (other p : ℕ) → slot_in m other ≡ Some p → slot_in n other ≡ Some p
    slot_kept other p is = other_slot other (λ e. no_some (ap (slot_in m) e ∙ none) is) ∙ is

    own_node : get t slot ≡ Some (fresh_node view)
    own_node = nodes slot ∙ rw (eq-eqb slot slot refl) refl

    other_node : (p : ℕ) → p ≢ slot → get t p ≡ get s p
    other_node p differs = nodes p ∙ rw (ne_eqb p slot differs) refl

    pub sound_with_node : IsSoundPool t n
    sound_with_node = record {
      linked = linked;
      named = λ v p h.
          elim (cases_eq v view) [
            | inl e ↦
                let same : p ≡ slot = some_is (sym h ∙ ap (slot_in n) e ∙ own_slot) in
                ap (λ q. view_of (get t q)) same ∙ ap view_of own_node ∙ ap (λ v. Some v) (sym e)
            | inr ne ↦
                let old = sound.named v p (sym (other_slot v ne) ∙ h) in
                let differs : p ≢ slot = λ e. no_some refl (sym (ap view_of (ap (get s) e ∙ unused)) ∙ old) in
                ap view_of (other_node p differs) ∙ old
          ];
      found = λ p node h.
          elim (cases_eq p slot) [
            | inl e ↦
                let same : node ≡ fresh_node view = some_is (sym h ∙ ap (get t) e ∙ own_node) in
                ap (λ (node : Node). slot_in n node.view) same ∙ own_slot ∙ ap (λ p. Some p) (sym e)
            | inr ne ↦ slot_kept node.view p (sound.found p node (sym (other_node p ne) ∙ h))
          ];
      counted = omega (arith, len, ap (count_by has_node) entries ∙ count-noted m.entries view slot bare, sound.counted);
      room = omega (arith, capacity, ap length entries ∙ length-noted m.entries view (Some slot) opened, sound.room);
      small = omega (arith, capacity, sound.small);
    }

    nothing_there : caught_by s slot ≡ []
    nothing_there = ap (map (λ p. caught_at (get s p))) (slots_none s slot unused)

    seats_noted : (es : List (ℕ × Option ℕ)) → lookup (nat_eq view) es ≡ Some None → map (seat_at t) (insert_entry nat_eq es view (Some slot)) ≡ map (seat_at s) es
    seats_noted [] is = absurd (cc)
    seats_noted (e ∷ es) is =
        elim (cases_Bool (nat_eq view e.0)) [
          | inl here ↦
              let own : e.1 ≡ None = some_is (rw here at is) in
              let seat : caught_by t slot ≡ caught_from s e.1 = caught slot ∙ nothing_there ∙ sym (ap (caught_from s) own) in
              rw here (ap (λ (l : List Caught). record { view = e.0; caught = l } ∷ map (seat_at t) es) seat ∙ ap (λ l. seat_at s e ∷ l) (same_seats s t es caught))
          | inr other ↦
              let seat : seat_at t e ≡ seat_at s e = ap (λ (l : List Caught). let seat : Seat = record { view = e.0; caught = l } in seat) (same_caught s t caught e.1) in
              rw other (ap (λ l. seat_at t e ∷ l) (seats_noted es (rw other at is)) ∙ ap (λ seat. seat ∷ map (seat_at s) es) seat)
        ]

    pub seats_with_node : seats_in t n ≡ seats_in s m
    seats_with_node = ap (map (seat_at t)) entries ∙ seats_noted m.entries bare
