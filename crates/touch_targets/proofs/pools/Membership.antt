-- What a pool represents once a view is open, and once it is closed.
use Rattle.std.proofs.Common.{◌≡◌, ◌≢◌, ◌+◌, ◌≤◌, ℕ, arith, true, false, Bool, List, [], ◌∷◌, ◌++◌, Option, Some, None, is_some, count_by, length, map, refl, sym, ◌∙◌, ap, subst, inl, inr, length-append}
use Rattle.std.proofs.Math.Bool.{and-false, and-true}
use Rattle.std.specs.Prelude.{◌==◌, ◌||◌, ◌&&◌, not, if◌then◌else◌, nat_eq}
use Rattle.std.specs.Map.{lookup}
use Rattle.std.specs.Option.{option_flatten}
use Rattle.std.proofs.lemmas.Bool.{cases_Bool, cases_eq, eq-eqb, ne_eqb}
use Rattle.std.proofs.lemmas.List.{map-append}
use Rattle.slab.specs.Slab.{Slab, get, slab_len}
use Rattle.slab_link.specs.Numbers.{links_end}
use Rattle.indexmap.specs.IndexMap.{get as get_key, insert_entry, swap_remove_entry}
use Rattle.indexmap.proofs.CallerLemmas.{insert_entry-new}
use Rattle.touch_targets.specs.Captures.{Target, is_target, without_child}
use Rattle.touch_targets.specs.Nodes.{AreLinked, caught_at, caught_by, view_at, view_of}
use Rattle.touch_targets.specs.Pool.{IsSoundPool, caught_from, has_node, slot_in, seat_at, seats_in}
use Rattle.touch_targets.specs.Seats.{Caught, Seat, is_caught, is_open, target_of, targets_of, with_seat}
use Rattle.touch_targets.specs.declared.node.Node.{Node}
use Rattle.touch_targets.specs.declared.targets.Targets.TheInside.{Inside}
use Rattle.touch_targets.proofs.pools.CaughtLaws.{is_target_of}
use Rattle.touch_targets.proofs.chains.Chains.{cases_Option, no_some, slots_none, some_is, true_not_false}
use Rattle.touch_targets.proofs.entries.EntryCounts.{count-added, count-forgot, slab_len-views}
use Rattle.touch_targets.proofs.pools.SeatLaws.{apart, at_group, gone, node_of, open_is, targets_are}

-- room for more nodes, and views that have none
module _ (a b : Inside) (nodes : b.nodes ≡ record a.nodes { capacity = b.nodes.capacity }) (slots : (view : ℕ) → slot_in b.slots view ≡ slot_in a.slots view) where
  node_same : (p : ℕ) → get b.nodes p ≡ get a.nodes p
  node_same p = ap (λ (s : Slab Node). get s p) nodes

  pub sound_room : IsSoundPool a.nodes a.slots → count_by has_node b.slots.entries ≡ count_by has_node a.slots.entries → length b.slots.entries ≤ b.nodes.capacity
      → b.nodes.capacity ≤ links_end → IsSoundPool b.nodes b.slots
  sound_room sound counts room small = record {
    linked = subst AreLinked (sym nodes) sound.linked;
    named = λ view p h. ap view_of (node_same p) ∙ sound.named view p (sym (slots view) ∙ h);
    found = λ p n h. slots n.view ∙ sound.found p n (sym (node_same p) ∙ h);
    counted = subst (λ n. slab_len b.nodes ≤ n) (sym counts) (subst (λ (s : Slab Node). slab_len s ≤ count_by has_node a.slots.entries) (sym nodes) sound.counted);
    room = room;
    small = small;
  }

-- room for the entries too
pub sound_reserved : (a b : Inside) → b.nodes ≡ record a.nodes { capacity = b.nodes.capacity } → b.slots.entries ≡ a.slots.entries → IsSoundPool a.nodes a.slots
    → length a.slots.entries + 1 ≤ b.nodes.capacity → b.nodes.capacity ≤ links_end → IsSoundPool b.nodes b.slots
sound_reserved a b nodes entries sound room small =
    sound_room a b nodes (λ view. ap (λ es. option_flatten (lookup (nat_eq view) es)) entries) sound
    (ap (count_by has_node) entries) (omega (arith, ap length entries, room)) small

slot_added : (es : List (ℕ × Option ℕ)) (view other : ℕ) → option_flatten (lookup (nat_eq other) (es ++ (view, None) ∷ [])) ≡ option_flatten (lookup (nat_eq other) es)
slot_added [] view other = elim (cases_Bool (nat_eq other view)) [ inl is ↦ rw is refl | inr is ↦ rw is refl ]
slot_added (e ∷ es) view other = elim (cases_Bool (nat_eq other e.0)) [ inl is ↦ rw is refl | inr is ↦ rw is (slot_added es view other) ]

-- a view that was not open has the last entry
module _
    (a b : Inside) (view : ℕ)
    (nodes : b.nodes ≡ record a.nodes { capacity = b.nodes.capacity })
    (closed : get_key nat_eq a.slots view ≡ None)
    (noted : b.slots.entries ≡ insert_entry nat_eq a.slots.entries view None) where
  entries : b.slots.entries ≡ a.slots.entries ++ (view, None) ∷ []
  entries = noted ∙ insert_entry-new nat_eq a.slots view None closed

  slot_same : (other : ℕ) → slot_in b.slots other ≡ slot_in a.slots other
  slot_same other = ap (λ es. option_flatten (lookup (nat_eq other) es)) entries ∙ slot_added a.slots.entries view other

  pub sound_opened : IsSoundPool a.nodes a.slots → length a.slots.entries + 1 ≤ b.nodes.capacity → b.nodes.capacity ≤ links_end → IsSoundPool b.nodes b.slots
  sound_opened sound room small =
      let counts = ap (count_by has_node) entries ∙ count-added a.slots.entries view in
      let long = ap length entries ∙ length-append a.slots.entries ((view, None) ∷ []) in
      sound_room a b nodes slot_same sound counts (omega (arith, long, room)) small

  pub seats_opened : seats_in b.nodes b.slots ≡ with_seat view (seats_in a.nodes a.slots)
  seats_opened =
      ap (λ (s : Slab Node). map (seat_at s) b.slots.entries) nodes ∙ ap (map (seat_at a.nodes)) entries
      ∙ map-append (seat_at a.nodes) a.slots.entries ((view, None) ∷ [])

-- a node of the same view
record AsNode (o : Option Node) (n : Node) : Type 0 where
  node : Node
  is : o ≡ Some node
  view_is : node.view ≡ n.view

-- the same nodes, with other captures
pub sound_changed : (a b : Inside) → IsSoundPool a.nodes a.slots → b.slots ≡ a.slots → AreLinked b.nodes → ((x : ℕ) → view_of (get b.nodes x) ≡ view_of (get a.nodes x))
    → b.nodes.capacity ≡ a.nodes.capacity → IsSoundPool b.nodes b.slots
sound_changed a b sound slots linked views capacity =
    subst (IsSoundPool b.nodes) (sym slots) record {
      linked = linked;
      named = λ view p h. views p ∙ sound.named view p h;
      found = λ p n h.
          let was = node_as (get a.nodes p) n (sym (views p) ∙ ap view_of h) in
          ap (slot_in a.slots) (sym was.view_is) ∙ sound.found p was.node was.is;
      counted = omega (arith, slab_len-views a.nodes b.nodes views, sound.counted);
      room = omega (arith, capacity, sound.room);
      small = omega (arith, capacity, sound.small);
    }
  where
    node_as : (o : Option Node) (n : Node) → view_of o ≡ Some n.view → AsNode o n
    node_as None n h = absurd (cc)
    node_as (Some m) n h = record { node = m; is = refl; view_is = some_is h }

-- a view that is no target and has none is closed
no_targets : (caught : List Caught) → map target_of caught ≡ [] → caught ≡ []
no_targets [] e = refl
no_targets (c ∷ caught) e = absurd (cc)

pub nothing_caught : (a : Inside) (seats : List Seat) (view slot : ℕ) → seats_in a.nodes a.slots ≡ seats → slot_in a.slots view ≡ Some slot → targets_of seats view ≡ [] → caught_by a.nodes slot ≡ []
nothing_caught a seats view slot is slot_is none = no_targets (caught_by a.nodes slot) (sym (at_group a seats is view slot slot_is) ∙ none)

pub nowhere_caught : (a : Inside) (seats : List Seat) (view slot : ℕ) → IsSoundPool a.nodes a.slots → seats_in a.nodes a.slots ≡ seats → slot_in a.slots view ≡ Some slot
    → ((group : ℕ) → is_target view (targets_of seats group) ≡ false) → (x : ℕ) → is_caught (view_at a.nodes slot) (caught_by a.nodes x) ≡ false
nowhere_caught a seats view slot sound is slot_is none x =
    let n = node_of a sound view slot slot_is in
    let own : view_at a.nodes slot ≡ view = ap (λ o. (caught_at o).child) n.is ∙ n.view_is in
    ap (λ v. is_caught v (caught_by a.nodes x)) own
    ∙ elim (cases_Option (get a.nodes x)) [
      | inl gone ↦ ap (λ ps. is_caught view (map (λ p. caught_at (get a.nodes p)) ps)) (slots_none a.nodes x gone)
      | inr g ↦
          let found = sound.found x g.value g.is in
          sym (is_target_of view (caught_by a.nodes x)) ∙ ap (is_target view) (sym (at_group a seats is g.value.view x found)) ∙ none g.value.view
    ]

module _
    (a b : Inside) (seats : List Seat) (view : ℕ)
    (is : seats_in a.nodes a.slots ≡ seats)
    (forgot : (other : ℕ) → get_key nat_eq b.slots other ≡ (if nat_eq view other then None else get_key nat_eq a.slots other)) where
  no_entry : get_key nat_eq b.slots view ≡ None
  no_entry = forgot view ∙ rw (eq-eqb view view refl) refl

  no_slot : slot_in b.slots view ≡ None
  no_slot = ap option_flatten no_entry

  kept_entry : (other : ℕ) → other ≢ view → get_key nat_eq b.slots other ≡ get_key nat_eq a.slots other
  kept_entry other differs = forgot other ∙ rw (ne_eqb view other (λ e. differs (sym e))) refl

  kept_slot : (other : ℕ) → other ≢ view → slot_in b.slots other ≡ slot_in a.slots other
  kept_slot other differs = ap option_flatten (kept_entry other differs)

  pub closed_view : (other : ℕ) → is_open (seats_in b.nodes b.slots) other ≡ (is_open seats other && not (other == view))
  closed_view other =
      open_is b (seats_in b.nodes b.slots) refl other
      ∙ elim (cases_eq other view) [
        | inl e ↦ ap is_some (ap (get_key nat_eq b.slots) e ∙ no_entry) ∙ rw (eq-eqb other view e) (sym (and-false (is_open seats other)))
        | inr ne ↦ ap is_some (kept_entry other ne) ∙ sym (open_is a seats is other) ∙ rw (ne_eqb other view ne) (sym (and-true (is_open seats other)))
      ]

  pub closed_targets : ((x : ℕ) → caught_by b.nodes x ≡ caught_by a.nodes x) → targets_of seats view ≡ [] → (group : ℕ) → targets_of (seats_in b.nodes b.slots) group ≡ targets_of seats group
  closed_targets caught none group =
      targets_are b (seats_in b.nodes b.slots) refl group
      ∙ elim (cases_eq group view) [
        | inl e ↦ ap (λ o. map target_of (caught_from b.nodes o)) (ap (slot_in b.slots) e ∙ no_slot) ∙ sym (ap (targets_of seats) e ∙ none)
        | inr ne ↦ ap (λ o. map target_of (caught_from b.nodes o)) (kept_slot group ne) ∙ same (slot_in a.slots group) ∙ sym (targets_are a seats is group)
      ]
    where
      same : (o : Option ℕ) → map target_of (caught_from b.nodes o) ≡ map target_of (caught_from a.nodes o)
      same None = refl
      same (Some p) = ap (map target_of) (caught p)

  pub sound_closed : (slot : ℕ) → IsSoundPool a.nodes a.slots → slot_in a.slots view ≡ Some slot
      → AreLinked b.nodes → ((x : ℕ) → get b.nodes x ≡ (if x == slot then None else get a.nodes x))
      → slab_len b.nodes + 1 ≡ slab_len a.nodes → b.nodes.capacity ≡ a.nodes.capacity
      → b.slots.entries ≡ swap_remove_entry (nat_eq view) a.slots.entries → length b.slots.entries ≤ length a.slots.entries → IsSoundPool b.nodes b.slots
  sound_closed slot sound slot_is linked nodes len capacity entries fewer = record {
    linked = linked;
    named = λ v p h.
        let differs : v ≢ view = λ e. no_some (ap (slot_in b.slots) e ∙ no_slot) h in
        let old = sym (kept_slot v differs) ∙ h in
        let elsewhere : p ≢ slot = λ e. differs (apart a sound v view slot (old ∙ ap (λ p. Some p) e) slot_is) in
        ap view_of (nodes p ∙ rw (ne_eqb p slot elsewhere) refl) ∙ sound.named v p old;
    found = λ p n h.
        let elsewhere : p ≢ slot = λ e. no_some (nodes p ∙ rw (eq-eqb p slot e) refl) h in
        let old = sound.found p n (sym (nodes p ∙ rw (ne_eqb p slot elsewhere) refl) ∙ h) in
        let differs : n.view ≢ view = λ e. elsewhere (some_is (sym old ∙ ap (slot_in a.slots) e ∙ slot_is)) in
        kept_slot n.view differs ∙ old;
    counted =
        let counts = ap (λ es. count_by has_node es + 1) entries ∙ (rw slot_is at (count-forgot a.slots.entries view)) in
        omega (arith, counts, len, sound.counted);
    room = omega (arith, fewer, capacity, sound.room);
    small = omega (arith, capacity, sound.small);
  }

  -- if it had no node
  pub sound_forgot : IsSoundPool a.nodes a.slots → slot_in a.slots view ≡ None → b.nodes ≡ a.nodes
      → b.slots.entries ≡ swap_remove_entry (nat_eq view) a.slots.entries → length b.slots.entries ≤ length a.slots.entries → IsSoundPool b.nodes b.slots
  sound_forgot sound none nodes entries fewer =
      subst (λ s. IsSoundPool s b.slots) (sym nodes) record {
        linked = sound.linked;
        named = λ v p h.
            let differs : v ≢ view = λ e. no_some (ap (slot_in b.slots) e ∙ no_slot) h in
            sound.named v p (sym (kept_slot v differs) ∙ h);
        found = λ p n h.
            let old = sound.found p n h in
            let differs : n.view ≢ view = λ e. no_some (ap (slot_in a.slots) e ∙ none) old in
            kept_slot n.view differs ∙ old;
        counted =
            let counts = ap (λ es. count_by has_node es + 0) entries ∙ (rw none at (count-forgot a.slots.entries view)) in
            omega (arith, counts, sound.counted);
        room = omega (arith, fewer, sound.room);
        small = sound.small;
      }

-- what clearing and removing a view leave of it
pub left_targets : (view : ℕ) (old cleared new : ℕ → List Target) → ((group : ℕ) → cleared group ≡ (if group == view then [] else old group))
    → ((group : ℕ) → new group ≡ without_child view (cleared group)) → (group : ℕ) → new group ≡ (if group == view then [] else without_child view (old group))
left_targets view old cleared new one two group =
    two group ∙ ap (without_child view) (one group)
    ∙ elim (cases_Bool (group == view)) [ inl is ↦ rw is refl | inr is ↦ rw is refl ]

-- a view that has captured nothing and is no target is as one that was let go
pub unheld_targets : (view : ℕ) (old : ℕ → List Target) → old view ≡ [] → ((group : ℕ) → old group ≡ without_child view (old group))
    → (group : ℕ) → old group ≡ (if group == view then [] else without_child view (old group))
unheld_targets view old none nowhere group = elim (cases_eq group view) [
  | inl same ↦ ap old same ∙ none ∙ rw (eq-eqb group view same) refl
  | inr other ↦ nowhere group ∙ rw (ne_eqb group view other) refl
]

pub left_nowhere : (view : ℕ) (cleared new : ℕ → List Target) → ((group : ℕ) → new group ≡ without_child view (cleared group)) → (group : ℕ) → is_target view (new group) ≡ false
left_nowhere view cleared new two group = ap (is_target view) (two group) ∙ gone view (cleared group)

pub nothing_is : {A : Type 0} (o : Option A) → is_some o ≡ false → o ≡ None
nothing_is None h = refl
nothing_is (Some p) h = true_not_false refl h

-- a view that is open may be opened
pub open_already : (a : Inside) (seats : List Seat) (view : ℕ) → seats_in a.nodes a.slots ≡ seats → is_some (get_key nat_eq a.slots view) ≡ true → (other : ℕ) → is_open seats other ≡ (is_open seats other || other == view)
open_already a seats view is open_there other =
    elim (cases_eq other view) [
      | inl e ↦
          let there : is_open seats other ≡ true = ap (is_open seats) e ∙ open_is a seats is view ∙ open_there in
          rw there refl
      | inr ne ↦ rw (ne_eqb other view ne) (sym (or_false (is_open seats other)))
    ]
  where
    or_false : (x : Bool) → (x || false) ≡ x
    or_false true = refl
    or_false false = refl
