-- The seats that a pool represents, by the numbers of views.
use Rattle.std.proofs.Common.{◌≡◌, ◌≢◌, ℕ, ◌+◌, zero, suc, true, false, List, [], ◌∷◌, Option, Some, None, is_some, cond, count_by, map, arith, refl, sym, ◌∙◌, ap, inl, inr}
use Rattle.std.specs.Prelude.{◌==◌, if◌then◌else◌, nat_eq}
use Rattle.std.specs.List.{slice_index_or}
use Rattle.std.specs.Map.{lookup}
use Rattle.std.specs.Option.{option_flatten}
use Rattle.std.proofs.lemmas.Bool.{cases_Bool, cases_eq, eq-eqb, ne_eqb}
use Rattle.std.proofs.lemmas.List.Sums.{sum_by-cons}
use Rattle.slab.specs.Slab.{Slab, get, slab_len}
use Rattle.indexmap.specs.IndexMap.{get as get_key}
use Rattle.touch_targets.specs.Captures.{Target, from_child, is_target, without_child}
use Rattle.touch_targets.specs.Nodes.{AreLinked, Chain, caught_at, caught_by, has_slot, slots_by, view_of, without_caught}
use Rattle.touch_targets.specs.Pool.{IsSoundPool, caught_from, slot_in, seat_at, seats_in}
use Rattle.touch_targets.specs.Seats.{Caught, Seat, caught_of, is_caught, is_open, target_of, targets_of}
use Rattle.touch_targets.specs.declared.node.Node.{Node}
use Rattle.touch_targets.specs.declared.targets.Targets.TheInside.{Inside}
use Rattle.touch_targets.proofs.pools.CaughtLaws.{AllFit, is_target_of, without_of}
use Rattle.touch_targets.proofs.chains.Chains.{There, cases_Option, has_first, has_later, no_some, some_is, there, true_not_false}
use Rattle.touch_targets.proofs.chains.Reading.{FoundTarget, found, target_by, targets_at}
use Rattle.touch_targets.proofs.pools.Removing.{is_caught_by, nodes_by}

caught_seats : (nodes : Slab Node) (entries : List (ℕ × Option ℕ)) (group : ℕ)
    → caught_of (map (seat_at nodes) entries) group ≡ caught_from nodes (option_flatten (lookup (nat_eq group) entries))
caught_seats nodes [] group = refl
caught_seats nodes (e ∷ entries) group =
    elim (cases_eq e.0 group) [
      | inl same ↦ rw (eq-eqb e.0 group same, eq-eqb group e.0 (sym same)) refl
      | inr other ↦ rw (ne_eqb e.0 group other, ne_eqb group e.0 (λ e. other (sym e))) (caught_seats nodes entries group)
    ]

pub open_seats : (nodes : Slab Node) (entries : List (ℕ × Option ℕ)) (view : ℕ) → is_open (map (seat_at nodes) entries) view ≡ is_some (lookup (nat_eq view) entries)
open_seats nodes [] view = refl
open_seats nodes (e ∷ entries) view =
    elim (cases_eq e.0 view) [
      | inl same ↦ rw (eq-eqb e.0 view same, eq-eqb view e.0 (sym same)) refl
      | inr other ↦ rw (ne_eqb e.0 view other, ne_eqb view e.0 (λ e. other (sym e))) (open_seats nodes entries view)
    ]

module _ (a : Inside) (seats : List Seat) (is : seats_in a.nodes a.slots ≡ seats) where
  pub caught_is : (group : ℕ) → caught_of seats group ≡ caught_from a.nodes (slot_in a.slots group)
  caught_is group = ap (λ s. caught_of s group) (sym is) ∙ caught_seats a.nodes a.slots.entries group

  pub targets_are : (group : ℕ) → targets_of seats group ≡ map target_of (caught_from a.nodes (slot_in a.slots group))
  targets_are group = ap (map target_of) (caught_is group)

  pub open_is : (view : ℕ) → is_open seats view ≡ is_some (get_key nat_eq a.slots view)
  open_is view = ap (λ s. is_open s view) (sym is) ∙ open_seats a.nodes a.slots.entries view

-- the node of an open view
pub record OpenNode (nodes : Slab Node) (slot view : ℕ) : Type 0 where
  pub node : Node
  pub is : get nodes slot ≡ Some node
  pub view_is : node.view ≡ view

pub node_of : (a : Inside) → IsSoundPool a.nodes a.slots → (view slot : ℕ) → slot_in a.slots view ≡ Some slot → OpenNode a.nodes slot view
node_of a sound view slot h =
    let named = sound.named view slot h in
    elim (cases_Option (get a.nodes slot)) [
      | inl none ↦ no_some refl (sym (ap view_of none) ∙ named)
      | inr n ↦ record { node = n.value; is = n.is; view_is = some_is (sym (ap view_of n.is) ∙ named) }
    ]

-- two views have no slot in common
pub apart : (a : Inside) → IsSoundPool a.nodes a.slots → (view other slot : ℕ) → slot_in a.slots view ≡ Some slot → slot_in a.slots other ≡ Some slot → view ≡ other
apart a sound view other slot h i = some_is (sym (sound.named view slot h) ∙ sound.named other slot i)

fits_in : (s : Slab Node) → AreLinked s → (ps : List ℕ) → ((p : ℕ) → has_slot p ps ≡ true → There (get s p)) → AllFit (map (λ p. caught_at (get s p)) ps)
fits_in s linked [] nodes = tt
fits_in s linked (p ∷ ps) nodes =
    let n = nodes p (has_first p ps) in
    (rw n.is (linked.fits p n.value n.is), fits_in s linked ps (λ q has. nodes q (has_later p q ps has)))

pub fits_by : (s : Slab Node) → AreLinked s → (group : ℕ) → AllFit (caught_by s group)
fits_by s linked group = fits_in s linked (slots_by s group) (nodes_by s linked group)

-- a change of what one open group has captured
module _
    (a b : Inside) (seats : List Seat) (group slot : ℕ) (change : List Caught → List Caught) (set : List Target → List Target)
    (sound : IsSoundPool a.nodes a.slots) (is : seats_in a.nodes a.slots ≡ seats) (slots : b.slots ≡ a.slots)
    (slot_is : slot_in a.slots group ≡ Some slot)
    (caught : (x : ℕ) → caught_by b.nodes x ≡ (if x == slot then change (caught_by a.nodes x) else caught_by a.nodes x))
    (means : map target_of (change (caught_by a.nodes slot)) ≡ set (map target_of (caught_by a.nodes slot))) where
  changed_at : (other : ℕ) (o : Option ℕ) → slot_in a.slots other ≡ o
      → map target_of (caught_from b.nodes o) ≡ (if other == group then set (map target_of (caught_from a.nodes o)) else map target_of (caught_from a.nodes o))
  changed_at other None h =
      let differs : other ≢ group = λ e. no_some (ap (slot_in a.slots) (sym e) ∙ h) slot_is in
      rw (ne_eqb other group differs) refl
  changed_at other (Some p) h =
      let now = caught p in
      elim (cases_eq other group) [
        | inl e ↦
            let same : p ≡ slot = some_is (sym h ∙ ap (slot_in a.slots) e ∙ slot_is) in
            rw (eq-eqb other group e, same) (ap (map target_of) (caught slot ∙ rw (eq-eqb slot slot refl) refl) ∙ means)
        | inr ne ↦
            let differs : p ≢ slot = λ e. ne (apart a sound other group slot (h ∙ ap (λ p. Some p) e) slot_is) in
            rw (ne_eqb other group ne) (ap (map target_of) (rw (ne_eqb p slot differs) at now))
      ]

  pub changed_targets : (other : ℕ) → targets_of (seats_in b.nodes b.slots) other ≡ (if other == group then set (targets_of seats other) else targets_of seats other)
  changed_targets other =
      targets_are b (seats_in b.nodes b.slots) refl other ∙ ap (λ m. map target_of (caught_from b.nodes (slot_in m other))) slots
      ∙ changed_at other (slot_in a.slots other) refl
      ∙ ap (λ t. if other == group then set t else t) (sym (targets_are a seats is other))

-- a change if the group is not open
pub unchanged_targets : (a : Inside) (seats : List Seat) (group : ℕ) (set : List Target → List Target) → seats_in a.nodes a.slots ≡ seats → slot_in a.slots group ≡ None → set [] ≡ []
    → (other : ℕ) → targets_of seats other ≡ (if other == group then set (targets_of seats other) else targets_of seats other)
unchanged_targets a seats group set is none empty other =
    elim (cases_eq other group) [
      | inl e ↦
          let nothing : targets_of seats other ≡ [] = targets_are a seats is other ∙ ap (λ o. map target_of (caught_from a.nodes o)) (ap (slot_in a.slots) e ∙ none) in
          rw (eq-eqb other group e) (nothing ∙ sym (ap set nothing ∙ empty))
      | inr ne ↦ rw (ne_eqb other group ne) refl
    ]

pub same_open : (a b : Inside) (seats : List Seat) → seats_in a.nodes a.slots ≡ seats → b.slots ≡ a.slots → (view : ℕ) → is_open (seats_in b.nodes b.slots) view ≡ is_open seats view
same_open a b seats is slots view =
    open_is b (seats_in b.nodes b.slots) refl view ∙ ap (λ m. is_some (get_key nat_eq m view)) slots ∙ sym (open_is a seats is view)

-- a view that is captured is open
others_left : (a : Inside) → IsSoundPool a.nodes a.slots → (child : ℕ) → slot_in a.slots child ≡ None → (ps : List ℕ) → ((p : ℕ) → has_slot p ps ≡ true → There (get a.nodes p))
    → without_child child (map target_of (map (λ p. caught_at (get a.nodes p)) ps)) ≡ map target_of (map (λ p. caught_at (get a.nodes p)) ps)
others_left a sound child none [] nodes = refl
others_left a sound child none (p ∷ ps) nodes =
    let n = nodes p (has_first p ps) in
    let differs : n.value.view ≢ child = λ e. no_some (ap (slot_in a.slots) e ∙ none) (sound.found p n.value n.is) in
    rw (n.is, ne_eqb n.value.view child differs) (ap (λ l. target_of (record { child = n.value.view; ids = n.value.ids }) ∷ l)
    (others_left a sound child none ps (λ q has. nodes q (has_later p q ps has))))

pub closed_nowhere : (a : Inside) (seats : List Seat) → IsSoundPool a.nodes a.slots → seats_in a.nodes a.slots ≡ seats → (child : ℕ) → slot_in a.slots child ≡ None
    → (group : ℕ) → targets_of seats group ≡ without_child child (targets_of seats group)
closed_nowhere a seats sound is child none group =
    targets_are a seats is group ∙ sym (go (slot_in a.slots group)) ∙ ap (without_child child) (sym (targets_are a seats is group))
  where
    go : (o : Option ℕ) → without_child child (map target_of (caught_from a.nodes o)) ≡ map target_of (caught_from a.nodes o)
    go None = refl
    go (Some slot) = others_left a sound child none (slots_by a.nodes slot) (nodes_by a.nodes sound.linked slot)

-- a view is taken away from its group
pub removed_targets : (a b : Inside) (seats : List Seat) (child slot : ℕ) → IsSoundPool a.nodes a.slots → seats_in a.nodes a.slots ≡ seats → b.slots ≡ a.slots → slot_in a.slots child ≡ Some slot
    → ((x : ℕ) → caught_by b.nodes x ≡ without_caught (view_of (get a.nodes slot)) (caught_by a.nodes x))
    → (group : ℕ) → targets_of (seats_in b.nodes b.slots) group ≡ without_child child (targets_of seats group)
removed_targets a b seats child slot sound is slots slot_is caught group =
    targets_are b (seats_in b.nodes b.slots) refl group ∙ ap (λ m. map target_of (caught_from b.nodes (slot_in m group))) slots
    ∙ go (slot_in a.slots group)
    ∙ ap (without_child child) (sym (targets_are a seats is group))
  where
    go : (o : Option ℕ) → map target_of (caught_from b.nodes o) ≡ without_child child (map target_of (caught_from a.nodes o))
    go None = refl
    go (Some p) =
        ap (map target_of) (caught p ∙ ap (λ o. without_caught o (caught_by a.nodes p)) (sound.named child slot slot_is))
        ∙ without_of child (caught_by a.nodes p)

-- a target of a node's group is one by its number
pub target_where : (a : Inside) (seats : List Seat) → IsSoundPool a.nodes a.slots → seats_in a.nodes a.slots ≡ seats → (child slot x : ℕ) (k : Node) → get a.nodes slot ≡ Some k → k.view ≡ child → k.group ≡ Some x
    → (group : ℕ) × (slot_in a.slots group ≡ Some x) × (is_target child (targets_of seats group) ≡ true)
target_where a seats sound is child slot x k k_is view group_is =
    let m = sound.linked.member slot x k k_is group_is in
    let g = there (get a.nodes x) m.0 in
    let found = sound.found x g.value g.is in
    let there : is_caught k.view (caught_by a.nodes x) ≡ true = is_caught_by a.nodes sound.linked x slot k k_is ∙ m.1 in
    let targets : targets_of seats g.value.view ≡ map target_of (caught_by a.nodes x) = targets_are a seats is g.value.view ∙ ap (λ o. map target_of (caught_from a.nodes o)) found in
    (g.value.view, found, ap (is_target child) targets ∙ is_target_of child (caught_by a.nodes x) ∙ ap (λ v. is_caught v (caught_by a.nodes x)) (sym view) ∙ there)

-- no view has a node in a pool without one
empty_slots : (slots : List (Option Node)) → count_by is_some slots ≡ 0 → (slot : ℕ) → slice_index_or slots slot None ≡ None
empty_slots [] none slot = refl
empty_slots (None ∷ more) none zero = refl
empty_slots (None ∷ more) none (suc slot) = empty_slots more none slot
empty_slots (Some node ∷ more) none slot =
    let one : count_by is_some (Some node ∷ more) ≡ 1 + count_by is_some more = sum_by-cons (λ (slot : Option Node). cond (is_some slot) 1 0) (Some node) more in
    absurd (omega (arith, one, none))

pub no_node : (a : Inside) → IsSoundPool a.nodes a.slots → slab_len a.nodes ≡ 0 → (view : ℕ) → slot_in a.slots view ≡ None
no_node a sound empty view = go (slot_in a.slots view) refl
  where
    go : (o : Option ℕ) → slot_in a.slots view ≡ o → slot_in a.slots view ≡ None
    go None is = is
    go (Some slot) is = no_some (empty_slots a.nodes.slots empty slot) (node_of a sound view slot is).is

-- and the other way round
pub where_target : (a : Inside) (seats : List Seat) → IsSoundPool a.nodes a.slots → seats_in a.nodes a.slots ≡ seats → (child slot : ℕ) → slot_in a.slots child ≡ Some slot
    → (group : ℕ) → is_target child (targets_of seats group) ≡ true
    → (x : ℕ) × (slot_in a.slots group ≡ Some x) × (has_slot slot (slots_by a.nodes x) ≡ true)
where_target a seats sound is child slot slot_is group target =
    go (slot_in a.slots group) refl
  where
    n : OpenNode a.nodes slot child
    n = node_of a sound child slot slot_is

    go : (o : Option ℕ) → slot_in a.slots group ≡ o → (x : ℕ) × (slot_in a.slots group ≡ Some x) × (has_slot slot (slots_by a.nodes x) ≡ true)
    go None h =
        let none : is_target child (targets_of seats group) ≡ false = ap (is_target child) (targets_are a seats is group ∙ ap (λ o. map target_of (caught_from a.nodes o)) h) in
        true_not_false target none
    go (Some x) h =
        let caught : is_target child (targets_of seats group) ≡ is_caught child (caught_by a.nodes x) =
        ap (is_target child) (targets_are a seats is group ∙ ap (λ o. map target_of (caught_from a.nodes o)) h) ∙ is_target_of child (caught_by a.nodes x) in
        let there = sym (is_caught_by a.nodes sound.linked x slot n.node n.is) ∙ ap (λ v. is_caught v (caught_by a.nodes x)) n.view_is ∙ sym caught ∙ target in
        (x, h, there)

pub gone : (child : ℕ) (targets : List Target) → is_target child (without_child child targets) ≡ false
gone child [] = refl
gone child (t ∷ targets) = elim (cases_Bool (t.child == child)) [ inl is ↦ rw is (gone child targets) | inr is ↦ rw (is, is) (gone child targets) ]

pub closed_no_target : (a : Inside) (seats : List Seat) → IsSoundPool a.nodes a.slots → seats_in a.nodes a.slots ≡ seats → (child : ℕ) → slot_in a.slots child ≡ None → (group : ℕ) → is_target child (targets_of seats group) ≡ false
closed_no_target a seats sound is child none group = ap (is_target child) (closed_nowhere a seats sound is child none group) ∙ gone child (targets_of seats group)

-- the targets of an open group, and of one that is not open
pub at_group : (a : Inside) (seats : List Seat) → seats_in a.nodes a.slots ≡ seats → (group slot : ℕ) → slot_in a.slots group ≡ Some slot → targets_of seats group ≡ targets_at a.nodes (slots_by a.nodes slot)
at_group a seats is group slot h = targets_are a seats is group ∙ ap (λ o. map target_of (caught_from a.nodes o)) h

pub no_group : (a : Inside) (seats : List Seat) → seats_in a.nodes a.slots ≡ seats → (group : ℕ) → slot_in a.slots group ≡ None → targets_of seats group ≡ []
no_group a seats is group h = targets_are a seats is group ∙ ap (λ o. map target_of (caught_from a.nodes o)) h

-- a target in the walk over those of its group
pub record TargetAt (a : Inside) (seats : List Seat) (child : ℕ) (k : Node) (group : ℕ) : Type 0 where
  pub slot : ℕ
  pub start : Option ℕ
  pub chain : Chain (get a.nodes) slot start (slots_by a.nodes slot)
  pub found : FoundTarget a.nodes slot k (slots_by a.nodes slot)
  pub whole : targets_of seats group ≡ targets_at a.nodes (slots_by a.nodes slot)
  pub from : from_child child (targets_of seats group) ≡ target_by k ∷ targets_at a.nodes found.rest

pub target_at : (a : Inside) (seats : List Seat) → IsSoundPool a.nodes a.slots → seats_in a.nodes a.slots ≡ seats → (child slot : ℕ) (k : Node) → slot_in a.slots child ≡ Some slot → get a.nodes slot ≡ Some k
    → (group : ℕ) → is_target child (targets_of seats group) ≡ true → TargetAt a seats child k group
target_at a seats sound is child slot k slot_is k_is group target =
    let w = where_target a seats sound is child slot slot_is group target in
    let g = node_of a sound group w.0 w.1 in
    let chain = sound.linked.chained w.0 g.node g.is in
    let f = found a.nodes sound.linked w.0 g.node.newest slot k (slots_by a.nodes w.0) chain k_is w.2 in
    let whole = at_group a seats is group w.0 w.1 in
    let n = node_of a sound child slot slot_is in
    let view : k.view ≡ child = ap (λ (n : Node). n.view) (some_is (sym k_is ∙ n.is)) ∙ n.view_is in
    record {
      slot = w.0;
      start = g.node.newest;
      chain = chain;
      found = f;
      whole = whole;
      from = ap (from_child child) whole ∙ ap (λ v. from_child v (targets_at a.nodes (slots_by a.nodes w.0))) (sym view) ∙ f.from;
    }

-- a view that is the target of no group has a node that shows it
pub free_node : (a : Inside) (seats : List Seat) → IsSoundPool a.nodes a.slots → seats_in a.nodes a.slots ≡ seats → (child slot : ℕ) (k : Node) → slot_in a.slots child ≡ Some slot → get a.nodes slot ≡ Some k
    → ((group : ℕ) → is_target child (targets_of seats group) ≡ false) → k.group ≡ None
free_node a seats sound is child slot k slot_is k_is none =
    elim (cases_Option k.group) [
      | inl free ↦ free
      | inr x ↦
          let n = node_of a sound child slot slot_is in
          let view : k.view ≡ child = ap (λ (n : Node). n.view) (some_is (sym k_is ∙ n.is)) ∙ n.view_is in
          let t = target_where a seats sound is child slot x.value k k_is view x.is in
          true_not_false t.2 (none t.0)
    ]
