-- The seats of a pool in their order: they stay if captures do not change, and the last one is added and removed.
use Rattle.std.proofs.Common.{◌≡◌, ◌∙◌, ℕ, false, List, [], ◌∷◌, ◌++◌, Option, None, Some, map, filter, refl, sym, ap, subst, inl, inr}
use Rattle.std.specs.Prelude.{◌==◌, ◌||◌, if◌then◌else◌, nat_eq, not}
use Rattle.std.specs.Map.{lookup}
use Rattle.std.proofs.lemmas.Bool.{cases_Bool, cases_eq, eq-eqb, ne_eqb}
use Rattle.slab.specs.Slab.{Slab, get}
use Rattle.indexmap.specs.IndexMap.{swap_remove_entry}
use Rattle.touch_targets.specs.Captures.{is_target}
use Rattle.touch_targets.specs.Nodes.{caught_at, caught_by, view_at, without_caught, view_of}
use Rattle.touch_targets.specs.Pool.{IsSoundPool, caught_from, slot_in, seat_at, seats_in}
use Rattle.touch_targets.specs.Seats.{Caught, Seat, drop_caught, is_caught, is_open, targets_of, with_seat}
use Rattle.touch_targets.specs.declared.node.Node.{Node}
use Rattle.touch_targets.specs.declared.targets.Targets.TheInside.{Inside}
use Rattle.touch_targets.proofs.chains.Chains.{true_not_false}
use Rattle.touch_targets.proofs.entries.LastEntries.{swap_remove_entry-last}
use Rattle.touch_targets.proofs.pools.Membership.{nothing_caught, nothing_is, nowhere_caught}
use Rattle.touch_targets.proofs.pools.SeatLaws.{node_of, open_seats}

pub same_caught : (s t : Slab Node) → ((x : ℕ) → caught_by t x ≡ caught_by s x) → (o : Option ℕ) → caught_from t o ≡ caught_from s o
same_caught s t caught None = refl
same_caught s t caught (Some slot) = caught slot

pub same_seats : (s t : Slab Node) (es : List (ℕ × Option ℕ)) → ((x : ℕ) → caught_by t x ≡ caught_by s x) → map (seat_at t) es ≡ map (seat_at s) es
same_seats s t [] caught = refl
same_seats s t (e ∷ es) caught =
    ap (λ (l : List Caught). record { view = e.0; caught = l } ∷ map (seat_at t) es) (same_caught s t caught e.1) ∙ ap (λ l. seat_at s e ∷ l) (same_seats s t es caught)

-- the slots stay, and what each group has captured
pub seats_kept : (a b : Inside) (seats : List Seat) → seats_in a.nodes a.slots ≡ seats → b.slots ≡ a.slots → ((x : ℕ) → caught_by b.nodes x ≡ caught_by a.nodes x) → seats_in b.nodes b.slots ≡ seats
seats_kept a b seats is slots caught =
    same_seats a.nodes b.nodes b.slots.entries caught ∙ ap (λ m. map (seat_at a.nodes) m.entries) slots ∙ is

-- nothing is taken away if there is nothing
pub nothing_dropped : (a b : Inside) (seats : List Seat) (group slot ids : ℕ) → seats_in a.nodes a.slots ≡ seats → slot_in a.slots group ≡ Some slot → targets_of seats group ≡ []
    → ((x : ℕ) → caught_by b.nodes x ≡ (if x == slot then drop_caught ids (caught_by a.nodes x) else caught_by a.nodes x))
    → (x : ℕ) → caught_by b.nodes x ≡ caught_by a.nodes x
nothing_dropped a b seats group slot ids is slot_is none caught x =
    elim (cases_eq x slot) [
      | inl e ↦
          let empty : caught_by a.nodes x ≡ [] = ap (caught_by a.nodes) e ∙ nothing_caught a seats group slot is slot_is none in
          caught x ∙ rw (eq-eqb x slot e) (ap (drop_caught ids) empty ∙ sym empty)
      | inr ne ↦ caught x ∙ rw (ne_eqb x slot ne) refl
    ]

not_there : (child : ℕ) (caught : List Caught) → is_caught child caught ≡ false → filter (λ (c : Caught). not (c.child == child)) caught ≡ caught
not_there child [] none = refl
not_there child (c ∷ caught) none =
    elim (cases_Bool (c.child == child)) [
      | inl is ↦ true_not_false (rw is refl) none
      | inr is ↦ rw is (ap (λ l. c ∷ l) (not_there child caught (rw is at none)))
    ]

pub nothing_removed : (a b : Inside) (seats : List Seat) (child slot : ℕ) → IsSoundPool a.nodes a.slots → seats_in a.nodes a.slots ≡ seats → slot_in a.slots child ≡ Some slot
    → ((group : ℕ) → is_target child (targets_of seats group) ≡ false)
    → ((x : ℕ) → caught_by b.nodes x ≡ without_caught (view_of (get a.nodes slot)) (caught_by a.nodes x))
    → (x : ℕ) → caught_by b.nodes x ≡ caught_by a.nodes x
nothing_removed a b seats child slot sound is slot_is none caught x =
    let n = node_of a sound child slot slot_is in
    let own : view_at a.nodes slot ≡ child = ap (λ o. (caught_at o).child) n.is ∙ n.view_is in
    let free : is_caught child (caught_by a.nodes x) ≡ false =
    subst (λ v. is_caught v (caught_by a.nodes x) ≡ false) own (nowhere_caught a seats child slot sound is slot_is none x) in
    caught x ∙ ap (λ o. without_caught o (caught_by a.nodes x)) (sound.named child slot slot_is) ∙ not_there child (caught_by a.nodes x) free

-- entries of which the last one represents a seat
record LastSeat (nodes : Slab Node) (es : List (ℕ × Option ℕ)) (before : List Seat) (view : ℕ) : Type 0 where
  front : List (ℕ × Option ℕ)
  slot : Option ℕ
  whole : es ≡ front ++ (view, slot) ∷ []
  seats : map (seat_at nodes) front ≡ before

heads : {A : Type 0} {x y : A} {xs ys : List A} → x ∷ xs ≡ y ∷ ys → x ≡ y
heads e = cc

tails : {A : Type 0} {x y : A} {xs ys : List A} → x ∷ xs ≡ y ∷ ys → xs ≡ ys
tails e = cc

last_seat : (nodes : Slab Node) (es : List (ℕ × Option ℕ)) (before : List Seat) (view : ℕ) → map (seat_at nodes) es ≡ with_seat view before → LastSeat nodes es before view
last_seat nodes [] [] view is = absurd (cc)
last_seat nodes [] (s ∷ before) view is = absurd (cc)
last_seat nodes (e ∷ []) [] view is = record {
  front = [];
  slot = e.1;
  whole = ap (λ (v : ℕ). (v, e.1) ∷ []) (ap (λ (s : Seat). s.view) (heads is));
  seats = refl;
}
last_seat nodes (e ∷ f ∷ es) [] view is = let rest = tails is in absurd (cc)
last_seat nodes (e ∷ es) (s ∷ before) view is =
    let later = last_seat nodes es before view (tails is) in
    record {
      front = e ∷ later.front;
      slot = later.slot;
      whole = ap (λ l. e ∷ l) later.whole;
      seats = ap (λ l. seat_at nodes e ∷ l) later.seats ∙ ap (λ s. s ∷ before) (heads is);
    }

lookup_none : (nodes : Slab Node) (es : List (ℕ × Option ℕ)) (view : ℕ) → is_open (map (seat_at nodes) es) view ≡ false → lookup (nat_eq view) es ≡ None
lookup_none nodes es view closed = nothing_is (lookup (nat_eq view) es) (sym (open_seats nodes es view) ∙ closed)

-- the last seat is removed, if it is the only one of its view
pub seat_taken : (a b : Inside) (before : List Seat) (view : ℕ) → seats_in a.nodes a.slots ≡ with_seat view before → is_open before view ≡ false
    → ((x : ℕ) → caught_by b.nodes x ≡ caught_by a.nodes x) → b.slots.entries ≡ swap_remove_entry (nat_eq view) a.slots.entries
    → seats_in b.nodes b.slots ≡ before
seat_taken a b before view is closed caught entries =
    let last = last_seat a.nodes a.slots.entries before view is in
    let none = lookup_none a.nodes last.front view (ap (λ s. is_open s view) last.seats ∙ closed) in
    same_seats a.nodes b.nodes b.slots.entries caught
    ∙ ap (map (seat_at a.nodes)) (entries ∙ ap (swap_remove_entry (nat_eq view)) last.whole ∙ swap_remove_entry-last last.front view last.slot none)
    ∙ last.seats

-- a seat that has captured nothing is ignored
pub targets_with : (view : ℕ) (before : List Seat) (group : ℕ) → targets_of (with_seat view before) group ≡ targets_of before group
targets_with view [] group = elim (cases_Bool (view == group)) [ inl is ↦ rw is refl | inr is ↦ rw is refl ]
targets_with view (s ∷ before) group =
    elim (cases_Bool (s.view == group)) [ inl is ↦ rw is refl | inr is ↦ rw is (targets_with view before group) ]

pub opened_with : (view : ℕ) (before : List Seat) (other : ℕ) → is_open (with_seat view before) other ≡ (is_open before other || other == view)
opened_with view [] other = elim (cases_eq view other) [
  | inl e ↦ rw (eq-eqb view other e, eq-eqb other view (sym e)) refl
  | inr ne ↦ rw (ne_eqb view other ne, ne_eqb other view (λ e. ne (sym e))) refl
]
opened_with view (s ∷ before) other = elim (cases_Bool (s.view == other)) [ inl is ↦ rw is refl | inr is ↦ rw is (opened_with view before other) ]

-- a view that was not open is no group
pub no_targets_with : (view : ℕ) (before : List Seat) → is_open before view ≡ false → targets_of (with_seat view before) view ≡ []
no_targets_with view before closed = targets_with view before view ∙ none before closed
  where
    none : (before : List Seat) → is_open before view ≡ false → targets_of before view ≡ []
    none [] closed = refl
    none (s ∷ before) closed =
        elim (cases_Bool (s.view == view)) [
          | inl is ↦ true_not_false (rw is refl) closed
          | inr is ↦ rw is (none before (rw is at closed))
        ]
