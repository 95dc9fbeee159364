-- Laws of the tables of what is kept of relative layouts.
use Rattle.std.proofs.Common.{◌≡◌, ℕ, zero, suc, ◌<◌, Bool, List, [], ◌∷◌, length, get_or, Some, refl, sym, ◌∙◌, ap, arith, inl, inr}
use Rattle.std.specs.Map.{lookup, set_value}
use Rattle.std.proofs.lemmas.Bool.{cases_Bool, eq-eqb, ne_eqb}
use Rattle.sibling_orders.specs.declared.groups.SiblingOrders.{SiblingOrders}
use Rattle.sibling_orders.specs.Ordering.{orders_in, place_in, plain_orders}

-- where a key is in a list: at the first equal entry
pub place_in-found : (keys : List ℕ) (key place : ℕ) → place < length keys → get_or keys place 0 ≡ key → ((k : ℕ) → k < place → get_or keys k 0 ≡ key → ⊥) → place_in key keys ≡ place
place_in-found [] key place small is none = absurd (omega arith)
place_in-found (first ∷ keys) key zero small is none = rw (eq-eqb first key is)
place_in-found (first ∷ keys) key (suc place) small is none =
    rw (ne_eqb first key (none 0 (omega arith)))
    (ap suc (place_in-found keys key place (omega arith) is (λ k less. none (suc k) (omega arith))))

pub place_in-none : (keys : List ℕ) (key : ℕ) → ((k : ℕ) → k < length keys → get_or keys k 0 ≡ key → ⊥) → place_in key keys ≡ length keys
place_in-none [] key none = refl
place_in-none (first ∷ keys) key none =
    rw (ne_eqb first key (none 0 (omega arith))) (ap suc (place_in-none keys key (λ k less. none (suc k) (omega arith))))

-- a write that leaves the orders of a group leaves those of all
pub orders_in-set : (test : ℕ → Bool) (groups : List (ℕ × SiblingOrders)) (old new : SiblingOrders) → lookup test groups ≡ Some old → plain_orders new.orders ≡ plain_orders old.orders
    → orders_in (set_value test groups new) ≡ orders_in groups
orders_in-set test [] old new is same = refl
orders_in-set test (entry ∷ groups) old new is same = elim (cases_Bool (test entry.0)) [
  | inl e ↦
      let found : Some entry.1 ≡ Some old = rw e at is in
      let own : entry.1 ≡ old = cc in
      rw e (ap (λ orders. (entry.0, orders) ∷ orders_in groups) (same ∙ ap (λ (g : SiblingOrders). plain_orders g.orders) (sym own)))
  | inr e ↦ rw e (ap (λ rest. (entry.0, plain_orders entry.1.orders) ∷ rest) (orders_in-set test groups old new (rw e at is) same))
]
