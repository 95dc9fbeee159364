-- A walk over the targets of a group, from the newest on.
use Rattle.std.proofs.Common.{◌≡◌, ◌≢◌, ℕ, true, false, length, List, [], ◌∷◌, ◌++◌, Option, Some, None, IsSome, refl, sym, ◌∙◌, ap, subst}
use Rattle.std.proofs.lemmas.List.{append_assoc}
use Rattle.std.specs.List.{last_or}
use Rattle.slab.specs.Slab.{Slab, get}
use Rattle.touch_targets.specs.Nodes.{AreLinked, Chain, IsFollowing, has_slot, slots_by, slots_from}
use Rattle.touch_targets.specs.declared.node.Node.{Node}
use Rattle.touch_targets.proofs.chains.Chains.{chain_after, chain_none, first_of, from_start, no_some, some_is, starts_at, there}

-- the walk has reached this slot, from the one before
pub record LinkWalk (nodes : Slab Node) (group : ℕ) (previous at : Option ℕ) : Type 0 where
  pub front : List ℕ
  pub back : List ℕ
  pub whole : slots_by nodes group ≡ front ++ back
  pub before : last_or None front ≡ previous
  pub ahead : at ≡ first_of back

abbrev pub walk_start : (s : Slab Node) (group : ℕ) (g : Node) → AreLinked s → get s group ≡ Some g → LinkWalk s group None g.newest
walk_start s group g linked is = record {
  front = [];
  back = slots_by s group;
  whole = refl;
  before = refl;
  ahead = starts_at (get s) group g.newest (slots_by s group) (linked.chained group g is);
}

-- the targets ahead
pub chain_ahead : (s : Slab Node) (group : ℕ) (previous at : Option ℕ) → AreLinked s → IsSome (get s group) → (walk : LinkWalk s group previous at) → Chain (get s) group at walk.back
chain_ahead s group previous at linked opened walk =
    let g = there (get s group) opened in
    subst (λ o. Chain (get s) group o walk.back) (sym walk.ahead)
    (chain_after (get s) group g.value.newest walk.front walk.back (subst (Chain (get s) group g.value.newest) walk.whole (linked.chained group g.value g.is)))

pub last_end : (before : Option ℕ) (front : List ℕ) (p : ℕ) → last_or before (front ++ p ∷ []) ≡ Some p
last_end before [] p = refl
last_end before (q ∷ front) p = last_end (Some q) front p

-- the target at which the walk is, with those ahead of it
pub record Here (nodes : Slab Node) (group slot : ℕ) (ahead : List ℕ) : Type 0 where
  pub node : Node
  pub is : get nodes slot ≡ Some node
  pub group_is : node.group ≡ Some group
  pub back : List ℕ
  pub first : ahead ≡ slot ∷ back
  pub lacks : has_slot slot back ≡ false
  pub chain : Chain (get nodes) group node.next back
  pub from : slots_from nodes (Some slot) ≡ slot ∷ back

pub here : (s : Slab Node) (group : ℕ) (previous : Option ℕ) (slot : ℕ) → AreLinked s → IsSome (get s group) → (walk : LinkWalk s group previous (Some slot)) → Here s group slot walk.back
here s group previous slot linked opened walk = go walk.back (chain_ahead s group previous (Some slot) linked opened walk)
  where
    go : (back : List ℕ) → Chain (get s) group (Some slot) back → Here s group slot back
    go [] c = no_some c refl
    go (q ∷ back) c =
        let is : slot ≡ q = some_is c.0 in
        record {
          node = c.2;
          is = ap (get s) is ∙ c.3;
          group_is = c.4;
          back = back;
          first = ap (λ q. q ∷ back) (sym is);
          lacks = ap (λ q. has_slot q back) is ∙ c.1;
          chain = c.5;
          from = from_start s group (Some slot) (q ∷ back) c ∙ ap (λ q. q ∷ back) (sym is);
        }

module _ (s : Slab Node) (group : ℕ) (previous : Option ℕ) (slot : ℕ) (walk : LinkWalk s group previous (Some slot)) (at : Here s group slot walk.back) where
  pub whole_here : slots_by s group ≡ walk.front ++ slot ∷ at.back
  whole_here = walk.whole ∙ ap (λ l. walk.front ++ l) at.first

  pub after_here : IsFollowing previous slot (slots_by s group)
  after_here = record { front = walk.front; back = at.back; whole = whole_here; before = walk.before }

  pub node_here : (n : Node) → get s slot ≡ Some n → Chain (get s) group n.next at.back
  node_here n is = subst (λ (n : Node). Chain (get s) group n.next at.back) (some_is (sym at.is ∙ is)) at.chain

  pub walk_on : (n : Node) → get s slot ≡ Some n → LinkWalk s group (Some slot) n.next
  walk_on n is = record {
    front = walk.front ++ slot ∷ [];
    back = at.back;
    whole = whole_here ∙ sym (append_assoc walk.front (slot ∷ []) at.back);
    before = last_end None walk.front slot;
    ahead = starts_at (get s) group n.next at.back (node_here n is);
  }

  pub rest_here : (n : Node) → get s slot ≡ Some n → slots_from s (Some slot) ≡ slot ∷ slots_from s n.next
  rest_here n is = at.from ∙ ap (λ l. slot ∷ l) (sym (from_start s group n.next at.back (node_here n is)))

-- a walk that has reached its end has no slot ahead
pub no_more : (s : Slab Node) (slot : ℕ) → has_slot slot (slots_from s None) ≢ true
no_more s slot h = absurd (nothing (subst (λ l. has_slot slot l ≡ true) (chain_none (length s.slots) (get s)) h))
  where
    nothing : has_slot slot [] ≢ true
    nothing h = absurd (cc)
