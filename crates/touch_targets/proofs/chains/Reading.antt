-- What the nodes of a group and of a target hold about the targets.
use Rattle.std.proofs.Common.{◌≡◌, ℕ, true, List, [], ◌∷◌, Option, Some, None, map, refl, sym, ◌∙◌, ap, subst, inl, inr}
use Rattle.std.proofs.lemmas.Bool.{cases_eq, eq-eqb, ne_eqb}
use Rattle.slab.specs.Slab.{Slab, get}
use Rattle.touch_event.specs.PointerSets.{has_id}
use Rattle.touch_targets.specs.Captures.{Target, first_child, from_child, targets_from}
use Rattle.touch_targets.specs.Nodes.{AreLinked, Chain, caught_at, has_slot, slots_by}
use Rattle.touch_targets.specs.Seats.{target_of}
use Rattle.touch_targets.specs.declared.node.Node.{Node}
use Rattle.touch_targets.proofs.chains.Chains.{There, cases_Option, has_cases, has_first, has_later, from_start, no_some, some_is, there, true_not_false}

-- slots as targets
abbrev pub targets_at : Slab Node → List ℕ → List Target
targets_at s ps = map target_of (map (λ p. caught_at (get s p)) ps)

abbrev pub target_by : Node → Target
target_by n = record { child = n.view; ids = has_id n.ids }

-- what the slot where a chain starts holds about its targets
pub record StartsWith (s : Slab Node) (p : ℕ) (targets : List Target) : Type 0 where
  pub node : Node
  pub is : get s p ≡ Some node
  pub child : Some node.view ≡ first_child targets
  pub part : targets_from (Some node.view) targets ≡ targets

pub starts_with : (s : Slab Node) (g p : ℕ) (ps : List ℕ) → Chain (get s) g (Some p) ps → StartsWith s p (targets_at s ps)
starts_with s g p [] c = no_some c refl
starts_with s g p (q ∷ ps) c =
    let is : p ≡ q = some_is c.0 in
    record {
      node = c.2;
      is = ap (get s) is ∙ c.3;
      child = rw c.3 refl;
      part = rw (c.3, eq-eqb c.2.view c.2.view refl) refl;
    }

pub starts_none : (s : Slab Node) (g : ℕ) (ps : List ℕ) → Chain (get s) g None ps → targets_at s ps ≡ []
starts_none s g [] c = refl
starts_none s g (q ∷ ps) c = no_some refl c.0

-- the targets from one on
pub record FoundTarget (s : Slab Node) (g : ℕ) (k : Node) (ps : List ℕ) : Type 0 where
  pub rest : List ℕ
  pub chain : Chain (get s) g k.next rest
  pub within : (q : ℕ) → has_slot q rest ≡ true → has_slot q ps ≡ true
  pub from : from_child k.view (targets_at s ps) ≡ target_by k ∷ targets_at s rest

module _ (s : Slab Node) (linked : AreLinked s) where
  pub found : (g : ℕ) (start : Option ℕ) (p : ℕ) (k : Node) (ps : List ℕ) → Chain (get s) g start ps → get s p ≡ Some k → has_slot p ps ≡ true → FoundTarget s g k ps
  found g start p k [] c is has = true_not_false has refl
  found g start p k (q ∷ ps) c is has =
      elim (cases_eq q p) [
        | inl e ↦
            let same : c.2 ≡ k = some_is (sym c.3 ∙ ap (get s) e ∙ is) in
            record {
              rest = ps;
              chain = subst (λ (n : Node). Chain (get s) g n.next ps) same c.5;
              within = λ r has. has_later q r ps has;
              from = rw (c.3, same, eq-eqb k.view k.view refl) refl;
            }
        | inr ne ↦
            let later : has_slot p ps ≡ true = elim (has_cases q p ps has) [ inl e ↦ absurd (ne (sym e)) | inr later ↦ later ] in
            let f = found g c.2.next p k ps c.5 is later in
            record {
              rest = f.rest;
              chain = f.chain;
              within = λ r has. has_later q r ps (f.within r has);
              from = rw (c.3, ne_eqb c.2.view k.view (λ e. ne (linked.single q p c.2 k c.3 is e))) f.from;
            }
      ]

  -- the target after one
  pub next_some : (g : ℕ) (start : Option ℕ) (q : ℕ) (k : Node) (ps : List ℕ) → Chain (get s) g start ps → (f : FoundTarget s g k ps) → k.next ≡ Some q → (m : Node) → get s q ≡ Some m
      → (Some m.view ≡ first_child (targets_at s f.rest)) × (targets_from (Some m.view) (targets_at s ps) ≡ targets_at s f.rest)
  next_some g start q k ps c f next m is =
      go f.rest (subst (λ o. Chain (get s) g o f.rest) next f.chain) f.within
    where
      go : (rest : List ℕ) → Chain (get s) g (Some q) rest → ((r : ℕ) → has_slot r rest ≡ true → has_slot r ps ≡ true)
          → (Some m.view ≡ first_child (targets_at s rest)) × (targets_from (Some m.view) (targets_at s ps) ≡ targets_at s rest)
      go [] d within = no_some d refl
      go (r ∷ rest) d within =
          let same : q ≡ r = some_is d.0 in
          let node : d.2 ≡ m = some_is (sym d.3 ∙ ap (get s) (sym same) ∙ is) in
          let there : has_slot q ps ≡ true = within q (subst (λ x. has_slot x (r ∷ rest) ≡ true) (sym same) (has_first r rest)) in
          let second = found g start q m ps c is there in
          let following : second.rest ≡ rest =
          sym (from_start s g m.next second.rest second.chain) ∙ from_start s g m.next rest (subst (λ (n : Node). Chain (get s) g n.next rest) node d.5) in
          (rw (d.3, node) refl, second.from ∙ ap (λ l. target_by m ∷ targets_at s l) following ∙ rw (d.3, node) refl)

  -- the node that a target names is there
  pub next_there : (p q : ℕ) (k : Node) → get s p ≡ Some k → k.next ≡ Some q → There (get s q)
  next_there p q k is next =
      elim (cases_Option k.group) [
        | inl none ↦ no_some (linked.free p k is none).0 next
        | inr g ↦
            let m = linked.member p g.value k is g.is in
            let n = there (get s g.value) m.0 in
            let chain = linked.chained g.value n.value n.is in
            let f = found g.value n.value.newest p k (slots_by s g.value) chain is m.1 in
            let w = starts_with s g.value q f.rest (subst (λ o. Chain (get s) g.value o f.rest) next f.chain) in
            record { value = w.node; is = w.is }
      ]
