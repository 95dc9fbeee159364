-- The first cycle of a tree, as it is computed, against the relation.
use Rattle.std.proofs.Common.{◌≡◌, ◌≢◌, ℕ, ◌+◌, Bool, true, List, map, Option, Some, None, refl, sym, ◌∙◌, ap, arith, inl, inr}
use Rattle.std.proofs.lemmas.Bool.{cases_Bool, cases_eq, eq-eqb, ne_eqb}
use Rattle.std.specs.Prelude.{slice_index}
use Rattle.view_model.specs.declared.class.Class.{Class}
use Rattle.view_model.specs.declared.refusal.Member.{Member}
use Rattle.view_model.specs.Numbers.{cycle}
use Rattle.view_model.specs.Classes.{is_relative}
use Rattle.view_model.specs.Cycles.{cycle_among, cycle_below, first_cycle, links_in, numbers_in}
use Rattle.view_model.specs.Forest.{Forest, Nothing, Branch, EveryBranch}
use Rattle.view_model.specs.PlainTree.{PlainView}
use Rattle.view_model.specs.Refusals.{Cycle, PlainRefusal}
use Rattle.view_tree.proofs.forest.ForestLaws.{times_in}
use Rattle.view_tree.proofs.forest.PlainLaws.{or_none}
use Rattle.sibling_orders.specs.Cycles.{AreCyclic, HasNoCycle, IsCycleReported, IsFree}
use Rattle.sibling_orders.proofs.CycleLists.{map_twice, none_of, reported_of}
use Rattle.view_tree.proofs.orders.ListLaws.{among_times}

module _ (name : ℕ → Member) (kids : Forest PlainView) where
  pub none_among : IsFree (links_in kids) → cycle_among name kids ≡ None
  none_among free = none_of name (links_in kids) (numbers_in kids) free

  pub reported_among : (down : Bool) (members : List ℕ) → AreCyclic (links_in kids) down members
      → cycle_among name kids ≡ Some (record { number = cycle; reason = Cycle down (map name (map (slice_index (numbers_in kids)) members)) })
  reported_among down members cyclic = reported_of name (links_in kids) (numbers_in kids) down members cyclic

  -- the same by the places of the members
  pub reported_is : (refusal : PlainRefusal) → IsCycleReported (λ place. name (slice_index (numbers_in kids) place)) (links_in kids) refusal → cycle_among name kids ≡ Some refusal
  reported_is refusal reported =
      reported_among reported.down reported.members reported.cyclic
      ∙ ap (λ (members : List Member). let refusal : PlainRefusal = record { number = cycle; reason = Cycle reported.down members } in Some refusal) (sym (map_twice name (links_in kids) (numbers_in kids) reported.members))
      ∙ ap (λ (refusal : PlainRefusal). Some refusal) (sym reported.reported)

none_below : (name : ℕ → Member) (class : Class) (kids : Forest PlainView) → (is_relative class ≡ true → IsFree (links_in kids)) → cycle_below name class kids ≡ None
none_below name class kids free = elim (cases_Bool (is_relative class)) [
  | inl relative ↦ rw relative (none_among name kids (free relative))
  | inr other ↦ rw other refl
]

-- a tree without cycles has none to report
pub no_first_cycle : (name : ℕ → Member) (tree : Forest PlainView) → HasNoCycle tree → first_cycle name tree ≡ None
no_first_cycle name Nothing none = refl
no_first_cycle name (Branch view below after) none =
    rw (none_below name view.class below none.0, no_first_cycle name below none.1) (no_first_cycle name after none.2)

-- only a view of a number has cycles among its children, and this is reported of those
abbrev pub HasCycleAt : (ℕ → Member) → ℕ → Option PlainRefusal → PlainView → Forest PlainView → Type 0
HasCycleAt name number reason view kids =
    (view.number ≢ number → is_relative view.class ≡ true → IsFree (links_in kids)) × (view.number ≡ number → cycle_below name view.class kids ≡ reason)

abbrev pub HaveCyclesAt : (ℕ → Member) → ℕ → Option PlainRefusal → Forest PlainView → Type 0
HaveCyclesAt name number reason tree = EveryBranch (λ (view : PlainView) (kids : Forest PlainView). HasCycleAt name number reason view kids) tree

-- if no view has that number there are no cycles
pub none_away : (name : ℕ → Member) (number : ℕ) (reason : Option PlainRefusal) (tree : Forest PlainView) → HaveCyclesAt name number reason tree → times_in number tree ≡ 0 → HasNoCycle tree
none_away name number reason Nothing at away = tt
none_away name number reason (Branch view below after) at away = (
  at.0.0 (λ is. let own = among_times number (Branch view below after) (inl is) in absurd (omega arith)),
  none_away name number reason below at.1 (omega arith),
  none_away name number reason after at.2 (omega arith),
)

-- if one view has it, the first cycle is what is reported of its children
pub first_at : (name : ℕ → Member) (number : ℕ) (reason : Option PlainRefusal) (tree : Forest PlainView) → HaveCyclesAt name number reason tree → times_in number tree ≡ 1
    → first_cycle name tree ≡ reason
first_at name number reason Nothing at once = absurd (omega arith)
first_at name number reason (Branch view below after) at once = elim (cases_eq view.number number) [
  | inl is ↦
      let once : 1 + (times_in number below + times_in number after) ≡ 1 = rw (eq-eqb view.number number is) at once in
      let none = no_first_cycle name below (none_away name number reason below at.1 (omega arith)) in
      let later = no_first_cycle name after (none_away name number reason after at.2 (omega arith)) in
      rw (none, later) (or_none (cycle_below name view.class below) ∙ at.0.1 is)
  | inr isnt ↦
      let once : 0 + (times_in number below + times_in number after) ≡ 1 = rw (ne_eqb view.number number isnt) at once in
      let own = none_below name view.class below (at.0.0 isnt) in
      elim (cases_eq (times_in number below) 0) [
        | inl none ↦ rw (own, no_first_cycle name below (none_away name number reason below at.1 none)) (first_at name number reason after at.2 (omega arith))
        | inr some ↦
            let later = no_first_cycle name after (none_away name number reason after at.2 (omega arith)) in
            rw (own, later) (or_none (first_cycle name below) ∙ first_at name number reason below at.1 (omega arith))
      ]
]
