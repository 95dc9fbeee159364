-- Cycles among children that are to be put in order, as they are computed.
use Rattle.std.proofs.Common.{◌≡◌, ℕ, ◌<◌, Bool, true, false, List, [], ◌∷◌, map, length, None, Some, sym, ◌∙◌, ap, arith, refl}
use Rattle.std.specs.declared.alloc.Global.{Global}
use Rattle.std.specs.Prelude.{Vec, slice_index, Err}
use Rattle.relative_layout.specs.declared.ordering.OrderFault.TheVariants as order
use Rattle.relative_layout.specs.ordering.Sorting.{IsFaultOf}
use Rattle.view_model.specs.declared.refusal.Member.{Member}
use Rattle.view_model.specs.Numbers.{cycle}
use Rattle.view_model.specs.declared.relative.Axis.{Axis}
use Rattle.view_model.specs.declared.relative.Axis.TheVariants.{Horizontal, Vertical}
use Rattle.view_model.specs.declared.relative.Link.{Link}
use Rattle.view_model.specs.Cycles.{cycle_with}
use Rattle.view_model.specs.Orders.{IsAcyclic, IsCycle, members_of}
use Rattle.view_model.specs.Refusals.{Cycle, PlainRefusal}
use Rattle.view_model.specs.SiblingRules.{leads}
use Rattle.view_model.proofs.MemberLaws.{leads_inside, members_are, no_members}
use Rattle.sibling_orders.specs.Cycles.{AreCyclic, IsFree, IsReportedFrom, IsGroupOrCycle, cycle_of}
use Rattle.view_model.specs.declared.fault.Fault.{Fault}
use Rattle.view_model.specs.declared.fault.Fault.TheVariants as fault

module _ (name : ℕ → Member) (links : List Link) (numbers : List ℕ) where
  -- an axis without cycles has none to report
  none_on : (axis : Axis) (down : Bool) → IsAcyclic (leads axis links) → cycle_with name down (map (slice_index numbers) (members_of (leads axis links) (length links))) ≡ None
  none_on axis down acyclic = ap (λ (members : List ℕ). cycle_with name down (map (slice_index numbers) members)) (no_members (leads axis links) (length links) acyclic)

  pub none_of : IsFree links → cycle_of name links numbers ≡ None
  none_of free = rw (none_on Horizontal false free.across) (none_on Vertical true free.down)

  reported_with : (down : Bool) (members : List ℕ) → 0 < length members
      → cycle_with name down (map (slice_index numbers) members) ≡ Some (record { number = cycle; reason = Cycle down (map name (map (slice_index numbers) members)) })
  reported_with down [] some = absurd (omega arith)
  reported_with down (first ∷ members) some = refl

  -- an axis with cycles has their members to report
  reported_on : (axis : Axis) (down : Bool) (members : List ℕ) → IsCycle (leads axis links) (length links) members
      → cycle_with name down (map (slice_index numbers) (members_of (leads axis links) (length links)))
      ≡ Some (record { number = cycle; reason = Cycle down (map name (map (slice_index numbers) members)) })
  reported_on axis down members is =
      ap (λ (members : List ℕ). cycle_with name down (map (slice_index numbers) members))
      (sym (members_are (leads axis links) (length links) (leads_inside axis links) members is.exact))
      ∙ reported_with down members is.some

  pub reported_of : (down : Bool) (members : List ℕ) → AreCyclic links down members
      → cycle_of name links numbers ≡ Some (record { number = cycle; reason = Cycle down (map name (map (slice_index numbers) members)) })
  reported_of false members cyclic = rw (reported_on Horizontal false members cyclic) refl
  reported_of true members cyclic = rw (none_on Horizontal false cyclic.0) (reported_on Vertical true members cyclic.1)

  pub map_twice : (members : List ℕ) → map (λ place. name (slice_index numbers place)) members ≡ map name (map (slice_index numbers) members)
  map_twice [] = refl
  map_twice (first ∷ members) = ap (λ (rest : List Member). name (slice_index numbers first) ∷ rest) (map_twice members)

  cyclic_of : (down : Bool) (members : Vec ℕ Global) → IsFaultOf links (order.Cycle down members) → AreCyclic links down members.items
  cyclic_of true members is = is
  cyclic_of false members is = is

  -- what is reported of a fault is what is computed
  pub reported_is : (down : Bool) (members : Vec ℕ Global) (fault : Fault) → IsFaultOf links (order.Cycle down members)
      → IsReportedFrom (λ place. name (slice_index numbers place)) down members.items fault → IsGroupOrCycle name links numbers (Err fault)
  reported_is down members (fault.Refused refusal) is reported =
      reported_of down members.items (cyclic_of down members is)
      ∙ ap (λ (members : List Member). let refusal : PlainRefusal = record { number = cycle; reason = Cycle down members } in Some refusal) (sym (map_twice members.items))
      ∙ ap (λ (refusal : PlainRefusal). Some refusal) (sym reported)
  reported_is down members fault.NoMemory is reported = tt
