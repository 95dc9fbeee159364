-- Cycles among the children of relative layouts, and why they make a tree refused.
use Rattle.std.specs.Prelude.{◌≡◌, ℕ, Bool, true, false, List, length, map, slice_index, Option, Some, None, Result, Ok}
use Rattle.std.specs.Prelude.{Err}
use Rattle.std.specs.Option.{option_or}
use Rattle.sibling_orders.specs.declared.groups.SiblingOrders.{SiblingOrders}
use Rattle.sibling_orders.specs.Ordering.{IsNewGroupFor, plain_group}
use Rattle.view_model.specs.declared.refusal.Member.{Member}
use Rattle.view_model.specs.declared.refusal.Member.TheVariants as member
use Rattle.view_model.specs.Numbers.{cycle}
use Rattle.view_model.specs.declared.relative.Axis.TheVariants.{Horizontal, Vertical}
use Rattle.view_model.specs.declared.relative.Link.{Link}
use Rattle.view_model.specs.Forest.{Forest, EveryBranch}
use Rattle.view_model.specs.Orders.{IsAcyclic, IsCycle, members_of}
use Rattle.view_model.specs.PlainTree.{PlainView}
use Rattle.view_model.specs.Refusals.{Cycle, PlainRefusal, plain_refusal}
use Rattle.view_model.specs.SiblingRules.{leads}
use Rattle.view_model.specs.declared.fault.Fault.{Fault}
use Rattle.view_model.specs.declared.fault.Fault.TheVariants as fault
use Rattle.view_model.specs.Classes.{is_relative}
use Rattle.view_model.specs.Cycles.{cycle_with, links_in, numbers_in}

-- no child reaches itself, on either axis
pub record IsFree (links : List Link) : Type 0 where
  pub across : IsAcyclic (leads Horizontal links)
  pub down : IsAcyclic (leads Vertical links)

-- the members of the cycles on the horizontal axis, or on the vertical if there are none on the horizontal
abbrev pub AreCyclic : List Link → Bool → List ℕ → Type 0
AreCyclic links false members = IsCycle (leads Horizontal links) (length links) members
AreCyclic links true members =
    IsAcyclic (leads Horizontal links) × IsCycle (leads Vertical links) (length links) members

-- there is a cycle, and its members are reported under these names
pub record IsCycleReported (name : ℕ → Member) (links : List Link) (refusal : PlainRefusal) : Type 0 where
  pub down : Bool
  pub members : List ℕ
  pub cyclic : AreCyclic links down members
  pub reported : refusal ≡ record { number = cycle; reason = Cycle down (map name members) }

-- a child that is a view, by its place
abbrev pub view_member : Forest PlainView → ℕ → Member
view_member kids place = member.View (slice_index (numbers_in kids) place)

-- no relative layout of a tree has a cycle
abbrev pub HasNoCycle : Forest PlainView → Type 0
HasNoCycle tree =
    EveryBranch (λ (view : PlainView) (kids : Forest PlainView). is_relative view.class ≡ true → IsFree (links_in kids))
    tree

-- the result reports a cycle with these members, unless memory runs out
abbrev pub IsReportedFrom : (ℕ → Member) → Bool → List ℕ → Fault → Type 0
IsReportedFrom name down members (fault.Refused refusal) =
    plain_refusal refusal ≡ record { number = cycle; reason = Cycle down (map name members) }
IsReportedFrom name down members fault.NoMemory = Unit {0}

-- what is reported if children with these links and these numbers are to be put in order
abbrev pub cycle_of : (ℕ → Member) → List Link → List ℕ → Option PlainRefusal
cycle_of name links numbers =
    option_or (cycle_with name false (map (slice_index numbers) (members_of (leads Horizontal links) (length links))))
    (cycle_with name true (map (slice_index numbers) (members_of (leads Vertical links) (length links))))

-- a value is made, or the reason against it is reported, unless memory runs out
abbrev pub IsMadeUnless : {A : Type 0} → Option PlainRefusal → (A → Type 0) → Result A Fault → Type 0
IsMadeUnless reason Made (Ok made) = (reason ≡ None) × Made made
IsMadeUnless reason Made (Err (fault.Refused refusal)) = reason ≡ Some (plain_refusal refusal)
IsMadeUnless reason Made (Err fault.NoMemory) = Unit {0}

-- the result for children that are to be put in order
abbrev pub IsGroupOrCycle : (ℕ → Member) → List Link → List ℕ → Result SiblingOrders Fault → Type 0
IsGroupOrCycle name links numbers result =
    IsMadeUnless (cycle_of name links numbers) (λ group. IsNewGroupFor links numbers (plain_group group)) result
