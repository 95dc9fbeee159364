-- What an order of a relative layout's children is, or why there is none.
use Rattle.std.specs.Prelude.{◌≡◌, ℕ, ◌<◌, Bool, true, false, List, length}
use Rattle.relative_layout.specs.declared.ordering.OrderFault.{OrderFault}
use Rattle.relative_layout.specs.declared.ordering.OrderFault.TheVariants as fault
use Rattle.relative_layout.specs.declared.ordering.Sorting.{Sorting}
use Rattle.relative_layout.specs.declared.ordering.Sorting.TheVariants as sorting
use Rattle.relative_layout.specs.ordering.Topological.{IsPartial, Waits, is_marked}
use Rattle.view_model.specs.declared.relative.Axis.{Axis}
use Rattle.view_model.specs.declared.relative.Axis.TheVariants.{Horizontal, Vertical}
use Rattle.view_model.specs.declared.relative.Link.{Link}
use Rattle.view_model.specs.Orders.{IsAcyclic, IsCycle, IsOrder}
use Rattle.view_model.specs.SiblingRules.{leads}

-- a cycle on the horizontal axis, or one on the vertical if there is none on the horizontal; memory may run out in
-- either case
abbrev pub IsFaultOf : List Link → OrderFault → Type 0
IsFaultOf kids (fault.Cycle true members) =
    IsAcyclic (leads Horizontal kids) × IsCycle (leads Vertical kids) (length kids) members.items
IsFaultOf kids (fault.Cycle false members) = IsCycle (leads Horizontal kids) (length kids) members.items
IsFaultOf kids fault.NoMemory = Unit {0}

-- an order on an axis, if no child reaches itself, or the members of its cycles
abbrev pub IsSorting : Axis → List Link → Sorting → Type 0
IsSorting axis kids (sorting.Order order) =
    IsOrder (leads axis kids) (length kids) order.items × IsAcyclic (leads axis kids)
IsSorting axis kids (sorting.Cycle members) = IsCycle (leads axis kids) (length kids) members.items

-- an order that can't be made longer: each child that is not taken waits for another that is not
pub record IsLongest (leads : ℕ → ℕ → Bool) (count : ℕ) (order : List ℕ) : Type 0 where
  pub taken : List Bool
  pub size : length taken ≡ count
  pub partial : IsPartial leads count order taken
  pub waits : (k : ℕ) → k < count → is_marked taken k ≡ false → Waits leads taken k
