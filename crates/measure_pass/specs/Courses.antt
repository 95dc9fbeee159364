-- What is left with the children of a view in the course of its measuring.
use Rattle.std.specs.Prelude.{◌≡◌, ℤ, ℕ, ◌+◌, zero, suc, Bool, true, false, if◌then◌else◌, Option, Some, None, List, []}
use Rattle.std.specs.Prelude.{◌∷◌, ◌++◌, sum_by}
use Rattle.geom_core.specs.Limits.{IsSide}
use Rattle.geom_core.specs.declared.geometry.Size.{Size}
use Rattle.measure_pass.specs.Caches.{AskedAt, asked_under}
use Rattle.kept_views.specs.Kept.{IsSized, Sized, last_edges, last_specs}
use Rattle.measure_pass.specs.Measured.{Costs, calls_under, edges_under, finals_under, size_under, total_under}
use Rattle.measure_pass.specs.Plans.{RuledView, GroupPlan, Represents, rule_in}
use Rattle.measure_pass.specs.Sharing.{MeasuringTrace}
use Rattle.view_model.specs.declared.class.Class.TheVariants.{RelativeLayout}
use Rattle.view_model.specs.Course.{Child, MeasuringProgress, Requested, after_phase, after_turn, last_of, measured_of}
use Rattle.view_model.specs.Course.{one_phase, phases_on, size_after, size_in, sizes_of}
use Rattle.view_model.specs.Facts.{is_shown}
use Rattle.view_model.specs.Forest.{Forest, Nothing, Branch}
use Rattle.view_model.specs.Layout.{child_under}
use Rattle.view_model.specs.Measuring.{Measured, Rule, Specs, counted_as}
use Rattle.view_tree.specs.Rows.{Row, children_of_first, head_view, views_of}
use Rattle.view_tree.specs.Views.{Held, specs_of}

-- a row as a child
abbrev pub child_of : Row → Forest Row → Child
child_of row kids = child_under row.view (views_of kids)

-- a view was last measured under the last of these specs, if there are any, and all below it for that, down to marked
-- ones
abbrev pub MeasuredFor : (ℕ → Held) → Row → Forest Row → List Specs → Type 0
MeasuredFor held row kids [] = Unit {0}
MeasuredFor held row kids (specs ∷ more) =
    (specs_of (held row.key).state ≡ last_of specs more) × IsSized held (held row.key) row kids
    × ((held row.key).state.measure_first ≡ false → Sized held kids)

-- the views of a list are these children, each measured for what was asked of it so far
abbrev pub InCourse : (ℕ → Held) → Forest Row → List Requested → Type 0
InCourse held Nothing [] = Unit {0}
InCourse held Nothing (kid ∷ more) = ⊥
InCourse held (Branch row kids siblings) [] = ⊥
InCourse held (Branch row kids siblings) (kid ∷ more) =
    (kid.child ≡ child_of row kids) × MeasuredFor held row kids kid.requests × InCourse held siblings more

abbrev pub has_requests : List Specs → Bool
has_requests [] = false
has_requests (specs ∷ more) = true

-- a child whose turn comes: what its group asks, and the size with which it is taken, are the same if the child is
-- given the size that is kept of it, which is of an earlier measuring of the whole group if this one did not measure it
-- so far
pub record TurnIsKnown (rule : Rule) (past : List (List Measured)) (kid : Requested) : Type 0 where
  pub asked : (taken : List Measured) (present : Size)
      → (has_requests kid.requests ≡ true → present ≡ size_after kid.child kid.requests)
      → rule.ask past taken (record { facts = kid.child.facts; size = present }) ≡ rule.ask past taken (measured_of kid)
  pub left : (taken : List Measured) (present : Size)
      → (has_requests kid.requests ≡ true → present ≡ size_after kid.child kid.requests)
      → rule.ask past taken (measured_of kid) ≡ None → counted_as past None present ≡ size_after kid.child kid.requests
  pub got : (taken : List Measured) (specs : Specs) (size : Size) → rule.ask past taken (measured_of kid) ≡ Some specs
      → counted_as past (rule.ask past taken (record { facts = kid.child.facts; size = size })) size ≡ size

-- so is that of each of some children
abbrev pub CanTurn : Rule → List (List Measured) → List Requested → Type 0
CanTurn rule past [] = Unit {0}
CanTurn rule past (kid ∷ kids) = (is_shown kid.child.facts ≡ true → TurnIsKnown rule past kid) × CanTurn rule past kids

-- so it is in the next phase, and in those that follow
abbrev pub StaysReady : Rule → ℕ → MeasuringProgress → Type 0
StaysReady rule zero progress = CanTurn rule progress.past progress.kids
StaysReady rule (suc left) progress =
    CanTurn rule progress.past progress.kids
    × (rule.turns (one_phase rule progress).past ≡ true → StaysReady rule left (one_phase rule progress))

-- how many views are measured if a child gets these specs, if any
abbrev pub calls_for : Option Specs → Child → ℕ
calls_for None kid = 0
calls_for (Some specs) kid = kid.calls specs

-- how many in the turn of a child, and in a whole phase
abbrev pub turn_calls : (List Measured → Measured → Option Specs) → List Measured → Requested → ℕ
turn_calls ask taken kid = if is_shown kid.child.facts then calls_for (ask taken (measured_of kid)) kid.child else 0

abbrev pub phase_calls : (List Measured → Measured → Option Specs) → List Measured → List Requested → ℕ
phase_calls ask taken [] = 0
phase_calls ask taken (kid ∷ kids) =
    turn_calls ask taken kid + phase_calls ask (taken ++ size_in (after_turn ask taken kid)) kids

-- how many for all that was asked of these children so far
abbrev pub calls_of : List Requested → ℕ
calls_of kids = sum_by (λ (kid : Requested). sum_by kid.child.calls kid.requests) kids

-- the views below the first one of a list were measured for it under these specs: its size is known, and its own
-- measuring is all that is still to be counted
pub record IsMeasuredBelow (part : Forest Row) (specs : Specs) (before held : ℕ → Held) (answer : Size) (total : ℤ)
    (old new : ℕ) : Type 0 where
  pub size : answer ≡ size_under part specs
  pub length : total ≡ total_under part specs
  pub width : IsSide answer.w
  pub height : IsSide answer.h
  pub sized : Sized held (children_of_first part)
  pub finals : last_specs held (children_of_first part) ≡ finals_under part specs
  pub edges : (head_view part).class ≡ RelativeLayout
      → last_edges held (children_of_first part) ≡ edges_under part specs
  pub costs : Costs (children_of_first part) before held old (calls_under part specs) (new + 1)
  pub trace : MeasuringTrace (asked_under part specs) (λ place. 3) before held (children_of_first part) old new

-- a plan has taken the views of a list, which are these children, after others of the same phase
pub record AfterPhase (plan : GroupPlan) (group : RuledView) (past : List (List Measured)) (taken : List Measured)
    (kids : List Requested)
    (before held : ℕ → Held) (list : Forest Row) (old new : ℕ) : Type 0 where
  pub plan_represents : Represents plan group past
      (taken ++ sizes_of (after_phase ((rule_in group).ask past) taken kids))
  pub course : InCourse held list (after_phase ((rule_in group).ask past) taken kids)
  pub costs : Costs list before held old (phase_calls ((rule_in group).ask past) taken kids) new
  pub trace : MeasuringTrace (AskedAt (after_phase ((rule_in group).ask past) taken kids)) (λ place. 1) before held list
      old new

-- what follows for the children of a group from completed phases and the next one, up to n more
abbrev pub from_here : RuledView → ℕ → MeasuringProgress → MeasuringProgress
from_here group left progress = phases_on left (rule_in group) (one_phase (rule_in group) progress)

-- a group's whole measuring, from completed phases
pub record AfterAll (group : RuledView) (left : ℕ) (progress : MeasuringProgress) (before held : ℕ → Held)
    (list : Forest Row) (answer : Size) (total : ℤ)
    (old new : ℕ) : Type 0 where
  pub size : answer ≡ (rule_in group).size (from_here group left progress).past
  pub length : total ≡ (rule_in group).total (from_here group left progress).past
  pub represents : InCourse held list (from_here group left progress).kids
  pub more : ℕ
  pub calls : calls_of (from_here group left progress).kids ≡ calls_of progress.kids + more
  pub costs : Costs list before held old more new
  pub trace : MeasuringTrace (AskedAt (from_here group left progress).kids) (λ place. 1 + left) before held list
      old new
