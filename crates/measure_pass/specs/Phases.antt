-- The measuring of views as a plan asks for it: some of a phase, a whole phase, and all phases that are left.
use Rattle.std.specs.Prelude.{◌≤◌, ◌+◌, ℕ, List, [], length}
use Rattle.measure_pass.specs.Courses.{AfterAll, AfterPhase, CanTurn, InCourse, StaysReady}
use Rattle.measure_pass.specs.Plans.{RuledView, GroupPlan, Represents, rule_in}
use Rattle.measure_pass.specs.declared.measuring.keeping.Outcome.{Outcome}
use Rattle.view_model.specs.Numbers.{max_views}
use Rattle.view_model.specs.declared.work.Work.{Work}
use Rattle.view_model.specs.Course.{Requested}
use Rattle.view_model.specs.Forest.{Forest, count_of}
use Rattle.view_model.specs.Measuring.{Measured}
use Rattle.view_tree.specs.Rows.{Row}
use Rattle.view_tree.specs.Views.{Views, held_of}

-- a moment of measuring: the views, and the work that was counted until then
pub record Moment : Type 0 where
  pub views : Views
  pub work : Work

-- from one plan to another the views of a list are measured as the plan asks, after others of the same phase
abbrev pub MeasuresNext : GroupPlan → GroupPlan → Forest Row → Moment → Moment → Type 0
MeasuresNext old new list before after =
    (group : RuledView) (past : List (List Measured)) (taken : List Measured) (kids : List Requested)
    → Represents old group past taken
    → length taken + count_of list ≤ max_views → InCourse (held_of before.views) list kids
    → CanTurn (rule_in group) past kids
    → AfterPhase new group past taken kids (held_of before.views) (held_of after.views) list before.work.measured
    after.work.measured

-- those of a whole phase
abbrev pub MeasuresPhase : GroupPlan → GroupPlan → Forest Row → Moment → Moment → Type 0
MeasuresPhase old new list before after =
    (group : RuledView) (past : List (List Measured)) (kids : List Requested) → Represents old group past []
    → InCourse (held_of before.views) list kids
    → CanTurn (rule_in group) past kids
    → AfterPhase new group past [] kids (held_of before.views) (held_of after.views) list before.work.measured
    after.work.measured

-- and those of the next phase and of up to n more, with what results
abbrev pub MeasuresAll : ℕ → GroupPlan → Forest Row → Outcome → Moment → Moment → Type 0
MeasuresAll left plan list result before after =
    (group : RuledView) (past : List (List Measured)) (kids : List Requested) → Represents plan group past []
    → InCourse (held_of before.views) list kids
    → StaysReady (rule_in group) left (record { past = past; kids = kids })
    → AfterAll group left (record { past = past; kids = kids }) (held_of before.views) (held_of after.views) list
    result.size result.total before.work.measured after.work.measured

-- how many phases a plan has at most after the next one
abbrev pub ArePhasesLeft : ℕ → Type 0
ArePhasesLeft count = count ≤ 2
