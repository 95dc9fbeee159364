use Rattle.std.proofs.Common.{◌≡◌, ◌+◌, ◌*◌, ◌<◌, ℕ, [], List}
use Rattle.std.specs.Prelude.{slice_index}
use Rattle.measure_pass.specs.Measured.{KeepsRest, kids_from, tree_from}
use Rattle.measure_pass.specs.Plans.{Frame, Linear, Scroll}
use Rattle.measure_pass.specs.Replacing.{AreReplaced}
use Rattle.measure_pass.specs.Siblings.{FirstHasSize, FirstIsKnown, kids_in, order_on, phase_of}
use Rattle.measure_pass.proofs.walks.PlanWalk.{PlanWalk}
use Rattle.measure_pass.proofs.relatives.SiblingTurns.{Turning}
use Rattle.relative_layout.specs.plan.RelativePlan.{RepresentsRelative}
use Rattle.view_model.specs.declared.facts.Facts.{Facts}
use Rattle.view_model.specs.Forest.{count_of}
use Rattle.view_model.specs.Measuring.{Specs}
use Rattle.view_model.specs.RelativeLayout.{Spanned, phase_axis}
use Rattle.view_tree.specs.Rows.{rest_from, siblings_from}
use Rattle.view_tree.specs.Views.{held_of, orders_of}
use Rattle.measure_pass.proofs.measuring.+measure.Given as goal

-- one round from a view to its child goes through these functions
abbrev pub decreases-measure : goal.decreases-measure
decreases-measure l = 12 * count_of (tree_from l.view l.tree.now.tree) + 10

abbrev pub decreases-measure_changed : goal.decreases-measure_changed
decreases-measure_changed l = 12 * count_of (tree_from l.view l.tree.now.tree) + 9

abbrev pub decreases-measure_anew : goal.decreases-measure_anew
decreases-measure_anew l = 12 * count_of (tree_from l.view l.tree.now.tree) + 8

abbrev pub decreases-measure_below : goal.decreases-measure_below
decreases-measure_below l = 12 * count_of (tree_from l.view l.tree.now.tree) + 7

abbrev pub decreases-frame::measure_frame : goal.decreases-frame::measure_frame
decreases-frame::measure_frame l = 12 * count_of (tree_from l.view l.tree.now.tree) + 6

abbrev pub decreases-frame::measure_more : goal.decreases-frame::measure_more
decreases-frame::measure_more l = 12 * count_of (tree_from l.view l.tree.now.tree) + 2 + 2 * l.left

abbrev pub decreases-frame::measure_phases : goal.decreases-frame::measure_phases
decreases-frame::measure_phases l = 12 * count_of (tree_from l.view l.tree.now.tree) + 1 + 2 * l.left

abbrev pub decreases-frame::measure_kids : goal.decreases-frame::measure_kids
decreases-frame::measure_kids l = 12 * count_of (tree_from l.view l.tree.now.tree)

abbrev pub invariant-frame::measure_kids-loop-next : goal.invariant-frame::measure_kids-loop-next
invariant-frame::measure_kids-loop-next l =
    PlanWalk (Frame l.fn.plan) (Frame l.plan) l.fn.tree l.tree (kids_from l.view l.fn.tree.tree) l.next l.fn.work l.work

abbrev pub decreases-frame::measure_kids-loop-next : goal.decreases-frame::measure_kids-loop-next
decreases-frame::measure_kids-loop-next l = count_of (rest_from l.next l.tree.tree)

abbrev pub decreases-frame::measure_kid : goal.decreases-frame::measure_kid
decreases-frame::measure_kid l = 12 * count_of (tree_from l.kid l.tree.now.tree) + 11

abbrev pub decreases-linear::measure_linear : goal.decreases-linear::measure_linear
decreases-linear::measure_linear l = 12 * count_of (tree_from l.view l.tree.now.tree) + 6

abbrev pub decreases-linear::measure_more : goal.decreases-linear::measure_more
decreases-linear::measure_more l = 12 * count_of (tree_from l.view l.tree.now.tree) + 2 + 2 * l.left

abbrev pub decreases-linear::measure_phases : goal.decreases-linear::measure_phases
decreases-linear::measure_phases l = 12 * count_of (tree_from l.view l.tree.now.tree) + 1 + 2 * l.left

abbrev pub decreases-linear::measure_kids : goal.decreases-linear::measure_kids
decreases-linear::measure_kids l = 12 * count_of (tree_from l.view l.tree.now.tree)

abbrev pub invariant-linear::measure_kids-loop-next : goal.invariant-linear::measure_kids-loop-next
invariant-linear::measure_kids-loop-next l =
    PlanWalk (Linear l.fn.plan) (Linear l.plan) l.fn.tree l.tree (kids_from l.view l.fn.tree.tree) l.next l.fn.work l.work

abbrev pub decreases-linear::measure_kids-loop-next : goal.decreases-linear::measure_kids-loop-next
decreases-linear::measure_kids-loop-next l = count_of (rest_from l.next l.tree.tree)

abbrev pub decreases-linear::measure_kid : goal.decreases-linear::measure_kid
decreases-linear::measure_kid l = 12 * count_of (tree_from l.kid l.tree.now.tree) + 11

abbrev pub decreases-scroll::measure_scroll : goal.decreases-scroll::measure_scroll
decreases-scroll::measure_scroll l = 12 * count_of (tree_from l.view l.tree.now.tree) + 6

abbrev pub decreases-scroll::measure_more : goal.decreases-scroll::measure_more
decreases-scroll::measure_more l = 12 * count_of (tree_from l.view l.tree.now.tree) + 2 + 2 * l.left

abbrev pub decreases-scroll::measure_phases : goal.decreases-scroll::measure_phases
decreases-scroll::measure_phases l = 12 * count_of (tree_from l.view l.tree.now.tree) + 1 + 2 * l.left

abbrev pub decreases-scroll::measure_kids : goal.decreases-scroll::measure_kids
decreases-scroll::measure_kids l = 12 * count_of (tree_from l.view l.tree.now.tree)

abbrev pub invariant-scroll::measure_kids-loop-next : goal.invariant-scroll::measure_kids-loop-next
invariant-scroll::measure_kids-loop-next l =
    PlanWalk (Scroll l.fn.plan) (Scroll l.plan) l.fn.tree l.tree (kids_from l.view l.fn.tree.tree) l.next l.fn.work l.work

abbrev pub decreases-scroll::measure_kids-loop-next : goal.decreases-scroll::measure_kids-loop-next
decreases-scroll::measure_kids-loop-next l = count_of (rest_from l.next l.tree.tree)

abbrev pub decreases-scroll::measure_kid : goal.decreases-scroll::measure_kid
decreases-scroll::measure_kid l = 12 * count_of (tree_from l.kid l.tree.now.tree) + 11

abbrev pub decreases-relative::measure_siblings : goal.decreases-relative::measure_siblings
decreases-relative::measure_siblings l = 12 * count_of (tree_from l.view l.tree.now.tree) + 6

abbrev pub decreases-relative::measure_turns : goal.decreases-relative::measure_turns
decreases-relative::measure_turns l = 12 * count_of (tree_from l.view l.tree.now.tree)

abbrev pub invariant-relative::measure_turns-loop-turn : goal.invariant-relative::measure_turns-loop-turn
invariant-relative::measure_turns-loop-turn l =
    let list = kids_from l.view l.fn.tree.tree in
    let start = held_of l.fn.tree in
    let now = held_of l.tree in
    let order = order_on l.axis (orders_of l.fn.tree l.view) in
    record {
      turning : (own : Facts) (specs : Specs) (past : List (List Spanned)) → RepresentsRelative l.fn.plan own specs past [] → phase_axis past ≡ l.axis
          → ((place : ℕ) → FirstIsKnown l.axis start ((phase_of l.axis own specs (kids_in list)).before place) (siblings_from place list))
          → Turning l.plan l.axis own specs past order l.turn start now list l.fn.work.measured l.work.measured;
      sizes : (q : ℕ) → q < l.turn → FirstHasSize now (siblings_from (slice_index order q) list);
      rest : KeepsRest l.fn.tree l.tree list l.fn.work l.work;
      replaced : AreReplaced l.fn.tree.tree l.view l.axis l.rtl l.replaced;
    }

abbrev pub decreases-relative::measure_in_turn : goal.decreases-relative::measure_in_turn
decreases-relative::measure_in_turn l = 12 * count_of (tree_from l.turn.kid l.tree.now.tree) + 11
