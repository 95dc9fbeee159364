use Rattle.std.proofs.Common.{◌≡◌, ◌+◌, ap, arith, length, sym, ◌∙◌}
use Rattle.std.proofs.lemmas.Int.{ints}
use Rattle.std.specs.Prelude.{pos}
use Rattle.seen_parts.proofs.ClimbLaws.{canvas_outermost, canvas_parent}
use Rattle.seen_parts.proofs.OriginLaws.{left_below, top_below}
use Rattle.seen_parts.specs.Meeting.{canvas_around}
use Rattle.view_model.specs.Visible.{Canvas, whole_window}
use Rattle.view_model.specs.declared.facts.Facts.{Facts}
use Rattle.view_tree.specs.Rows.{ancestors}
use Rattle.view_tree.specs.Views.{facts_of, held_of, state_of}
use Rattle.view_tree.specs.declared.node.state.State.{State}
use Rattle.seen_parts.proofs.origins.origin.Goals as goal

pub loop-outer-init : goal.loop-outer-init
loop-outer-init c =
    let few = c.recall_tree.ensures.shallow c.args.view c.requires in
    record {
      live = c.requires;
      across = λ window. omega (arith, ints);
      down = λ window. omega (arith, ints);
      right = omega (arith, ints, few);
      left = omega (arith, ints, few);
      bottom = omega (arith, ints, few);
      top = omega (arith, ints, few);
    }

pub loop-outer-preserved : goal.loop-outer-preserved
loop-outer-preserved c =
    let views = c.args.tree.now in
    let held = held_of views in
    let outer = c.in-Some.outer in
    let inner = c.loop-outer.inner in
    let i = c.loop-outer.invariant in
    let bounds = ap (λ (s : State). s.bounds) (sym c.state.ensures.value) ∙ c.in-Some-bounds.is in
    let offset = ap (λ (facts : Facts). facts.offset) c.facts.ensures.value in
    let one = c.from-left.ensures in
    let two = c.gap-top.ensures in
    let path : length (ancestors inner views.tree) ≡ length (ancestors outer views.tree) + 1 = ap length c.in-Some.ensures.path ∙ omega arith in
    record {
      live = c.in-Some.ensures.live;
      across = λ window.
          let parent = canvas_parent held inner outer views.tree (whole_window window) c.recall_tree.ensures.keys i.live c.in-Some.ensures.path in
          let before = i.across window in
          let below = left_below (state_of views outer).bounds (facts_of views outer) (canvas_around held (whole_window window) inner views.tree) (canvas_around held (whole_window window) outer views.tree) c.in-Some-bounds.bounds bounds parent in
          omega (arith, ints, before, below, one);
      down = λ window.
          let parent = canvas_parent held inner outer views.tree (whole_window window) c.recall_tree.ensures.keys i.live c.in-Some.ensures.path in
          let before = i.down window in
          let below = top_below (state_of views outer).bounds (facts_of views outer) (canvas_around held (whole_window window) inner views.tree) (canvas_around held (whole_window window) outer views.tree) c.in-Some-bounds.bounds bounds parent in
          omega (arith, ints, before, below, two, offset);
      right = let it = i.right in omega (arith, ints, it, path, one);
      left = let it = i.left in omega (arith, ints, it, path, one);
      bottom = let it = i.bottom in omega (arith, ints, it, path, two);
      top = let it = i.top in omega (arith, ints, it, path, two);
    }

pub returns : goal.returns
returns c = λ window.
    let held = held_of c.args.tree.now in
    let tree = c.args.tree.now.tree in
    let inner = c.loop-outer.inner in
    let i = c.loop-outer.invariant in
    let whole = canvas_outermost held inner tree (whole_window window) c.recall_tree.ensures.keys i.live c.in_default.ensures.path in
    let across = i.across window in
    let down = i.down window in
    let left : (canvas_around held (whole_window window) inner tree).left ≡ pos 0 = ap (λ (canvas : Canvas). canvas.left) whole in
    let top : (canvas_around held (whole_window window) inner tree).top ≡ pos 0 = ap (λ (canvas : Canvas). canvas.top) whole in
    (omega (arith, ints, across, left), omega (arith, ints, down, top))
