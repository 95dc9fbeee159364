use Rattle.window_stack.proofs.PaneLaws.{placed_all, placed_more, placed_none}
use Rattle.window_stack.proofs.panes.place_in.Goals as goal

pub loop-pane-init : goal.loop-pane-init
loop-pane-init c = placed_none c.args.to c.args.panes.now

pub loop-pane-preserved : goal.loop-pane-preserved
loop-pane-preserved c =
    placed_more c.args.to c.args.panes.now c.loop-pane.panes c.loop-pane.pane-index _ c.place.new.pane
    c.loop-pane.invariant c.loop-pane-test.true c.place.ensures

pub returns : goal.returns
returns c = placed_all c.args.to c.args.panes.now c.loop-pane.panes c.loop-pane.pane-index c.loop-pane.invariant c.loop-pane-test.false
