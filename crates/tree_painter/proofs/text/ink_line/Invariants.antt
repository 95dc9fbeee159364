use Rattle.std.proofs.Common.{◌-◌, ◌+ℤ◌, pos}
use Rattle.tree_painter.specs.Areas.{area_between, strip_between}
use Rattle.tree_painter.specs.Inks.{line_ink}
use Rattle.tree_painter.specs.Painted.{from_origin}
use Rattle.tree_painter.proofs.UnderWay.{IsUnderWay}
use Rattle.tree_painter.proofs.text.ink_line.Given as goal

abbrev pub invariant-loop-x : goal.invariant-loop-x
invariant-loop-x l = record {
  way : IsUnderWay (from_origin l.canvas.left l.canvas.top (line_ink l.ink l.line l.x)) (from_origin l.canvas.left l.canvas.top (line_ink l.ink l.line 0)) l.canvas.clip
      (area_between l.fn.surface l.canvas.clip (l.canvas.left +ℤ pos l.x) l.canvas.top l.canvas.clip.right (l.canvas.top +ℤ pos 8))
      (strip_between l.fn.surface l.canvas.clip l.canvas.top (l.canvas.top +ℤ pos 8)) l.fn.surface l.surface l.fn.work l.work;
}

abbrev pub decreases-loop-x : goal.decreases-loop-x
decreases-loop-x l = l.seen.to - l.x
