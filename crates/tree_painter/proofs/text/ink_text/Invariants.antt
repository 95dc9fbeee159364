use Rattle.std.proofs.Common.{◌≡◌, ◌≤◌, ◌*◌, ◌-◌, ◌+ℤ◌, ◌≤ℤ◌, pos, drop, length}
use Rattle.tree_painter.specs.Areas.{strip_between}
use Rattle.tree_painter.specs.Inks.{text_ink}
use Rattle.tree_painter.specs.Painted.{area_in, from_origin}
use Rattle.tree_painter.proofs.UnderWay.{IsUnderWay}
use Rattle.tree_painter.proofs.text.ink_text.Given as goal

abbrev pub invariant-loop-begin : goal.invariant-loop-begin
invariant-loop-begin l = record {
  within : l.begin ≤ length l.text;
  left : l.at.left ≡ l.fn.canvas.left;
  clip : l.at.clip ≡ l.fn.canvas.clip;
  low : l.fn.canvas.top ≤ℤ l.at.top;
  deep : l.at.top ≤ℤ (l.fn.canvas.top +ℤ pos (8 * l.begin));
  way : IsUnderWay (from_origin l.fn.canvas.left l.at.top (text_ink l.style.ink l.style.cells (drop l.begin l.text))) (from_origin l.fn.canvas.left l.fn.canvas.top (text_ink l.style.ink l.style.cells l.text)) l.fn.canvas.clip
      (strip_between l.fn.surface l.fn.canvas.clip l.at.top l.fn.canvas.clip.bottom) (area_in l.fn.surface l.fn.canvas.clip) l.fn.surface l.surface l.fn.work l.work;
}

abbrev pub decreases-loop-begin : goal.decreases-loop-begin
decreases-loop-begin l = length l.text - l.begin
