use Rattle.std.proofs.Common.{◌≡◌, ◌*◌, length, pos, ◌+ℤ◌, ◌≤ℤ◌}
use Rattle.geom_core.specs.declared.geometry.Size.{Size}
use Rattle.seen_parts.specs.Meeting.{canvas_around}
use Rattle.view_model.specs.Visible.{whole_window}
use Rattle.view_tree.specs.Rows.{ancestors}
use Rattle.view_tree.specs.Views.{IsLive, held_of}
use Rattle.seen_parts.proofs.origins.origin.Given as goal

abbrev pub invariant-loop-outer : goal.invariant-loop-outer
invariant-loop-outer l = record {
  live : IsLive l.tree l.inner;
  across : (window : Size) → (canvas_around (held_of l.tree) (whole_window window) l.fn.view l.tree.tree).left
      ≡ l.left +ℤ (canvas_around (held_of l.tree) (whole_window window) l.inner l.tree.tree).left;
  down : (window : Size) → (canvas_around (held_of l.tree) (whole_window window) l.fn.view l.tree.tree).top
      ≡ l.top +ℤ (canvas_around (held_of l.tree) (whole_window window) l.inner l.tree.tree).top;
  right : (l.left +ℤ pos (4294967296 * length (ancestors l.inner l.tree.tree))) ≤ℤ pos 137438953472;
  left : pos (4294967296 * length (ancestors l.inner l.tree.tree)) ≤ℤ (l.left +ℤ pos 137438953472);
  bottom : (l.top +ℤ pos (4294967296 * length (ancestors l.inner l.tree.tree))) ≤ℤ pos 137438953472;
  top : pos (4294967296 * length (ancestors l.inner l.tree.tree)) ≤ℤ (l.top +ℤ pos 137438953472);
}

abbrev pub decreases-loop-outer : goal.decreases-loop-outer
decreases-loop-outer l = length (ancestors l.inner l.tree.tree)
