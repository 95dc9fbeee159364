use Rattle.std.proofs.Common.{length}
use Rattle.std.specs.Prelude.{IfSome}
use Rattle.damage_rect.specs.Within.{LiesIn}
use Rattle.geom_core.specs.declared.geometry.Rect.{Rect}
use Rattle.seen_edits.proofs.GivenLaws.{NotesBefore}
use Rattle.seen_edits.specs.Scrolled.{GivenIn}
use Rattle.view_tree.specs.tree.Preorder.{rows_from}
use Rattle.view_tree.specs.Views.{IsLive}
use Rattle.seen_edits.proofs.restoring.note_all.Given as goal

abbrev pub invariant-loop-next : goal.invariant-loop-next
invariant-loop-next l = record {
  live : IfSome l.next (λ view. IsLive l.tree view);
  grew : LiesIn l.fn.damage.rect l.damage.rect;
  noted : NotesBefore l.states l.window l.damage.rect l.tree l.next;
  within : (box : Rect) → LiesIn l.fn.damage.rect box → GivenIn l.states l.window box l.tree → LiesIn l.damage.rect box;
}

abbrev pub decreases-loop-next : goal.decreases-loop-next
decreases-loop-next l = length (rows_from l.next l.tree.tree)
