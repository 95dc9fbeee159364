use Rattle.std.proofs.Common.{take}
use Rattle.damage_rect.specs.Within.{LiesIn}
use Rattle.geom_core.specs.declared.geometry.Rect.{Rect}
use Rattle.seen_edits.specs.Scrolled.{NotesAll, ScrolledIn}
use Rattle.seen_edits.proofs.scrolling.note_all.Given as goal

abbrev pub invariant-loop-entry : goal.invariant-loop-entry
invariant-loop-entry l = record {
  grew : LiesIn l.fn.damage.rect l.damage.rect;
  within : (box : Rect) → LiesIn l.fn.damage.rect box → ScrolledIn l.window box l.tree l.entries → LiesIn l.damage.rect box;
  noted : NotesAll l.window l.damage.rect l.tree (take l.entry-index l.entries);
}
