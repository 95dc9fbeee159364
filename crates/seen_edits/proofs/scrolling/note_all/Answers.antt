use Rattle.std.proofs.Common.{subst, sym}
use Rattle.seen_edits.proofs.ScrolledLaws.{notes_all, notes_more, notes_none, scrolled_at}
use Rattle.seen_edits.specs.Scrolled.{EntryIn, NotesEntry}
use Rattle.touch_dispatch.specs.declared.log.Entry.{Entry}
use Rattle.view_tree.specs.Views.{number_of}
use Rattle.seen_edits.proofs.scrolling.note_all.Goals as goal

pub loop-entry-init : goal.loop-entry-init
loop-entry-init c = record { grew = λ x y h. h; within = λ box first seen. first; noted = notes_none c.args.window c.args.damage.now.rect c.args.tree.now }

pub loop-entry-preserved : goal.loop-entry-preserved
loop-entry-preserved c = record {
  grew = λ x y h. c.note_entry.ensures.grew x y (c.loop-entry.invariant.grew x y h);
  within = λ box first seen.
      c.note_entry.ensures.within box (c.loop-entry.invariant.within box first seen)
      (subst (λ (e : Entry). EntryIn c.args.window box c.args.tree.now e) (sym c.entry-item.is)
      (λ key live has. seen key live (scrolled_at (number_of c.args.tree.now key) c.args.entries.now c.loop-entry.entry-index _ c.loop-entry-test.true has)));
  noted =
      notes_more c.args.window c.loop-entry.damage.rect c.note_entry.new.damage.rect c.args.tree.now c.args.entries.now c.loop-entry.entry-index _ c.loop-entry-test.true c.note_entry.ensures.grew
      c.loop-entry.invariant.noted (subst (λ (e : Entry). NotesEntry c.args.window c.note_entry.new.damage.rect c.args.tree.now e) c.entry-item.is c.note_entry.ensures.noted);
}

pub returns-clause-noted : goal.returns-clause-noted
returns-clause-noted c = notes_all c.args.window c.loop-entry.damage.rect c.args.tree.now c.args.entries.now c.loop-entry.entry-index c.loop-entry-test.false c.loop-entry.invariant.noted
