use Rattle.seen_edits.proofs.GivenLaws.{shown_given}
use Rattle.seen_edits.proofs.restoring.restore_views.Goals as goal

pub returns-in-Ok-clause-shown : goal.returns-in-Ok-clause-shown
returns-in-Ok-clause-shown c =
    shown_given c.args.window c.args.damage.now.rect c.note_given.new.damage.rect c.args.tree.now c.restore.new.tree c.args.states.now
    c.recall_tree.ensures c.recall_tree-in-Ok.ensures c.in-Ok.ensures.restates c.in-Ok.ensures.held c.note_given.ensures.grew c.note_given.ensures.noted
