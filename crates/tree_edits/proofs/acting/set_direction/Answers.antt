use Rattle.tree_edits.specs.declared.edits.Edit.TheVariants as edit
use Rattle.view_model.specs.declared.changes.Act.TheVariants as act
use Rattle.tree_edits.proofs.TurnLaws.{turned_keep, turned_kept, turned_scene}
use Rattle.tree_edits.proofs.UnaskedLaws.{leaves_unasked}
use Rattle.tree_edits.proofs.acting.set_direction.Goals as goal

pub returns-clause-scene : goal.returns-clause-scene
returns-clause-scene c =
    let set = c.set_direction.ensures in
    turned_scene c.args.tree.now c.set_direction.new.self c.args.view c.args.direction set.is_tree c.requires.live set.plain set.tree set.next set.held

pub returns-clause-kept : goal.returns-clause-kept
returns-clause-kept c =
    let set = c.set_direction.ensures in
    turned_keep c.args.tree.now c.set_direction.new.self c.args.view c.args.direction set.is_tree c.requires.live set.tree set.next set.held

pub returns-clause-consistent : goal.returns-clause-consistent
returns-clause-consistent c =
    let set = c.set_direction.ensures in
    turned_kept c.args.tree.now c.set_direction.new.self c.args.view c.args.direction set.is_tree c.requires.live set.tree set.held

pub returns-clause-asked : goal.returns-clause-asked
returns-clause-asked c = leaves_unasked c.args.tree.now c.set_direction.new.self (edit.Act c.args.view (act.Direction c.args.direction)) (returns-clause-kept c)
