use Rattle.std.proofs.Common.{rules, ◌≡◌, Ok, Some, ap, sym, ◌∙◌}
use Rattle.view_model.specs.Facts.{new_facts}
use Rattle.view_tree.specs.tree.Attached.{Attached}
use Rattle.view_tree.specs.tree.Directions.{running_below}
use Rattle.tree_edits.specs.Asking.{listed}
use Rattle.tree_edits.specs.Editing.{new_view}
use Rattle.tree_edits.specs.Scene.{EditScene, scene_of}
use Rattle.tree_edits.specs.declared.edits.Edit.TheVariants as edit
use Rattle.tree_edits.proofs.ConsistentLaws.{attached_kept}
use Rattle.tree_edits.proofs.EditLaws.{attached_new, attached_scene, not_attached}
use Rattle.tree_edits.proofs.KeepLaws.{attached_keeps}
use Rattle.tree_edits.proofs.ParentLaws.{parent_after}
use Rattle.tree_edits.proofs.SceneLaws.{requested_scene}
use Rattle.tree_edits.proofs.UnaskedLaws.{leaves_unasked}
use Rattle.tree_edits.proofs.applying.add.Goals as goal
use Rattle.tree_edits.proofs.applying.add.Goals.{After-request_at}

pub returns-in_err-attach-clause-applied : goal.returns-in_err-attach-clause-applied
returns-in_err-attach-clause-applied c =
    not_attached c.args.tree.now (scene_of c.attach.new.self) c.args.added.parent c.args.added.class c.args.added.width c.args.added.height c.in_err-attach.field-0.0 c.from_residual.result
    c.in_err-attach.ensures.refused c.from_residual.ensures.1

attached : (c : After-request_at)
    → Attached c.args.tree.now c.args.added.parent (running_below c.args.added.parent c.args.tree.now.tree (new_view c.args.tree.now.next c.args.added.class c.args.added.width c.args.added.height)) c.in_ok-attach.field-0 c.attach.new.self
attached c =
    let facts : c.new-facts.result ≡ new_facts c.args.added.width c.args.added.height = search rules in
    attached_new c.args.tree.now c.attach.new.self c.args.added.parent c.args.added.class c.args.added.width c.args.added.height c.new-facts.result c.empty.result c.in_ok-attach.field-0
    facts c.empty.ensures c.in_ok-attach.ensures.attached

pub request_at-requires : goal.request_at-requires
request_at-requires c = parent_after c.args.tree.now c.attach.new.self c.args.added.parent _ c.requires.addable c.in_ok-attach.ensures.attached.tree

pub returns-clause-applied : goal.returns-clause-applied
returns-clause-applied c =
    attached_scene c.args.tree.now c.attach.new.self c.args.added.parent c.args.added.class c.args.added.width c.args.added.height c.in_ok-attach.field-0
    c.next_number-number.result c.recall_tree.ensures c.requires.addable c.in_ok-attach.ensures.refused (attached c) c.next_number-number.ensures
    ∙ ap (λ (scene : EditScene). Ok (scene, Some c.next_number-number.result))
    (sym (requested_scene c.attach.new.self c.request_at.new.tree (listed c.args.added.parent) c.request_at.ensures.same c.request_at.ensures.held))

pub returns-clause-kept : goal.returns-clause-kept
returns-clause-kept c =
    attached_keeps c.args.tree.now c.attach.new.self c.request_at.new.tree c.args.added.parent c.args.added.class c.args.added.width c.args.added.height c.in_ok-attach.field-0 c.requires.addable (attached c)
    c.request_at.ensures.same c.request_at.ensures.held

pub returns-clause-consistent : goal.returns-clause-consistent
returns-clause-consistent c =
    attached_kept c.args.tree.now c.attach.new.self c.request_at.new.tree c.args.added.parent _ c.in_ok-attach.field-0 c.recall_tree.ensures c.requires.addable (attached c)
    c.request_at.ensures.same c.request_at.ensures.held

pub returns-clause-asked : goal.returns-clause-asked
returns-clause-asked c =
    leaves_unasked c.args.tree.now c.request_at.new.tree (edit.Add c.args.added.parent c.args.added.class c.args.added.width c.args.added.height) (returns-clause-kept c)
