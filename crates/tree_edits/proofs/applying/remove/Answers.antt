use Rattle.std.proofs.Common.{Ok, None, ap, sym, ◌∙◌}
use Rattle.tree_edits.specs.Asking.{listed}
use Rattle.tree_edits.specs.Scene.{EditScene}
use Rattle.tree_edits.specs.declared.edits.Edit.TheVariants as edit
use Rattle.tree_edits.proofs.ConsistentLaws.{detached_kept}
use Rattle.tree_edits.proofs.EditLaws.{detached_scene}
use Rattle.tree_edits.proofs.KeepLaws.{detached_keeps}
use Rattle.tree_edits.proofs.ParentLaws.{parent_left}
use Rattle.tree_edits.proofs.SceneLaws.{requested_scene}
use Rattle.tree_edits.proofs.UnaskedLaws.{leaves_unasked}
use Rattle.tree_edits.proofs.applying.remove.Goals as goal

pub request_at-requires : goal.request_at-requires
request_at-requires c =
    parent_left c.args.tree.now c.detach.new.self c.args.view c.parent-parent.result c.detach.ensures.is_tree c.requires.live c.parent-parent.ensures.path c.detach.ensures.tree

pub returns-clause-scene : goal.returns-clause-scene
returns-clause-scene c =
    detached_scene c.args.tree.now c.detach.new.self c.args.view c.detach.ensures.is_tree c.requires.live
    c.detach.ensures.tree c.detach.ensures.plain c.detach.ensures.next c.detach.ensures.others
    ∙ ap (λ (scene : EditScene). Ok (scene, None))
    (sym (requested_scene c.detach.new.self c.request_at.new.tree (listed c.parent-parent.result) c.request_at.ensures.same c.request_at.ensures.held))

pub returns-clause-kept : goal.returns-clause-kept
returns-clause-kept c =
    detached_keeps c.args.tree.now c.detach.new.self c.request_at.new.tree c.args.view c.parent-parent.result c.detach.ensures.is_tree c.requires.live c.parent-parent.ensures.path
    c.detach.ensures.tree c.detach.ensures.next c.detach.ensures.others c.request_at.ensures.same c.request_at.ensures.held

pub returns-clause-consistent : goal.returns-clause-consistent
returns-clause-consistent c =
    detached_kept c.args.tree.now c.detach.new.self c.request_at.new.tree c.args.view c.parent-parent.result c.detach.ensures.is_tree c.requires.live c.parent-parent.ensures.path
    c.detach.ensures.tree c.detach.ensures.others c.request_at.ensures.same c.request_at.ensures.held

pub returns-clause-asked : goal.returns-clause-asked
returns-clause-asked c = leaves_unasked c.args.tree.now c.request_at.new.tree (edit.Remove c.args.view) (returns-clause-kept c)
