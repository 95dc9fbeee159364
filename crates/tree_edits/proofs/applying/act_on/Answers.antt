use Rattle.std.proofs.Common.{◌≡◌, Err, None, Ok, ap, false, rules, sym, true, ◌∙◌}
use Rattle.tree_edits.specs.Editing.{after_act, cycle_of_act, names_views, outcome_of_act, outcome_unless}
use Rattle.tree_edits.specs.Scene.{EditScene, scene_of}
use Rattle.view_model.specs.PlainTree.{view_in}
use Rattle.view_tree.specs.Views.{number_of, plain_of}
use Rattle.tree_edits.proofs.CycleLaws.{cycle_named, unnamed}
use Rattle.tree_edits.proofs.EditLaws.{done_by, not_named}
use Rattle.tree_edits.proofs.applying.act_on.Goals as goal
use Rattle.tree_edits.proofs.applying.act_on.Goals.{else-names_views+in-Direction, else-names_views+in_default, then-names_views+in_ok-set_names}

pub returns-then-not-takes-clause-applied : goal.returns-then-not-takes-clause-applied
returns-then-not-takes-clause-applied c =
    let refused : c.takes.result ≡ false = search rules in
    done_by c.args.tree.now c.args.view c.args.act c.class.result c.takes.result c.class.ensures.is_tree c.requires.live c.class.ensures.value c.takes.ensures
    ∙ rw refused (sym (ap (λ t. Err t) c.plain.ensures))

pub returns-in_err-set_names-clause-applied : goal.returns-in_err-set_names-clause-applied
returns-in_err-set_names-clause-applied c =
    let taken : c.takes.result ≡ true = search rules in
    let names : names_views c.args.act ≡ true = search rules in
    let is : outcome_of_act (scene_of c.args.tree.now) (number_of c.args.tree.now c.args.view) c.args.act (view_in (plain_of c.args.tree.now) (number_of c.args.tree.now c.args.view))
    ≡ outcome_unless (scene_of c.args.tree.now) (number_of c.args.tree.now c.args.view) c.args.act (cycle_of_act (plain_of c.args.tree.now) (number_of c.args.tree.now c.args.view) c.args.act) =
    done_by c.args.tree.now c.args.view c.args.act c.class.result c.takes.result c.class.ensures.is_tree c.requires.live c.class.ensures.value c.takes.ensures
    ∙ rw taken in
    not_named (scene_of c.args.tree.now) (number_of c.args.tree.now c.args.view) c.args.act _ (scene_of c.set_names.new.tree) c.in_err-set_names.field-0.0 c.from_residual.result names is
    c.in_err-set_names.ensures.refused c.from_residual.ensures.1

pub returns-clause-applied : goal.returns-clause-applied
returns-clause-applied c =
    let taken : c.takes.result ≡ true = search rules in
    done_by c.args.tree.now c.args.view c.args.act c.class.result c.takes.result c.class.ensures.is_tree c.requires.live c.class.ensures.value c.takes.ensures
    ∙ rw taken (
    elim c.if-names_views.branch [
      | then-names_views+in_ok-set_names w ↦
          let names : names_views c.args.act ≡ true = search rules in
          ap (outcome_unless (scene_of c.args.tree.now) (number_of c.args.tree.now c.args.view) c.args.act)
          (cycle_named (scene_of c.args.tree.now) (number_of c.args.tree.now c.args.view) c.args.act names ∙ w.in_ok-set_names.ensures.refused)
          ∙ rw w.tree-is (ap (λ (scene : EditScene). Ok (scene, None)) (sym w.in_ok-set_names.ensures.scene))
      | else-names_views+in-Direction w ↦
          let names : names_views c.args.act ≡ false = search rules in
          unnamed (scene_of c.args.tree.now) (number_of c.args.tree.now c.args.view) c.args.act names
          ∙ rw w.tree-is (ap (λ (scene : EditScene). Ok (scene, None)) (ap (after_act (scene_of c.args.tree.now) (number_of c.args.tree.now c.args.view)) w.in-Direction.is ∙ sym w.set_direction.ensures.scene))
      | else-names_views+in_default w ↦
          let names : names_views c.args.act ≡ false = search rules in
          unnamed (scene_of c.args.tree.now) (number_of c.args.tree.now c.args.view) c.args.act names
          ∙ rw w.tree-is (ap (λ (scene : EditScene). Ok (scene, None)) (sym w.set_facts.ensures.scene))
    ])

pub returns-clause-asked : goal.returns-clause-asked
returns-clause-asked c = elim c.if-names_views.branch [
  | then-names_views+in_ok-set_names w ↦ rw w.tree-is w.set_names.ensures.asked
  | else-names_views+in-Direction w ↦ rw (w.tree-is, w.in-Direction.is) w.set_direction.ensures.asked
  | else-names_views+in_default w ↦ rw w.tree-is w.set_facts.ensures.asked
]
