use Rattle.std.proofs.Common.{◌≡◌, ◌<◌, ◌∙◌, ap, arith}
use Rattle.view_model.specs.Changes.{facts_after_act}
use Rattle.view_tree.specs.Rows.{count_of_key}
use Rattle.view_tree.specs.Views.{facts_of}
use Rattle.view_tree.proofs.forest.NumberLaws.{count_of_key-put}
use Rattle.tree_edits.specs.Asking.{asked_by_act}
use Rattle.tree_edits.specs.declared.edits.Edit.TheVariants as edit
use Rattle.tree_edits.proofs.ActLaws.{facts_scene}
use Rattle.tree_edits.proofs.ConsistentLaws.{facts_kept}
use Rattle.tree_edits.proofs.KeepLaws.{facts_keep}
use Rattle.tree_edits.proofs.SceneLaws.{requested_scene}
use Rattle.tree_edits.proofs.UnaskedLaws.{leaves_unasked}
use Rattle.tree_edits.proofs.acting.set_facts.Goals as goal
use Rattle.tree_edits.proofs.acting.set_facts.Goals.{After-request_by}

pub request_by-requires : goal.request_by-requires
request_by-requires c =
    let live : 0 < count_of_key c.args.view c.args.tree.now.tree = c.requires.live in
    let put : count_of_key c.args.view c.set_facts.new.self.tree ≡ count_of_key c.args.view c.hide_by.new.tree.tree =
    ap (count_of_key c.args.view) c.set_facts.ensures.tree ∙ count_of_key-put c.args.view c.args.view _ c.hide_by.new.tree.tree in
    let still = ap (count_of_key c.args.view) c.hide_by.ensures.same.tree in
    omega arith

facts_are : (c : After-request_by) → c.change_facts.new.facts ≡ facts_after_act c.args.act (facts_of c.args.tree.now c.args.view)
facts_are c = c.change_facts.ensures ∙ ap (facts_after_act c.args.act) c.facts.ensures.value

pub returns-clause-scene : goal.returns-clause-scene
returns-clause-scene c =
    requested_scene c.set_facts.new.self c.request_by.new.tree (asked_by_act c.args.view c.args.act) c.request_by.ensures.same c.request_by.ensures.held
    ∙ facts_scene c.args.tree.now c.hide_by.new.tree c.set_facts.new.self c.args.view c.args.act c.change_facts.new.facts
    c.facts.ensures.is_tree c.requires.live c.requires.turns (facts_are c) c.hide_by.ensures.same c.hide_by.ensures.held
    c.set_facts.ensures.tree c.set_facts.ensures.plain c.set_facts.ensures.next c.set_facts.ensures.held c.set_facts.ensures.others

pub returns-clause-kept : goal.returns-clause-kept
returns-clause-kept c =
    facts_keep c.args.tree.now c.hide_by.new.tree c.set_facts.new.self c.request_by.new.tree c.args.view c.args.act c.change_facts.new.facts
    c.facts.ensures.is_tree c.requires.turns (facts_are c) c.hide_by.ensures.same c.hide_by.ensures.held
    c.set_facts.ensures.tree c.set_facts.ensures.next c.set_facts.ensures.held c.set_facts.ensures.others c.request_by.ensures.same c.request_by.ensures.held

pub returns-clause-consistent : goal.returns-clause-consistent
returns-clause-consistent c =
    facts_kept c.args.tree.now c.hide_by.new.tree c.set_facts.new.self c.request_by.new.tree c.args.view c.args.act c.change_facts.new.facts
    c.facts.ensures.is_tree c.requires.live (facts_are c) c.hide_by.ensures.same c.hide_by.ensures.held
    c.set_facts.ensures.tree c.set_facts.ensures.held c.set_facts.ensures.others c.request_by.ensures.same c.request_by.ensures.held

pub returns-clause-asked : goal.returns-clause-asked
returns-clause-asked c = leaves_unasked c.args.tree.now c.request_by.new.tree (edit.Act c.args.view c.args.act) (returns-clause-kept c)
