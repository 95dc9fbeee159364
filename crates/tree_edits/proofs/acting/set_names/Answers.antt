use Rattle.std.proofs.Common.{◌≡◌, ◌<◌, ◌∙◌, ℕ, [], ◌∷◌, ap, arith, refl, subst}
use Rattle.std.specs.Prelude.{None, Result, Ok, Err}
use Rattle.view_model.specs.Changes.{facts_after_act}
use Rattle.view_model.specs.Cycles.{first_cycle}
use Rattle.view_model.specs.PlainTree.{PlainView, with_facts}
use Rattle.view_model.specs.declared.changes.Act.{Act}
use Rattle.view_model.specs.declared.facts.Facts.{Facts}
use Rattle.view_model.specs.declared.fault.Fault.{Fault}
use Rattle.view_model.specs.declared.refusal.Member.TheVariants as member
use Rattle.view_model.specs.declared.relative.Link.{Link}
use Rattle.view_tree.specs.Faults.{IsRefusedOrCyclic}
use Rattle.view_tree.specs.Rows.{changed_at_key, count_of_key}
use Rattle.view_tree.specs.Views.{Views, facts_of, number_of, plain_of}
use Rattle.view_tree.proofs.forest.NumberLaws.{count_of_key-put}
use Rattle.tree_edits.specs.declared.edits.Edit.TheVariants as edit
use Rattle.tree_edits.proofs.ActLaws.{names_refused, names_scene}
use Rattle.tree_edits.proofs.ConsistentLaws.{change_kept}
use Rattle.tree_edits.proofs.FactLaws.{renamed}
use Rattle.tree_edits.proofs.KeepLaws.{names_keep}
use Rattle.tree_edits.proofs.SceneLaws.{requested_scene}
use Rattle.tree_edits.proofs.UnaskedLaws.{leaves_unasked}
use Rattle.tree_edits.proofs.acting.set_names.Goals as goal

pub request-requires : goal.request-requires
request-requires c =
    let live : 0 < count_of_key c.args.view c.args.tree.now.tree = c.requires.live in
    let put : count_of_key c.args.view c.set_rules.new.self.tree ≡ count_of_key c.args.view c.args.tree.now.tree =
    ap (count_of_key c.args.view) c.in-Ok.ensures.tree ∙ count_of_key-put c.args.view c.args.view _ c.args.tree.now.tree in
    omega arith

abbrev linked : Link → Facts → Facts
linked link facts = record facts { id = link.id; rules = link.rules }

-- what `set_rules` says of a link, which is that of the facts after the act
abbrev IsRefused : Views → ℕ → Result (Unit {0}) Fault → Link → Type 0
IsRefused old view result link = IsRefusedOrCyclic None (first_cycle member.View (with_facts (number_of old view) (linked link) (plain_of old))) result

abbrev IsPut : Views → Views → ℕ → Link → Type 0
IsPut old new view link = new.tree ≡ changed_at_key view (λ (v : PlainView). record v { facts = linked link v.facts }) old.tree

abbrev IsPlain : Views → Views → ℕ → Link → Type 0
IsPlain old new view link = plain_of new ≡ with_facts (number_of old view) (linked link) (plain_of old)

abbrev after : Views → ℕ → Act → Facts
after tree view act = facts_after_act act (facts_of tree view)

pub returns-in-Err-clause-refused : goal.returns-in-Err-clause-refused
returns-in-Err-clause-refused c =
    names_refused c.args.tree.now c.args.view c.args.act (after c.args.tree.now c.args.view c.args.act) (Err c.in-Err.fault)
    c.link_after-link.ensures.is_tree c.requires.live c.requires.names refl (subst (IsRefused c.args.tree.now c.args.view (Err c.in-Err.fault)) c.link_after-link.ensures.link c.in-Err.ensures.refused)

pub returns-in-Ok-clause-refused : goal.returns-in-Ok-clause-refused
returns-in-Ok-clause-refused c =
    names_refused c.args.tree.now c.args.view c.args.act (after c.args.tree.now c.args.view c.args.act) (Ok c.in-Ok.field-0)
    c.link_after-link.ensures.is_tree c.requires.live c.requires.names refl (subst (IsRefused c.args.tree.now c.args.view (Ok c.in-Ok.field-0)) c.link_after-link.ensures.link c.in-Ok.ensures.refused)

pub returns-in-Ok-clause-scene : goal.returns-in-Ok-clause-scene
returns-in-Ok-clause-scene c =
    requested_scene c.set_rules.new.self c.request.new.self (c.args.view ∷ []) c.request.ensures.same c.request.ensures.held
    ∙ names_scene c.args.tree.now c.set_rules.new.self c.args.view c.args.act (after c.args.tree.now c.args.view c.args.act)
    c.link_after-link.ensures.is_tree c.requires.live c.requires.names refl (subst (IsPut c.args.tree.now c.set_rules.new.self c.args.view) c.link_after-link.ensures.link c.in-Ok.ensures.tree) (subst (IsPlain c.args.tree.now c.set_rules.new.self c.args.view) c.link_after-link.ensures.link c.in-Ok.ensures.plain) c.in-Ok.ensures.next c.in-Ok.ensures.held

pub returns-in-Ok-clause-kept : goal.returns-in-Ok-clause-kept
returns-in-Ok-clause-kept c =
    names_keep c.args.tree.now c.set_rules.new.self c.request.new.self c.args.view c.args.act (after c.args.tree.now c.args.view c.args.act)
    c.link_after-link.ensures.is_tree c.requires.names refl (subst (IsPut c.args.tree.now c.set_rules.new.self c.args.view) c.link_after-link.ensures.link c.in-Ok.ensures.tree) c.in-Ok.ensures.next c.in-Ok.ensures.held c.request.ensures.same c.request.ensures.held

pub returns-in-Ok-clause-consistent : goal.returns-in-Ok-clause-consistent
returns-in-Ok-clause-consistent c =
    change_kept c.args.tree.now c.set_rules.new.self c.request.new.self c.args.view (λ (v : PlainView). record v { facts = renamed (after c.args.tree.now c.args.view c.args.act) v.facts })
    c.link_after-link.ensures.is_tree c.requires.live (λ _. refl) (subst (IsPut c.args.tree.now c.set_rules.new.self c.args.view) c.link_after-link.ensures.link c.in-Ok.ensures.tree) c.in-Ok.ensures.held c.request.ensures.same c.request.ensures.held

pub returns-in-Ok-clause-asked : goal.returns-in-Ok-clause-asked
returns-in-Ok-clause-asked c = leaves_unasked c.args.tree.now c.request.new.self (edit.Act c.args.view c.args.act) (returns-in-Ok-clause-kept c)
