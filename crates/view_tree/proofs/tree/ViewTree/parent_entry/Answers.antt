use Rattle.std.proofs.Common.{rules, ◌≡◌, ◌∷◌, [], true, None, subst, ℕ}
use Rattle.view_model.specs.Classes.{is_relative}
use Rattle.view_model.specs.Cycles.{member_from}
use Rattle.view_model.specs.declared.relative.Link.{Link}
use Rattle.std.specs.Prelude.{Ok}
use Rattle.sibling_orders.specs.Cycles.{IsGroupOrCycle, IsMadeUnless}
use Rattle.view_tree.specs.tree.Grafting.{links_then, numbers_then}
use Rattle.view_tree.specs.Views.{class_of}
use Rattle.view_tree.proofs.grafts.EntryLaws.{parent_added}
use Rattle.view_tree.proofs.tree.ViewTree.parent_entry.Goals as goal

pub returns-in-Ok : goal.returns-in-Ok
returns-in-Ok c =
    let v = c.args.self.now in
    let relative : is_relative (class_of v c.in-Some.parent) ≡ true = search rules in
    rw c.in-Some.is
    (parent_added v c.in-Some.parent c.args.sprout.now c.in-Ok.group c.one_entry.result relative
    (subst (λ (link : Link). IsGroupOrCycle (member_from v.next) (links_then v c.in-Some.parent link) (numbers_then v c.in-Some.parent) (Ok c.in-Ok.group)) c.sprout_link.ensures c.in-Ok.ensures)
    (subst (λ (number : ℕ). IsMadeUnless None (λ entries. entries.items ≡ (number, c.in-Ok.group) ∷ []) c.one_entry.result) c.number.ensures.value c.one_entry.ensures))
