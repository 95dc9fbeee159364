use Rattle.std.proofs.Common.{◌≡◌, ◌∙◌, true, Some, ap, subst, sym}
use Rattle.std.specs.Option.{option_copied}
use Rattle.view_model.specs.Classes.{is_relative}
use Rattle.view_model.specs.Cycles.{links_in}
use Rattle.sibling_orders.specs.Ordering.{AreOrders}
use Rattle.view_tree.specs.Rows.{children_of_first, part_from, views_of}
use Rattle.view_tree.specs.Views.{class_of}
use Rattle.view_tree.proofs.orders.GroupReads.{never_none, orders_found, orders_value}
use Rattle.view_tree.proofs.tree.ViewTree.orders.Goals as goal

pub returns-in-None-clause-value : goal.returns-in-None-clause-value
returns-in-None-clause-value c =
    let relative : is_relative (class_of c.args.self.now c.args.view) ≡ true = ap is_relative (sym c.class.ensures.value) ∙ sym c.is_relative.ensures ∙ c.if-not-is_relative.false in
    absurd (never_none c.self.inside c.args.self.now c.args.view c.number.result c.self.invariant c.self.view_is c.requires relative c.number.ensures.value
    (sym c.get.ensures.value ∙ ap option_copied c.in-None.is))

pub returns-in-Some-clause-value : goal.returns-in-Some-clause-value
returns-in-Some-clause-value c =
    let relative : is_relative (class_of c.args.self.now c.args.view) ≡ true = ap is_relative (sym c.class.ensures.value) ∙ sym c.is_relative.ensures ∙ c.if-not-is_relative.false in
    let value = orders_value c.self.inside c.args.self.now c.args.view c.number.result c.self.invariant c.self.view_is c.requires relative c.number.ensures.value c.in-Some.group.now
    (sym c.get.ensures.value ∙ ap option_copied c.in-Some.is) in
    rw relative (ap (λ orders. Some orders) (sym value))

pub returns-in-Some-clause-ordered : goal.returns-in-Some-clause-ordered
returns-in-Some-clause-ordered c =
    let relative : is_relative (class_of c.args.self.now c.args.view) ≡ true = ap is_relative (sym c.class.ensures.value) ∙ sym c.is_relative.ensures ∙ c.if-not-is_relative.false in
    let found = sym c.get.ensures.value ∙ ap option_copied c.in-Some.is in
    let value = orders_value c.self.inside c.args.self.now c.args.view c.number.result c.self.invariant c.self.view_is c.requires relative c.number.ensures.value c.in-Some.group.now found in
    subst (AreOrders (links_in (views_of (children_of_first (part_from c.args.view c.args.self.now.tree))))) (sym value)
    (orders_found c.self.inside c.args.self.now c.args.view c.number.result c.self.invariant c.self.view_is c.requires relative c.number.ensures.value c.in-Some.group.now found)
