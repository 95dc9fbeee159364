use Rattle.std.proofs.Common.{◌≡◌, ◌∙◌, true, false, ap, sym}
use Rattle.std.proofs.lemmas.Bool.{eq-eqb, ne_eqb}
use Rattle.view_model.specs.declared.facts.Facts.{Facts}
use Rattle.view_tree.specs.node.Nodes.{has_id}
use Rattle.view_tree.specs.Rows.{children_of_first, head_view, part_from}
use Rattle.view_tree.proofs.orders.BackSearch.{SearchTo, search_ended, search_found, search_on, search_start}
use Rattle.view_tree.proofs.tree.ViewTree.last_by_walk.Goals as goal
use Rattle.view_tree.proofs.tree.ViewTree.last_by_walk.Goals.{After-previous-next}

pub loop-next-init : goal.loop-next-init
loop-next-init c =
    search_start (has_id c.args.id) c.args.self.now.tree c.args.view c.last-next.result c.requires.is_tree.keys c.requires.live c.last-next.ensures.key

stepped : (c : After-previous-next) → SearchTo (has_id c.args.id) c.args.self.now.tree c.args.view c.in-Some.kid c.previous-next.result
stepped c =
    let tree = c.args.self.now.tree in
    let fails : has_id c.args.id (head_view (part_from c.in-Some.kid tree)) ≡ false =
    ne_eqb (head_view (part_from c.in-Some.kid tree)).facts.id c.args.id (λ same. c.if-facts-id.false (ap (λ (facts : Facts). facts.id) c.facts.ensures.value ∙ same)) in
    search_on (has_id c.args.id) tree c.args.view c.in-Some.kid c.previous-next.result c.requires.is_tree.keys c.requires.live
    (rw c.in-Some.is at c.loop-next.invariant) fails c.previous-next.ensures.key

pub loop-next-smaller : goal.loop-next-smaller
loop-next-smaller c = rw c.in-Some.is (stepped (goal.at.loop-next-smaller c).After-previous-next).fewer

pub loop-next-preserved : goal.loop-next-preserved
loop-next-preserved c = (stepped (goal.at.loop-next-preserved c).After-previous-next).search

pub returns-then-facts-id-clause-value : goal.returns-then-facts-id-clause-value
returns-then-facts-id-clause-value c =
    let tree = c.args.self.now.tree in
    let is : has_id c.args.id (head_view (part_from c.in-Some.kid tree)) ≡ true =
    eq-eqb (head_view (part_from c.in-Some.kid tree)).facts.id c.args.id (ap (λ (facts : Facts). facts.id) (sym c.facts.ensures.value) ∙ c.if-facts-id.true) in
    search_found c.args.id tree (children_of_first (part_from c.args.view tree)) c.in-Some.kid c.if-id-eq0.false (rw c.in-Some.is at c.loop-next.invariant) is

pub returns-clause-value : goal.returns-clause-value
returns-clause-value c =
    search_ended c.args.id c.args.self.now.tree (children_of_first (part_from c.args.view c.args.self.now.tree)) c.if-id-eq0.false (rw c.in_default.is at c.loop-next.invariant)
