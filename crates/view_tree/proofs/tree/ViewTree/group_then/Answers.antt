use Rattle.std.proofs.Common.{◌∙◌, ◌∷◌, [], ap, arith, length, length-append, refl, subst, sym}
use Rattle.std.specs.Prelude.{List, ℕ, slice_index}
use Rattle.view_model.specs.Cycles.{link_of, links_in, numbers_in}
use Rattle.sibling_orders.specs.Latest.{AreRising}
use Rattle.view_tree.specs.Rows.{children_of_first, part_from, views_of}
use Rattle.view_tree.specs.Views.{Views, number_of}
use Rattle.view_tree.proofs.grafts.EntryLaws.{few_then, near_then, rising_then}
use Rattle.view_tree.proofs.nodes.NodeReads.{is_tree}
use Rattle.view_tree.proofs.orders.GroupReads.{rising_there}
use Rattle.view_tree.proofs.orders.ListLaws.{length-each}
use Rattle.view_tree.proofs.tree.ViewTree.group_then.Goals as goal

pub group_of-requires-clause-few : goal.group_of-requires-clause-few
group_of-requires-clause-few c =
    let v = c.args.self.now in
    let kids = views_of (children_of_first (part_from c.args.parent v.tree)) in
    let few = few_then v c.args.parent (is_tree c.self.inside v c.self.invariant.planted c.self.view_is) c.requires.live in
    let links = ap length c.in-Ok.ensures.links ∙ length-append (links_in kids) (c.args.link ∷ []) in
    let same = length-each link_of kids in
    let room = c.requires.few in
    omega arith

pub group_of-requires-clause-alike : goal.group_of-requires-clause-alike
group_of-requires-clause-alike c =
    let v = c.args.self.now in
    let kids = views_of (children_of_first (part_from c.args.parent v.tree)) in
    let links = ap length c.in-Ok.ensures.links ∙ length-append (links_in kids) (c.args.link ∷ []) in
    let numbers = ap length c.in-Ok.ensures.numbers ∙ length-append (numbers_in kids) (v.next ∷ []) in
    let same = length-each link_of kids in
    omega arith

pub group_of-requires-clause-near : goal.group_of-requires-clause-near
group_of-requires-clause-near c = λ p small.
    let v = c.args.self.now in
    let next = ap (λ (v : Views). v.next) c.self.view_is in
    let size = ap length c.in-Ok.ensures.numbers in
    let near = near_then v c.args.parent (is_tree c.self.inside v c.self.invariant.planted c.self.view_is) c.requires.live p (omega arith) in
    let same = ap (λ (numbers : List ℕ). slice_index numbers p) c.in-Ok.ensures.numbers in
    omega arith

pub group_of-requires-clause-rising : goal.group_of-requires-clause-rising
group_of-requires-clause-rising c =
    let v = c.args.self.now in
    subst AreRising (sym c.in-Ok.ensures.numbers)
    (rising_then v c.args.parent (is_tree c.self.inside v c.self.invariant.planted c.self.view_is) c.requires.live
    (rising_there c.self.inside v c.args.parent (number_of v c.args.parent) c.self.invariant c.self.view_is c.requires.live c.requires.relative refl))
