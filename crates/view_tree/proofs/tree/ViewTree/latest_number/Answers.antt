use Rattle.std.proofs.Common.{◌∙◌, ap, sym}
use Rattle.std.specs.Option.{option_copied}
use Rattle.view_model.specs.Cycles.{link_of, links_in, numbers_in}
use Rattle.sibling_orders.specs.Ordering.{plain_group}
use Rattle.view_tree.specs.Rows.{children_of_first, part_from, views_of}
use Rattle.view_tree.proofs.orders.GroupReads.{latest_found, never_none, numbers_found, rising_there}
use Rattle.sibling_orders.proofs.LatestLaws.{latest_reached}
use Rattle.view_tree.proofs.orders.ListLaws.{length-each}
use Rattle.view_tree.proofs.tree.ViewTree.latest_number.Goals as goal

pub unreachable-requires : goal.unreachable-requires
unreachable-requires c =
    never_none c.self.inside c.args.self.now c.args.view c.number.result c.self.invariant c.self.view_is c.requires.live c.requires.relative c.number.ensures.value
    (sym c.get.ensures.value ∙ ap option_copied c.in-None.is)

pub returns : goal.returns
returns c =
    let kids = views_of (children_of_first (part_from c.args.view c.args.self.now.tree)) in
    let group = c.in-Some.group.now in
    let found = sym c.get.ensures.value ∙ ap option_copied c.in-Some.is in
    latest_reached c.args.id (plain_group group) (links_in kids) (numbers_in kids) c.latest_in.result
    (rising_there c.self.inside c.args.self.now c.args.view c.number.result c.self.invariant c.self.view_is c.requires.live c.requires.relative c.number.ensures.value)
    (numbers_found c.self.inside c.args.self.now c.args.view c.number.result c.self.invariant c.self.view_is c.requires.live c.requires.relative c.number.ensures.value group found)
    (length-each link_of kids)
    (latest_found c.self.inside c.args.self.now c.args.view c.number.result c.self.invariant c.self.view_is c.requires.live c.requires.relative c.number.ensures.value group found)
    c.latest_in.ensures
