use Rattle.std.proofs.Common.{◌≡◌, false, sym, ◌∙◌, ap}
use Rattle.scroll_offsets.specs.Bringing.{child_rect}
use Rattle.scroll_offsets.proofs.RangeLaws.{range_as}
use Rattle.view_model.proofs.ClassLaws.{range_still, range_unscrolled}
use Rattle.view_model.specs.Classes.{scrolls}
use Rattle.view_tree.specs.Rows.{children_of_first, head_view, part_from}
use Rattle.view_tree.specs.Views.{class_of, held_of, offset_of, state_of}
use Rattle.scroll_offsets.proofs.bringing.range_of.Goals as goal

pub returns-then-not-scrolls : goal.returns-then-not-scrolls
returns-then-not-scrolls c =
    let views = c.args.tree.now in
    let view = c.args.view in
    let own = (head_view (part_from view views.tree)).facts in
    let child = child_rect (held_of views) (children_of_first (part_from view views.tree)) in
    let stays : scrolls (class_of views view) ≡ false = ap scrolls (sym c.class.ensures.value) ∙ sym c.scrolls.ensures ∙ c.if-not-scrolls.true in
    sym (range_as views view c.requires ∙ range_still (class_of views view) own (state_of views view).bounds child stays)

pub returns : goal.returns
returns c =
    let views = c.args.tree.now in
    let view = c.args.view in
    let own = (head_view (part_from view views.tree)).facts in
    let child = child_rect (held_of views) (children_of_first (part_from view views.tree)) in
    c.range_where_it_lies.ensures
    ∙ range_unscrolled (class_of views view) own (offset_of views view) (state_of views view).bounds child
    ∙ sym (range_as views view c.requires)
