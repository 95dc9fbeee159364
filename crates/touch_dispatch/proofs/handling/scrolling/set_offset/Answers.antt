use Rattle.std.proofs.Common.{◌∙◌, ap}
use Rattle.view_tree.proofs.values.OffsetLaws.{offset_put}
use Rattle.touch_dispatch.proofs.scrolls.RangeLaws.{offset_kept}
use Rattle.touch_dispatch.proofs.scrolls.ScrollSteps.{offset_set, only_offset}
use Rattle.view_tree.specs.Views.{Held}
use Rattle.touch_dispatch.proofs.handling.scrolling.set_offset.Goals as goal

pub returns-clause-scrolls : goal.returns-clause-scrolls
returns-clause-scrolls c =
    only_offset c.args.tree.now c.set_facts.new.self c.args.view c.args.facts.offset
    (record {
      tree = c.set_facts.ensures.tree ∙ offset_put c.args.tree.now c.args.view c.args.facts c.args.facts.offset c.requires.tree c.requires.live c.requires.facts;
      orders = c.set_facts.ensures.orders;
      next = c.set_facts.ensures.next;
    })
    c.set_facts.ensures.counts c.set_facts.ensures.held c.set_facts.ensures.others c.requires.side
    (offset_kept c.args.tree.now c.set_facts.new.self c.args.view c.args.facts.offset c.requires.tree c.set_facts.ensures.held c.set_facts.ensures.others c.requires.within
    (c.set_facts.ensures.tree ∙ offset_put c.args.tree.now c.args.view c.args.facts c.args.facts.offset c.requires.tree c.requires.live c.requires.facts))

pub returns-clause-offsets : goal.returns-clause-offsets
returns-clause-offsets c =
    offset_set c.args.tree.now c.set_facts.new.self c.args.view c.args.facts.offset c.requires.tree c.requires.live
    (c.set_facts.ensures.tree ∙ offset_put c.args.tree.now c.args.view c.args.facts c.args.facts.offset c.requires.tree c.requires.live c.requires.facts)
    (ap (λ (h : Held). h.offset) c.set_facts.ensures.held) c.set_facts.ensures.others
