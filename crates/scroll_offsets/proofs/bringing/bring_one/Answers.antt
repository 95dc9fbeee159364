use Rattle.std.proofs.Common.{◌∙◌, ap, of_z, to_z, w32}
use Rattle.view_model.specs.declared.facts.Facts.{Facts}
use Rattle.view_model.specs.ScrollView.{offset_within}
use Rattle.view_tree.specs.Views.{facts_of}
use Rattle.view_tree.proofs.values.OffsetLaws.{offset_put}
use Rattle.scroll_offsets.proofs.bringing.bring_one.Goals as goal

pub returns-clause-same : goal.returns-clause-same
returns-clause-same c =
    let range = to_z w32 (of_z w32 c.in-Some.range) in
    let within = λ (facts : Facts). let set : Facts = record facts { offset = offset_within range facts.offset } in set in
    record {
      tree = c.set_facts.ensures.tree
          ∙ offset_put c.args.tree.now c.args.view c.facts_within-facts.result (offset_within range (facts_of c.args.tree.now c.args.view).offset)
          c.facts.ensures.is_tree c.requires (c.facts_within-facts.ensures ∙ ap within c.facts.ensures.value);
      orders = c.set_facts.ensures.orders;
      next = c.set_facts.ensures.next;
    }
