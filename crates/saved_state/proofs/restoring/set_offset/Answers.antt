use Rattle.std.proofs.Common.{◌≡◌, ◌∙◌, ap, of_z, rules, to_z, w32}
use Rattle.std.proofs.lemmas.Int.{to_z-of_z}
use mir.Val.{SFits}
use Rattle.std.specs.Prelude.{ℤ}
use Rattle.view_model.specs.declared.facts.Facts.{Facts}
use Rattle.view_tree.proofs.values.OffsetLaws.{offset_put}
use Rattle.view_tree.specs.Views.{Held, held_of}
use Rattle.saved_state.proofs.RestoredLaws.{one_moved}
use Rattle.saved_state.proofs.restoring.set_offset.Goals as goal

pub returns-clause-same : goal.returns-clause-same
returns-clause-same c =
    let offset = to_z w32 (of_z w32 c.args.offset) in
    let with = λ (facts : Facts). let set : Facts = record facts { offset = offset } in set in
    record {
      tree = c.set_facts.ensures.tree
          ∙ offset_put c.args.tree.now c.args.view c.moved-facts.result offset
          c.facts.ensures.is_tree c.requires (c.moved-facts.ensures ∙ ap with c.facts.ensures.value);
      orders = c.set_facts.ensures.orders;
      next = c.set_facts.ensures.next;
    }

pub returns-clause-held : goal.returns-clause-held
returns-clause-held c =
    let old = held_of c.args.tree.now in
    let fits : SFits w32 c.args.offset = search rules in
    let set : c.moved-facts.result.offset ≡ c.args.offset = ap (λ (facts : Facts). facts.offset) c.moved-facts.ensures ∙ to_z-of_z w32 c.args.offset fits in
    one_moved c.args.view c.args.offset old (held_of c.set_facts.new.self)
    (c.set_facts.ensures.held ∙ ap (λ (offset : ℤ). let held : Held = record (old c.args.view) { offset = offset } in held) set) c.set_facts.ensures.others
