use Rattle.std.proofs.Common.{◌≡◌, false, inr, subst}
use Rattle.view_model.specs.SiblingRules.{names}
use Rattle.view_model.specs.declared.facts.Facts.{Facts}
use Rattle.view_model.specs.declared.relative.Axis.TheVariants.{Horizontal, Vertical}
use Rattle.view_tree.specs.Rows.{children_of_first, part_from}
use Rattle.view_tree.specs.tree.Staying.{NamesNone}
use Rattle.view_tree.proofs.forest.Walks.{walk_falls, walk_on, walk_start}
use Rattle.view_tree.proofs.orders.NamedLaws.{none_above}
use Rattle.view_tree.proofs.orders.StayLaws.{none_more}
use Rattle.view_tree.proofs.tree.ViewTree.is_unnamed.Goals as goal

pub loop-next-init : goal.loop-next-init
loop-next-init c =
    let tree = c.args.self.now.tree in
    record {
      walk = walk_start tree (children_of_first (part_from c.args.parent tree)) c.first-next.result c.first-next.ensures.part c.first-next.ensures.live;
      none = λ none. subst (NamesNone c.args.id) c.first-next.ensures.part none;
    }

pub loop-next-smaller : goal.loop-next-smaller
loop-next-smaller c = walk_falls c.args.self.now.tree _ c.loop-next.next c.next-next.result c.in-Some.kid c.in-Some.is c.loop-next.invariant.walk c.next-next.ensures.part

pub loop-next-preserved : goal.loop-next-preserved
loop-next-preserved c =
    let i = rw c.in-Some.is at c.loop-next.invariant in
    let tree = c.args.self.now.tree in
    let part = c.next-next.ensures.part in
    record {
      walk = walk_on tree (children_of_first (part_from c.args.parent tree)) c.in-Some.kid c.next-next.result i.walk part c.next-next.ensures.live;
      none = λ none. i.none (none_more c.args.id tree c.in-Some.kid i.walk.live
          (subst (λ (facts : Facts). names Horizontal facts.rules c.args.id ≡ false) c.facts.ensures.value (c.names_id.ensures.across c.if-names_id.false))
          (subst (λ (facts : Facts). names Vertical facts.rules c.args.id ≡ false) c.facts.ensures.value (c.names_id.ensures.down c.if-names_id.false))
          (subst (NamesNone c.args.id) part none));
    }

pub returns : goal.returns
returns c = λ _. inr ((rw c.in_default.is at c.loop-next.invariant).none tt)

pub returns-then-id-highest : goal.returns-then-id-highest
returns-then-id-highest c = λ _. inr (none_above c.args.id c.args.highest (children_of_first (part_from c.args.parent c.args.self.now.tree)) c.requires.highest c.if-id-highest.true)
