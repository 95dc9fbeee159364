use Rattle.std.proofs.Common.{refl, arith, ◌∙◌}
use Rattle.tree_edits.specs.Hiding.{gone_one}
use Rattle.view_tree.specs.Rows.{children_of_first, part_from}
use Rattle.view_tree.specs.Views.{held_of}
use Rattle.view_tree.proofs.forest.ChangingWalks.{changing_end, changing_on}
use Rattle.view_tree.proofs.forest.Forests.{live_after}
use Rattle.view_tree.proofs.forest.Walks.{fewer_below}
use Rattle.view_tree.proofs.values.SameLaws.{same_then}
use Rattle.tree_edits.proofs.hiding.+hide.Goals as goal

pub hide-requires : goal.hide-requires
hide-requires t c =
    let walked = rw c.in-Some.is at c.loop-next.invariant.walked.walk in
    let fewer = fewer_below c.args.tree.now.tree c.args.view c.in-Some.kid c.requires walked in
    rw c.loop-next.invariant.same.tree (omega arith, walked.live)

pub loop-next-smaller : goal.loop-next-smaller
loop-next-smaller t c =
    let walked = rw c.in-Some.is at c.loop-next.invariant.walked.walk in
    rw (c.next-next.ensures.part, c.hide.ensures.same.tree, c.loop-next.invariant.same.tree, c.in-Some.is) (live_after c.in-Some.kid c.args.tree.now.tree walked.live)

pub loop-next-preserved : goal.loop-next-preserved
loop-next-preserved t c =
    let same = c.loop-next.invariant.same.tree in
    record {
      same = same_then c.loop-next.invariant.same c.hide.ensures.same;
      measures = c.hide.ensures.measures ∙ c.loop-next.invariant.measures;
      walked =
          changing_on (λ key. gone_one) (λ key held. refl) c.args.tree.now.tree (children_of_first (part_from c.args.view c.args.tree.now.tree)) (held_of c.hide_one.new.tree) c.in-Some.kid
          (held_of c.loop-next.tree) (held_of c.hide.new.tree) c.next-next.result
          (rw c.in-Some.is at c.loop-next.invariant.walked)
          (rw same at c.hide.ensures.held)
          (rw (c.hide.ensures.same.tree, same) at c.next-next.ensures.part)
          (rw (c.hide.ensures.same.tree, same) at c.next-next.ensures.live);
    }

pub returns-clause-held : goal.returns-clause-held
returns-clause-held t c =
    changing_end (λ key. gone_one) (λ key held. refl) c.args.tree.now.tree c.args.view (held_of c.args.tree.now) (held_of c.hide_one.new.tree) (held_of c.loop-next.tree) c.requires
    (rw c.in_default.is at c.loop-next.invariant.walked) c.hide_one.ensures.held c.hide_one.ensures.others
