use Rattle.std.proofs.Common.{◌<◌, ◌∙◌, ap, refl, Option, ℕ}
use Rattle.seen_edits.proofs.GivenLaws.{given_on, given_start}
use Rattle.view_tree.proofs.forest.PreorderLaws.{rows_from_root}
use Rattle.view_tree.specs.tree.Preorder.{rows_from}
use Rattle.view_tree.specs.Rows.{count_of_key}
use Rattle.seen_edits.proofs.restoring.note_all.Goals as goal

pub loop-next-init : goal.loop-next-init
loop-next-init c =
    let tree = c.args.tree.now.tree in
    record {
      live = c.root-next.ensures.live;
      grew = λ x y h. h;
      noted =
          given_start c.args.states.now c.args.window c.args.damage.now.rect c.args.tree.now c.root-next.result
          (ap (λ (next : Option ℕ). rows_from next tree) c.root-next.ensures.key ∙ rows_from_root tree);
      within = λ box first seen. first;
    }

pub loop-next-preserved : goal.loop-next-preserved
loop-next-preserved c =
    let view = c.in-Some.view in
    let live : 0 < count_of_key view c.args.tree.now.tree = rw c.in-Some.is at c.loop-next.invariant.live in
    record {
      live = c.next_in_preorder-next.ensures.live;
      grew = λ x y h. c.note_view.ensures.grew x y (c.loop-next.invariant.grew x y h);
      noted =
          given_on c.args.states.now c.args.window c.loop-next.damage.rect c.note_view.new.damage.rect c.args.tree.now view c.next_in_preorder-next.result live c.next_in_preorder-next.ensures.rows
          c.note_view.ensures.grew c.note_view.ensures.noted (rw c.in-Some.is at c.loop-next.invariant.noted);
      within = λ box first seen. c.note_view.ensures.within box (c.loop-next.invariant.within box first seen) (λ some. seen view live some);
    }

pub returns-clause-noted : goal.returns-clause-noted
returns-clause-noted c = λ key live some. (rw c.in_default.is at c.loop-next.invariant.noted) key live some refl
