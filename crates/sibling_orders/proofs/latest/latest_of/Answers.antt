use Rattle.std.proofs.Common.{List, ℕ, arith, ap, below_more, get_or, length, subst, sym}
use Rattle.view_model.specs.SiblingRules.{no_link}
use Rattle.sibling_orders.specs.Latest.{IsReachedIn}
use Rattle.sibling_orders.proofs.latest.latest_of.Goals as goal

pub loop-place-preserved : goal.loop-place-preserved
loop-place-preserved c =
    let noted = c.note_latest.ensures in
    let same = c.in_ok-reserve_id.ensures.same in (
      below_more _ _ (λ p small named.
          let id : ℕ = (get_or c.args.links.now p no_link).id in
          let kid : ℕ = get_or c.args.numbers.now p 0 in
          noted.others id kid (subst (λ (latest : List (ℕ × ℕ)). IsReachedIn latest id kid) (sym same) (c.loop-place.invariant.0 p small named))) noted.own,
      let few = noted.few in
          let kept = ap length same in
          let before = c.loop-place.invariant.1 in
          omega arith,
    )

pub returns-clause-reached : goal.returns-clause-reached
returns-clause-reached c = λ p small. c.loop-place.invariant.0 p (let end = c.loop-place-test.false in omega arith)

pub returns-clause-few : goal.returns-clause-few
returns-clause-few c = let few = c.loop-place.invariant.1 in omega arith
