use Rattle.std.proofs.Common.{◌≡◌, ◌+◌, ◌∙◌, ◌∷◌, drop, ap, arith, sym, refl}
use Rattle.std.proofs.lemmas.List.{drop_more, drop_all}
use Rattle.std.proofs.lemmas.Result.{err_from_is_err_and}
use Rattle.view_model.specs.declared.sprout.Sprout.{Sprout}
use Rattle.view_tree.proofs.grafts.CheckedSprouts.{left_on, left_out, left_start, low, next}
use Rattle.view_tree.proofs.grafts.Refusing.{refusal_is}
use Rattle.view_tree.proofs.tree.graft.growth_below.Goals as goal

pub loop-sprout-init : goal.loop-sprout-init
loop-sprout-init c = record { index = omega arith; left = left_start _ _ _ _ _ refl (let n = c.requires.count in omega arith) c.requires.follow }

pub returns-in_err-growth_at : goal.returns-in_err-growth_at
returns-in_err-growth_at c = λ kids same.
    let rest : drop c.loop-sprout.sprout-index c.args.sprouts.now ≡ c.sprout-item.result ∷ drop (c.loop-sprout.sprout-index + 1) c.args.sprouts.now =
    drop_more c.args.sprouts.now c.loop-sprout.sprout-index c.sprout-item.result c.loop-sprout-test.true ∙ ap (λ (s : Sprout). s ∷ drop (c.loop-sprout.sprout-index + 1) c.args.sprouts.now) (sym c.sprout-item.is) in
    let left = rw rest at c.loop-sprout.invariant.left in
    let p = err_from_is_err_and c.from_residual.result c.from_residual.ensures.1 in
    rw (p.1, p.2) (sym (refusal_is c.args.depth c.args.count c.args.class _ kids c.args.sprouts.now refl same) ∙ left_out _ _ _ _ _ _ _ _ left _ c.in_err-growth_at.ensures)

pub bounds-path-above-in-loop-sprout : goal.bounds-path-above-in-loop-sprout
bounds-path-above-in-loop-sprout c =
    let rest : drop c.loop-sprout.sprout-index c.args.sprouts.now ≡ c.sprout-item.result ∷ drop (c.loop-sprout.sprout-index + 1) c.args.sprouts.now =
    drop_more c.args.sprouts.now c.loop-sprout.sprout-index c.sprout-item.result c.loop-sprout-test.true ∙ ap (λ (s : Sprout). s ∷ drop (c.loop-sprout.sprout-index + 1) c.args.sprouts.now) (sym c.sprout-item.is) in
    let left = rw rest at c.loop-sprout.invariant.left in
    let l = low _ _ _ _ _ _ _ _ left c.in_ok-growth_at.ensures in
    let d = c.requires.depth in
    omega arith

pub loop-sprout-preserved : goal.loop-sprout-preserved
loop-sprout-preserved c =
    let rest : drop c.loop-sprout.sprout-index c.args.sprouts.now ≡ c.sprout-item.result ∷ drop (c.loop-sprout.sprout-index + 1) c.args.sprouts.now =
    drop_more c.args.sprouts.now c.loop-sprout.sprout-index c.sprout-item.result c.loop-sprout-test.true ∙ ap (λ (s : Sprout). s ∷ drop (c.loop-sprout.sprout-index + 1) c.args.sprouts.now) (sym c.sprout-item.is) in
    let left = rw rest at c.loop-sprout.invariant.left in
    let n = next _ _ _ _ _ _ _ _ left in
    let d = n.deep in
    record {
      index = let l = c.loop-sprout-test.true in omega arith;
      left = left_on _ _ _ _ _ _ _ _ left c.in_ok-growth_at.ensures _ (omega arith) c.requires.depth.0;
    }

pub returns : goal.returns
returns c = λ kids same.
    let none = rw (drop_all c.loop-sprout.sprout-index c.args.sprouts.now (let end = c.loop-sprout-test.false in omega arith)) at c.loop-sprout.invariant.left in
    sym (refusal_is c.args.depth c.args.count c.args.class _ kids c.args.sprouts.now refl same) ∙ sym none.same
