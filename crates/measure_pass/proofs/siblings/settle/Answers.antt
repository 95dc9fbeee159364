use Rattle.std.proofs.Common.{◌≡◌, ◌≤◌, ℕ, refl, ◌∙◌, arith, subst, inl, inr}
use Rattle.std.proofs.lemmas.Bool.{cases_lt}
use Rattle.measure_pass.specs.Siblings.{FirstHasEdges, IsSettled, edges_of, kids_in, phase_of}
use Rattle.measure_pass.proofs.walks.AtPlace.{Ready-at, Ready-place}
use Rattle.measure_pass.proofs.relatives.Edged.{edged-self, edged-then}
use Rattle.measure_pass.proofs.held.Own.{keeps_self, keeps_trans}
use Rattle.measure_pass.proofs.walks.Places.{FirstHasEdges-along, FirstHasSize-along, in_list, still_there}
use Rattle.measure_pass.proofs.relatives.SiblingTurns.{each_length, not_in, once_below, settled_here}
use Rattle.view_model.specs.declared.relative.Axis.TheVariants.{Vertical}
use Rattle.view_model.specs.PlainTree.{PlainView}
use Rattle.view_model.specs.RelativeCourse.{arranged, edges_at}
use Rattle.view_model.specs.RelativeLayout.{edges_with, relative_size}
use Rattle.view_tree.specs.Rows.{children_of_first, count_of_key, first_tree, part_from, siblings_from, views_of}
use Rattle.view_tree.specs.Views.{KeepsOutside, held_of}
use Rattle.measure_pass.proofs.siblings.settle.Goals as goal

pub child_at-kid-requires-clause-there : goal.child_at-kid-requires-clause-there
child_at-kid-requires-clause-there c =
    let size = each_length (λ (view : PlainView). view.number) (views_of (children_of_first (part_from c.args.view c.args.tree.now.tree))) in
    let value = c.turns-place-end.ensures.value in
    rw c.loop-place.invariant.same.tree (omega arith)

pub settle_kid-requires-clause-size : goal.settle_kid-requires-clause-size
settle_kid-requires-clause-size c =
    let tree = c.args.tree.now.tree in
    let list = children_of_first (part_from c.args.view tree) in
    let i = c.loop-place.invariant in
    let place = c.loop-place.place in
    let value = c.turns-place-end.ensures.value in
    let part = rw i.same.tree at c.child_at-kid.ensures.part in
    rw i.same.tree (rw part (FirstHasSize-along (held_of c.args.tree.now) (held_of c.loop-place.tree) (siblings_from place list) (i.still place (omega arith)) (c.requires.sizes place (omega arith))))

pub loop-place-init : goal.loop-place-init
loop-place-init c = record {
  same = record { tree = refl; orders = refl; next = refl };
  settled = λ own specs first second represents size over place small. absurd (omega arith);
  still = λ place ahead key here. refl;
  keeps = keeps_self (held_of c.args.tree.now);
  others = λ key none. refl;
  edged = edged-self (held_of c.args.tree.now);
  ready = λ ready. ready;
  counts = refl;
}

pub loop-place-preserved : goal.loop-place-preserved
loop-place-preserved c =
    let tree = c.args.tree.now.tree in
    let list = children_of_first (part_from c.args.view tree) in
    let i = c.loop-place.invariant in
    let place = c.loop-place.place in
    let kid = c.child_at-kid.result in
    let start = held_of c.args.tree.now in
    let old = held_of c.loop-place.tree in
    let new = held_of c.settle_kid.new.tree in
    let s = c.settle_kid.ensures in
    let part : part_from kid tree ≡ siblings_from place list = rw i.same.tree at c.child_at-kid.ensures.part in
    let live = rw i.same.tree at c.child_at-kid.ensures.live in
    let once : (key : ℕ) → count_of_key key list ≤ 1 = once_below c.args.view tree c.requires.live (rw i.same.tree at c.child_at-kid.ensures.is_tree.keys) in
    let apart : KeepsOutside old new (first_tree (part_from kid tree)) = λ key none. s.others key (λ same. not_in key kid tree live none same) in
    let others : KeepsOutside old new (first_tree (siblings_from place list)) = rw part at apart in
    record {
      same = record { tree = s.same.tree ∙ i.same.tree; orders = s.same.orders ∙ i.same.orders; next = s.same.next ∙ i.same.next };
      settled = λ own specs first second represents size over at small. elim (cases_lt at place) [
        | inl lt ↦
            FirstHasEdges-along old new ((phase_of Vertical own specs (kids_in list)).asks at) (edges_of (edges_at own specs (kids_in list) (arranged own specs (kids_in list)) at))
            (siblings_from at list) (still_there old new list at place once (λ same. omega arith) others) (i.settled own specs first second represents size over at lt)
        | inr le ↦
            let same : place ≡ at = omega arith in
            let value = c.turns-place-end.ensures.value in
            let high = phase_of Vertical own specs (kids_in list) in
            let edges = edges_with Vertical (high.spans place) (high.before place) in
            let was : FirstHasEdges old (high.asks place) edges (siblings_from place list) =
            FirstHasEdges-along start old (high.asks place) edges (siblings_from place list) (i.still place (omega arith)) (over place (omega arith)) in
            let moved = rw part at (rw i.same.tree at (s.settled own specs (high.asks place) first second edges represents)) in
            subst (IsSettled own specs new list) same (settled_here own specs list place new (relative_size own specs first second) size (moved was))
      ];
      still = λ at ahead key here. still_there old new list at place once (λ same. omega arith) others key here ∙ i.still at (omega arith) key here;
      keeps = keeps_trans start old new i.keeps s.keeps;
      others = λ key none. others key (let less = in_list key list place in omega arith) ∙ i.others key none;
      edged = edged-then start old new i.edged s.edged;
      ready = λ ready. Ready-at old new place list once others (i.ready ready) (rw part at (rw i.same.tree at s.ready) (Ready-place old place list (i.ready ready)));
      counts = s.counts ∙ i.counts;
    }

pub returns-clause-settled : goal.returns-clause-settled
returns-clause-settled c = λ own specs first second represents size over place small.
    let value = c.turns-place-end.ensures.value in
    c.loop-place.invariant.settled own specs first second represents size over place (omega arith)
