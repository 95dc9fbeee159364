use Rattle.std.proofs.Common.{◌≡◌, ◌+◌, true, length, ap, refl, ◌∙◌, sym, subst, arith, inl, inr}
use Rattle.touch_targets.specs.Nodes.{IsFollowing, has_slot, newest_of, slots_by, slots_from}
use Rattle.touch_targets.proofs.chains.Chains.{has_cases}
use Rattle.touch_targets.proofs.chains.Walks.{LinkWalk, after_here, here, no_more, rest_here, walk_on, walk_start}
use Rattle.touch_targets.proofs.links.before.Goals as goal

pub loop-at-init : goal.loop-at-init
loop-at-init c =
    let s = c.args.nodes.now in
    rw c.key-at.ensures record {
      walk = walk_start s c.args.group c.index.result.now c.requires.linked c.index.ensures;
      there = subst (λ o. has_slot c.args.slot (slots_from s (newest_of o)) ≡ true) c.index.ensures c.requires.there;
    }

pub returns-then-other-slot : goal.returns-then-other-slot
returns-then-other-slot c =
    let s = c.args.nodes.now in
    let walk = subst (LinkWalk s c.args.group c.loop-at.previous) c.in-Some.is c.loop-at.invariant.walk in
    let at = here s c.args.group c.loop-at.previous c.in-Some.other c.requires.linked c.requires.group walk in
    subst (λ p. IsFollowing c.loop-at.previous p (slots_by s c.args.group)) c.if-other-slot.true (after_here s c.args.group c.loop-at.previous c.in-Some.other walk at)

pub index-requires-in-Some : goal.index-requires-in-Some
index-requires-in-Some c =
    let s = c.args.nodes.now in
    let walk = subst (LinkWalk s c.args.group c.loop-at.previous) c.in-Some.is c.loop-at.invariant.walk in
    let at = here s c.args.group c.loop-at.previous c.in-Some.other c.requires.linked c.requires.group walk in
    rw at.is refl

pub loop-at-smaller : goal.loop-at-smaller
loop-at-smaller c =
    let s = c.args.nodes.now in
    let walk = subst (LinkWalk s c.args.group c.loop-at.previous) c.in-Some.is c.loop-at.invariant.walk in
    let at = here s c.args.group c.loop-at.previous c.in-Some.other c.requires.linked c.requires.group walk in
    let rest = ap (slots_from s) c.in-Some.is ∙ rest_here s c.args.group c.loop-at.previous c.in-Some.other walk at c.index-in-Some.result.now c.index-in-Some.ensures in
    let longer : length (slots_from s c.loop-at.at) ≡ length (slots_from s c.key-at-in-Some.result) + 1 = rw (c.key-at-in-Some.ensures, rest) (omega arith) in
    omega (arith, longer)

pub loop-at-preserved : goal.loop-at-preserved
loop-at-preserved c =
    let s = c.args.nodes.now in
    let n = c.index-in-Some.result.now in
    let walk = subst (LinkWalk s c.args.group c.loop-at.previous) c.in-Some.is c.loop-at.invariant.walk in
    let at = here s c.args.group c.loop-at.previous c.in-Some.other c.requires.linked c.requires.group walk in
    let rest = ap (slots_from s) c.in-Some.is ∙ rest_here s c.args.group c.loop-at.previous c.in-Some.other walk at n c.index-in-Some.ensures in
    rw c.key-at-in-Some.ensures record {
      walk = walk_on s c.args.group c.loop-at.previous c.in-Some.other walk at n c.index-in-Some.ensures;
      there = elim (has_cases c.in-Some.other c.args.slot (slots_from s n.next) (subst (λ l. has_slot c.args.slot l ≡ true) rest c.loop-at.invariant.there)) [
        | inl e ↦ absurd (c.if-other-slot.false (sym e))
        | inr later ↦ later
      ];
    }

pub returns : goal.returns
returns c = absurd (no_more c.args.nodes.now c.args.slot (subst (λ o. has_slot c.args.slot (slots_from c.args.nodes.now o) ≡ true) c.in_default.is c.loop-at.invariant.there))
