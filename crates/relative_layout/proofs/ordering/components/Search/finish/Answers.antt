use Rattle.std.proofs.Common.{◌≡◌, ◌<◌, length, inl, inr, arith, refl, ◌∙◌}
use Rattle.std.proofs.lemmas.Bool.{cases_Bool}
use Rattle.relative_layout.proofs.orders.SettleLaws.{Settles-next, Settles-none}
use Rattle.relative_layout.proofs.ordering.components.Search.finish.Goals as goal

pub loop-place-init : goal.loop-place-init
loop-place-init c = record {
  settles = Settles-none c.has_two-two.result c.args.count c.args.start c.args.self.now.path.items c.args.self.now.status.items c.args.self.now.members.items;
  path = refl;
  parts = refl;
  todo = refl;
}

pub loop-place-preserved : goal.loop-place-preserved
loop-place-preserved c =
    let old = c.args.self.now in
    let mid = c.loop-place.self in
    let new = c.settle.new.self in
    let kept = c.loop-place.invariant in
    let settle = c.settle.ensures in
    let here : c.loop-place.place < length old.path.items = omega (arith, c.loop-place-test.true, c.len-place-end.ensures, old.path.ok.0) in
    record {
      settles = Settles-next c.has_two-two.result c.args.count c.args.start c.loop-place.place old.path.items old.status.items mid.status.items new.status.items old.members.items mid.members.items new.members.items
          c.loop-place.auto.place (c.requires.inside c.loop-place.place here) c.requires.members
          (rw kept.path at settle.status) (rw kept.path at settle.marked) settle.one (rw kept.path at settle.id) kept.settles;
      path = settle.path ∙ kept.path;
      parts = settle.parts ∙ kept.parts;
      todo = settle.todo ∙ kept.todo;
    }

pub returns-clause-leaves : goal.returns-clause-leaves
returns-clause-leaves c =
    let old = c.args.self.now in
    let now = c.loop-place.self in
    let end : c.loop-place.place ≡ length old.path.items = omega (arith, c.loop-place-test.false, c.len-place-end.ensures, c.loop-place.auto.place-end (omega (arith, c.requires.start, c.len-place-end.ensures, old.path.ok.0)), old.path.ok.0) in
    record {
      two = c.has_two-two.result;
      yes = λ t. rw c.deref.ensures.value at (c.has_two-two.ensures.yes t);
      no = λ pair. elim (cases_Bool c.has_two-two.result) [ inl t ↦ t | inr f ↦ absurd (c.has_two-two.ensures.no f (rw c.deref.ensures.value pair)) ];
      settles = rw end at c.loop-place.invariant.settles;
    }
