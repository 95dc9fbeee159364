use Rattle.std.proofs.Common.{◌≡◌, ◌-◌, ap, arith, length, refl, sym, take, true, ◌∙◌}
use Rattle.std.specs.Prelude.{vec_len}
use Rattle.relative_layout.proofs.orders.SearchLaws.{Joins-more, Joins-none, fewer_parts}
use Rattle.relative_layout.specs.ordering.Components.{begins_after}
use Rattle.relative_layout.proofs.ordering.components.Search.join.Goals as goal

pub loop-self-init : goal.loop-self-init
loop-self-init c = record { joins = Joins-none c.args.place c.args.self.now.parts.items; status = refl; path = refl; todo = refl; members = refl }

pub loop-self-preserved : goal.loop-self-preserved
loop-self-preserved c =
    let kept = c.loop-self.invariant in
    let mid = c.loop-self.self.parts in
    let later : begins_after c.args.place mid.items ≡ true = rw c.deref.ensures.value at (sym c.begins_after.ensures ∙ c.loop-self-test.true) in
    let size : vec_len mid ≡ length mid.items = omega (arith, mid.ok.0) in
    record {
      joins = Joins-more c.args.place c.args.self.now.parts.items mid.items c.pop.new.self.items later (c.pop.ensures.rest ∙ ap (λ n. take (n - 1) mid.items) size) kept.joins;
      status = kept.status;
      path = kept.path;
      todo = kept.todo;
      members = kept.members;
    }

pub loop-self-smaller : goal.loop-self-smaller
loop-self-smaller c =
    let mid = c.loop-self.self.parts in
    let later : begins_after c.args.place mid.items ≡ true = rw c.deref.ensures.value at (sym c.begins_after.ensures ∙ c.loop-self-test.true) in
    let size : vec_len mid ≡ length mid.items = omega (arith, mid.ok.0) in
    fewer_parts mid.items c.pop.new.self.items c.args.place later (c.pop.ensures.rest ∙ ap (λ n. take (n - 1) mid.items) size)
