use Rattle.std.proofs.Common.{rules, ◌≡◌, ◌+◌, ◌∙◌, ◌∷◌, [], length, ap, arith, subst, suc, sym}
use Rattle.std.proofs.lemmas.List.{nil_from_length}
use Rattle.std.specs.Option.{option_or}
use Rattle.view_model.specs.Cycles.{member_from}
use Rattle.view_tree.specs.tree.Grafting.{AreEntries, cycle_in}
use Rattle.view_tree.proofs.grafts.EntryLaws.{entries_end, entries_on}
use Rattle.view_tree.proofs.tree.relatives.with_entries.Goals as goal

pub loop-sprout-preserved : goal.loop-sprout-preserved
loop-sprout-preserved c =
    let rest : c.loop-sprout.rest.now ≡ c.in-Some.sprout.now ∷ c.in-Some.more.now = search rules in
    let i = rw rest at c.loop-sprout.invariant in
    let added = c.in-Ok.ensures in
    let step : suc c.loop-sprout.number ≡ c.loop-sprout.number + 1 = omega arith in
    record {
      cycle = ap (λ number. cycle_in (member_from c.args.next) number c.in-Some.more.now) (sym step)
          ∙ ap (λ reason. option_or reason (cycle_in (member_from c.args.next) (suc c.loop-sprout.number) c.in-Some.more.now)) (sym added.0) ∙ i.cycle;
      made = λ tail are.
          entries_on c.loop-sprout.number c.args.next c.args.entries.items c.in-Some.sprout.now c.in-Some.more.now c.args.sprouts.now c.loop-sprout.entries.items c.add_entry.new.entries.items i.made added.1 tail
          (subst (λ number. AreEntries number c.in-Some.more.now tail) (sym step) are);
      count = let count = i.count in omega arith;
      late = let late = i.late in omega arith;
    }

pub returns : goal.returns
returns c =
    let none : length c.loop-sprout.rest.now ≡ 0 = search rules in
    let rest : c.loop-sprout.rest.now ≡ [] = nil_from_length c.loop-sprout.rest.now none in
    let i = rw rest at c.loop-sprout.invariant in
    (sym i.cycle, entries_end c.loop-sprout.number c.args.next c.args.entries.items c.args.sprouts.now c.loop-sprout.entries.items i.made)
