-- The costs of measuring: of nothing, of one part of a list after another, and of one measuring after another.
use Rattle.std.proofs.Common.{◌≡◌, ◌≤◌, ℕ, ◌+◌, ◌-◌, ◌^◌, min, arith, ap, ◌∙◌, refl}
use Rattle.kept_views.proofs.laid.LaidFrames.{owed_parts}
use Rattle.measure_pass.specs.Measured.{Costs, Counted}
use Rattle.measure_pass.proofs.held.Frames.{owed-along}
use Rattle.view_model.specs.declared.work.Work.{Work}
use Rattle.view_model.specs.Forest.{Forest}
use Rattle.view_tree.specs.declared.counts.Counts.{Counts}
use Rattle.view_tree.specs.Rows.{Row, later_siblings, first_tree, count_of_key}
use Rattle.view_tree.specs.Views.{Held, KeepsOutside, Views}
use Rattle.view_tree.proofs.forest.Walks.{KeepsInside-first, KeepsInside-rest}

-- nothing was measured
pub costs_nothing : (list : Forest Row) (held : ℕ → Held) (count : ℕ) → Costs list held held count 0 count
costs_nothing list held count = record { spent = omega arith; owing = omega arith }

-- the same number of calls, written differently
pub costs_same : (list : Forest Row) (before held : ℕ → Held) (old calls all new : ℕ) → all ≡ calls → Costs list before held old calls new
    → Costs list before held old all new
costs_same list before held old calls all new is c = let s = c.spent in let o = c.owing in record { spent = omega arith; owing = omega arith }

-- one measuring and then another
pub costs_twice : (list : Forest Row) (a b c : ℕ → Held) (old mid new calls more : ℕ) → Costs list a b old calls mid → Costs list b c mid more new
    → Costs list a c old (calls + more) new
costs_twice list a b c old mid new calls more first second =
    let s1 = first.spent in let s2 = second.spent in let o1 = first.owing in let o2 = second.owing in record { spent = omega arith; owing = omega arith }

-- the first tree of a list and then the others
pub costs_parts : (list : Forest Row) (a b c : ℕ → Held) (old mid new calls more : ℕ) → ((key : ℕ) → count_of_key key list ≤ 1) → KeepsOutside a b (first_tree list) → KeepsOutside b c (later_siblings list)
    → Costs (first_tree list) a b old calls mid → Costs (later_siblings list) b c mid more new → Costs list a c old (calls + more) new
costs_parts list a b c old mid new calls more once one rest first second =
    let s1 = first.spent in
    let s2 = second.spent in
    let o1 = first.owing in
    let o2 = second.owing in
    let p1 = owed_parts a list in
    let p2 = owed_parts c list in
    let e1 = owed-along a b (later_siblings list) (KeepsInside-rest a b list once one) in
    let e2 = owed-along b c (first_tree list) (KeepsInside-first b c list once rest) in
    record { spent = omega arith; owing = omega arith }

-- the children of a view and then the view itself, whose measuring is counted next
pub costs_own : (list : Forest Row) (before held : ℕ → Held) (old calls new : ℕ) → Costs list before held old calls new → Costs list before held old (1 + calls) (new + 1)
costs_own list before held old calls new kids = let s = kids.spent in let o = kids.owing in record { spent = omega arith; owing = omega arith }

-- how often it was measured
pub counted_self : (views : Views) (work : Work) → Counted 0 views views work work
counted_self views work = record { by = 0; enough = omega arith; work = omega arith; tree = omega arith; laid = refl; painted = refl }

twice : (old mid new by more top : ℕ) → min mid top ≡ min (old + by) top → min new top ≡ min (mid + more) top → min new top ≡ min (old + (by + more)) top
twice old mid new by more top first second = omega arith

pub counted_then : (least more : ℕ) (a b c : Views) (old mid new : Work) → Counted least a b old mid → Counted more b c mid new → Counted (least + more) a c old new
counted_then least more a b c old mid new first second = record {
  by = first.by + second.by;
  enough = let e1 = first.enough in let e2 = second.enough in omega arith;
  work = twice old.measured mid.measured new.measured first.by second.by (2 ^ 64 - 1) first.work second.work;
  tree = twice a.counts.measures b.counts.measures c.counts.measures first.by second.by (2 ^ 64 - 1) first.tree second.tree;
  laid = second.laid ∙ first.laid;
  painted = second.painted ∙ first.painted;
}

pub counted_fewer : (least more : ℕ) (a b : Views) (old new : Work) → least ≤ more → Counted more a b old new → Counted least a b old new
counted_fewer least more a b old new fewer c = let e = c.enough in record { by = c.by; enough = omega arith; work = c.work; tree = c.tree; laid = c.laid; painted = c.painted }

-- nothing was counted
pub counted_none : (a b : Views) (old new : Work) → b.counts ≡ a.counts → new ≡ old → Counted 0 a b old new
counted_none a b old new counts same = record {
  by = 0;
  enough = omega arith;
  work = let e = ap (λ (work : Work). work.measured) same in omega arith;
  tree = let e = ap (λ (counts : Counts). counts.measures) counts in omega arith;
  laid = ap (λ (counts : Counts). counts.laid) counts;
  painted = ap (λ (work : Work). work.painted) same;
}

one : (old new top : ℕ) → new ≡ min (old + 1) top → min new top ≡ min (old + 1) top
one old new top is = omega arith

-- one measuring was
pub counted_one : (a b : Views) (old new : Work) → b.counts ≡ record a.counts { measures = min (a.counts.measures + 1) (2 ^ 64 - 1) }
    → new ≡ record old { measured = min (old.measured + 1) (2 ^ 64 - 1) } → Counted 1 a b old new
counted_one a b old new counts same = record {
  by = 1;
  enough = omega arith;
  work = one old.measured new.measured (2 ^ 64 - 1) (ap (λ (work : Work). work.measured) same);
  tree = one a.counts.measures b.counts.measures (2 ^ 64 - 1) (ap (λ (counts : Counts). counts.measures) counts);
  laid = ap (λ (counts : Counts). counts.laid) counts;
  painted = ap (λ (work : Work). work.painted) same;
}

-- those below a view and then its own
pub counted_own : (a b c : Views) (old mid new : Work) → Counted 0 a b old mid → Counted 1 b c mid new → Counted 1 a c old new
counted_own a b c old mid new below own = counted_then 0 1 a b c old mid new below own
