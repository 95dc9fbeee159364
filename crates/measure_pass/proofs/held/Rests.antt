-- What measuring leaves as it was: measuring nothing, and one measuring after another.
use Rattle.std.proofs.Common.{◌≤◌, ℕ, arith, refl, ◌∙◌, subst}
use Rattle.kept_views.specs.Kept.{Ready}
use Rattle.measure_pass.specs.Measured.{Counted, IsMeasured, Keeps, KeepsRest, kids_from, tree_from}
use Rattle.measure_pass.proofs.walks.AtPlace.{Ready-at}
use Rattle.measure_pass.proofs.Counts.{counted_self, counted_then}
use Rattle.measure_pass.proofs.held.Own.{keeps_self, keeps_trans}
use Rattle.measure_pass.proofs.walks.Places.{in_list}
use Rattle.view_model.specs.declared.work.Work.{Work}
use Rattle.view_model.specs.Forest.{Forest}
use Rattle.view_model.specs.Measuring.{Specs}
use Rattle.view_tree.specs.Rows.{Row, count_of_key, first_tree, siblings_from}
use Rattle.view_tree.specs.Views.{KeepsOutside, SameTree, Views, held_of}

same_self : (views : Views) → SameTree views views
same_self views = record { tree = refl; orders = refl; next = refl }

pub same_then : (a b c : Views) → SameTree a b → SameTree b c → SameTree a c
same_then a b c first second = record { tree = second.tree ∙ first.tree; orders = second.orders ∙ first.orders; next = second.next ∙ first.next }

pub rest_none : (views : Views) (list : Forest Row) (work : Work) → Ready (held_of views) list → KeepsRest views views list work work
rest_none views list work ready =
    record { ready = ready; same = same_self views; keeps = keeps_self (held_of views); others = λ key none. refl; counted = counted_self views work }

-- of a view that `measure` has measured
pub rest_measured : (a b : Views) (view : ℕ) (specs : Specs) (old new : Work) → SameTree a b → IsMeasured b view specs → Keeps (held_of a) (held_of b)
    → KeepsOutside (held_of a) (held_of b) (tree_from view a.tree) → Counted 0 a b old new → KeepsRest a b (tree_from view a.tree) old new
rest_measured a b view specs old new same measured keeps others counted = record {
  ready = subst (λ (tree : Forest Row). Ready (held_of b) (tree_from view tree)) same.tree measured.ready;
  same = same;
  keeps = keeps;
  others = others;
  counted = counted;
}

-- of the children of a view, twice
pub rest_kids : (view : ℕ) (a b c : Views) (old mid new : Work) → KeepsRest a b (kids_from view a.tree) old mid → KeepsRest b c (kids_from view b.tree) mid new
    → KeepsRest a c (kids_from view a.tree) old new
rest_kids view a b c old mid new first other =
    let second : KeepsRest b c (kids_from view a.tree) mid new = subst (λ (tree : Forest Row). KeepsRest b c (kids_from view tree) mid new) first.same.tree other in
    record {
      ready = second.ready;
      same = same_then a b c first.same second.same;
      keeps = keeps_trans (held_of a) (held_of b) (held_of c) first.keeps second.keeps;
      others = λ key none. second.others key none ∙ first.others key none;
      counted = counted_then 0 0 a b c old mid new first.counted second.counted;
    }

-- of some children, and of the one of a place
pub rest_at : (a b c : Views) (list : Forest Row) (place : ℕ) (old mid new : Work) → ((key : ℕ) → count_of_key key list ≤ 1) → KeepsRest a b list old mid
    → KeepsRest b c (first_tree (siblings_from place list)) mid new → KeepsRest a c list old new
rest_at a b c list place old mid new once first second = record {
  ready = Ready-at (held_of b) (held_of c) place list once second.others first.ready second.ready;
  same = same_then a b c first.same second.same;
  keeps = keeps_trans (held_of a) (held_of b) (held_of c) first.keeps second.keeps;
  others = λ key none. second.others key (let less = in_list key list place in omega arith) ∙ first.others key none;
  counted = counted_then 0 0 a b c old mid new first.counted second.counted;
}
