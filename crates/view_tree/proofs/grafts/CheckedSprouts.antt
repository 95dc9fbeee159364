-- The views of a sapling of which some were checked, and may be added.
use Rattle.std.proofs.Common.{◌≡◌, ℕ, suc, ◌+◌, ◌-◌, ◌<◌, ◌≤◌, true, List, ◌∷◌, length, Option, Some, None, refl, sym, ◌∙◌, ap, arith, inl, inr}
use Rattle.std.proofs.lemmas.Bool.{cases_eq}
use Rattle.std.proofs.lemmas.List.{get_or-replicate, get_or-set_other, get_or-set_same, length-set}
use Rattle.std.specs.Prelude.{nat_le, replicate, slice_index_or, slice_set}
use Rattle.view_model.specs.Numbers.{max_depth, max_views}
use Rattle.view_model.specs.declared.class.Class.{Class}
use Rattle.view_model.specs.declared.class.Class.TheVariants as class
use Rattle.view_model.specs.declared.sprout.Sprout.{Sprout}
use Rattle.view_model.specs.Grafts.{at_element}
use Rattle.view_model.specs.Growth.{growth_refusal}
use Rattle.view_model.specs.Refusals.{PlainRefusal}
use Rattle.view_model.specs.Sprouts.{follows}
use Rattle.view_tree.proofs.grafts.Paths.{FollowsDepth, followed, last_earlier, last_own, with_last}
use Rattle.view_tree.proofs.grafts.Refusing.{at_none, refusal_along}
use Rattle.view_tree.proofs.values.KeptLaws.{grows}

-- what is left to check, if all that was checked may be added: `classes` has the class of the last view of each place,
-- and the last view of all has the depth `before`
pub record IsLeftToCheck (depth : ℕ) (total : Option PlainRefusal) (before : ℕ) (classes : List Class) (count element : ℕ) (rest : List Sprout) : Type 0 where
  pub path : ℕ → Class
  pub read : (place : ℕ) → place < before → slice_index_or classes place class.View ≡ path place
  pub shallow : before ≤ max_depth
  pub long : length classes ≡ max_depth
  pub follow : follows before rest ≡ true
  pub same : refusal_along depth before path count element rest ≡ total
  pub small : element ≤ count + 2
  pub few : count ≤ max_views + 1

pub left_start : (depth count : ℕ) (own : Class) (classes : List Class) (sprouts : List Sprout) → classes ≡ replicate max_depth own → count ≤ max_views + 1 → follows 1 sprouts ≡ true
    → IsLeftToCheck depth (refusal_along depth 1 (λ _. own) count 2 sprouts) 1 classes count 2 sprouts
left_start depth count own classes sprouts all few follow = record {
  path = λ _. own;
  read = λ place less. rw all (get_or-replicate max_depth place own class.View (omega arith));
  shallow = omega arith;
  long = ap length all;
  follow = follow;
  same = refl;
  small = omega arith;
  few = few;
}

module _ (depth : ℕ) (total : Option PlainRefusal) (before : ℕ) (classes : List Class) (count element : ℕ) (sprout : Sprout) (more : List Sprout)
    (left : IsLeftToCheck depth total before classes count element (sprout ∷ more)) where
  pub next : FollowsDepth before sprout more
  next = followed before sprout more left.follow

  -- the class of the view below which it is added
  pub above : slice_index_or classes (sprout.depth - 2) class.View ≡ left.path (sprout.depth - 2)
  above = left.read (sprout.depth - 2) (let n = next.next in let d = next.deep in omega arith)

  -- it is refused
  pub left_out : (reported : PlainRefusal)
      → at_element element (growth_refusal (slice_index_or classes (sprout.depth - 2) class.View) (nat_le sprout.depth before) (depth + (sprout.depth - 2)) count) ≡ Some reported
      → total ≡ Some reported
  left_out reported is = let here = rw above at is in sym left.same ∙ rw here

  -- it may be added
  module _ (taken : at_element element (growth_refusal (slice_index_or classes (sprout.depth - 2) class.View) (nat_le sprout.depth before) (depth + (sprout.depth - 2)) count) ≡ None) where
    pub low : (depth + (sprout.depth - 2) < max_depth) × (count < max_views)
    low = let g = grows (slice_index_or classes (sprout.depth - 2) class.View) (nat_le sprout.depth before) (depth + (sprout.depth - 2)) count (at_none element _ taken) in (g.1, g.2)

    pub left_on : (place : ℕ) → place ≡ sprout.depth - 1 → 1 ≤ depth → IsLeftToCheck depth total sprout.depth (slice_set classes place sprout.class) (count + 1) (element + 1) more
    left_on place at deep =
        let d = next.deep in
        let n = next.next in
        let l = low in
        let long = left.long in
        let here = rw above at taken in
        record {
          path = with_last left.path place sprout.class;
          read = λ other less. elim (cases_eq other place) [
            | inl e ↦ rw e (get_or-set_same classes place sprout.class class.View (omega arith) ∙ sym (last_own left.path place sprout.class))
            | inr ne ↦
                get_or-set_other classes place other sprout.class class.View ne ∙ left.read other (omega arith)
                ∙ sym (last_earlier left.path place other sprout.class (omega arith))
          ];
          shallow = omega arith;
          long = length-set classes place sprout.class ∙ left.long;
          follow = next.rest;
          same =
              let a : count + 1 ≡ suc count = omega arith in
              let b : element + 1 ≡ suc element = omega arith in
              rw (a, b, at) (let s = rw here at left.same in s);
          small = let s = left.small in omega arith;
          few = omega arith;
        }
