-- What a sapling is as a tree, and why it is refused.
use Rattle.std.proofs.Common.{◌≡◌, ℕ, suc, ◌+◌, ◌-◌, Bool, true, false, List, [], ◌∷◌, ◌++◌, length, take, drop, Some, None, refl, sym, ◌∙◌, ap, subst, arith}
use Rattle.std.proofs.lemmas.Bool.{ltb-true}
use Rattle.std.proofs.lemmas.List.{append-nil, take_all}
use Rattle.std.specs.Prelude.{nat_le, nat_lt}
use Rattle.std.specs.Option.{option_or}
use Rattle.view_model.specs.declared.class.Class.{Class}
use Rattle.view_model.specs.declared.sprout.Sprout.{Sprout}
use Rattle.view_model.specs.Forest.{Forest, Nothing, Branch, count_of}
use Rattle.view_model.specs.Grafts.{at_element, graft_refusal, refusal_below, refusal_below_of}
use Rattle.view_model.specs.Growth.{growth_refusal}
use Rattle.view_model.specs.PlainTree.{depth_of, has_child}
use Rattle.view_model.specs.Sprouts.{IsPreorder, Seed, follows, is_preorder, preorder, seeds_of, sprout_of}
use Rattle.view_model.proofs.SproutLaws.{preorder-seeds_of}
use Rattle.view_tree.specs.Rows.{ancestors, has_kids}
use Rattle.view_tree.specs.Views.{Views, IsLive, IsTree, class_of, held_of, number_of, plain_of}
use Rattle.view_tree.proofs.forest.ChildLaws.{has_child_live}
use Rattle.view_tree.proofs.forest.DepthLaws.{depth_live}
use Rattle.view_tree.proofs.forest.PlainLaws.{number_there, or_none, plain-count}
use Rattle.view_tree.proofs.grafts.Paths.{both}

-- one view, and what is below it
pub record Shaped (sprouts : List Sprout) : Type 0 where
  pub seed : Seed
  pub kids : Forest Seed
  pub tree : seeds_of sprouts ≡ Branch seed kids Nothing
  pub list : sprouts ≡ sprout_of 1 seed ∷ preorder 2 kids
  pub follow : follows 1 (preorder 2 kids) ≡ true

-- only the first has the depth 1
follows_not : (before : ℕ) (list : List Sprout) (sprout : Sprout) (more : List Sprout) → sprout.depth ≡ 1 → follows before (list ++ sprout ∷ more) ≡ true → ⊥
follows_not before [] sprout more is follow = let l = ltb-true 1 sprout.depth (both _ _ follow).0 in absurd (omega arith)
follows_not before (first ∷ list) sprout more is follow =
    follows_not first.depth list sprout more is (both (nat_le first.depth (before + 1)) _ (both (nat_lt 1 first.depth) _ follow).1).1

shaped_by : (sprouts : List Sprout) (seeds : Forest Seed) → seeds_of sprouts ≡ seeds → preorder 1 seeds ≡ sprouts → is_preorder (preorder 1 seeds) ≡ true → Shaped sprouts
shaped_by sprouts Nothing tree list is = absurd (cc)
shaped_by sprouts (Branch seed kids Nothing) tree list is =
    let alone : preorder 2 kids ++ [] ≡ preorder 2 kids = append-nil (preorder 2 kids) in
    record {
      seed = seed;
      kids = kids;
      tree = tree;
      list = sym list ∙ ap (λ more. sprout_of 1 seed ∷ more) alone;
      follow = subst (λ more. follows 1 more ≡ true) alone (both true _ is).1;
    }
shaped_by sprouts (Branch seed kids (Branch other below after)) tree list is =
    absurd (follows_not 1 (preorder 2 kids) (sprout_of 1 other) (preorder 2 below ++ preorder 1 after) refl (both true _ is).1)

pub shaped : (sprouts : List Sprout) → IsPreorder sprouts → Shaped sprouts
shaped sprouts is =
    let list = preorder-seeds_of sprouts is in
    shaped_by sprouts (seeds_of sprouts) refl list (subst (λ list. is_preorder list ≡ true) (sym list) is)

-- the views after the first, as a part of the list
pub rest_is : (sprouts : List Sprout) (first : Sprout) (more : List Sprout) → sprouts ≡ first ∷ more → more ≡ take (length sprouts - 1) (drop 1 sprouts)
rest_is sprouts first more is =
    let one : suc (length more) - 1 ≡ length more = omega arith in
    rw (is, one) (sym (take_all (length more) more (omega arith)))

-- why it is refused as the root
pub refusal_as_root : (views : Views) (sprouts : List Sprout) (shape : Shaped sprouts) (count : ℕ) → count ≡ count_of views.tree
    → graft_refusal (plain_of views) None (seeds_of sprouts) ≡ refusal_below shape.seed.class false 1 (count + 1) 2 shape.kids
refusal_as_root views sprouts shape count count_is =
    let number : suc (count_of (plain_of views)) ≡ count + 1 = let n = plain-count (held_of views) views.tree in omega arith in
    ap (graft_refusal (plain_of views) None) shape.tree ∙ ap (λ n. refusal_below shape.seed.class false 1 n 2 shape.kids) number

-- why it is refused below a view
pub refusal_at_parent : (views : Views) (sprouts : List Sprout) (is : IsTree views) (shape : Shaped sprouts) (parent above count : ℕ) (class : Class) (occupied : Bool) → IsLive views parent
    → class ≡ class_of views parent → occupied ≡ has_kids parent views.tree → above ≡ length (ancestors parent views.tree) + 1 → count ≡ count_of views.tree
    → graft_refusal (plain_of views) (Some (number_of views parent)) (seeds_of sprouts)
    ≡ option_or (at_element 1 (growth_refusal class occupied above count)) (refusal_below shape.seed.class false (above + 1) (count + 1) 2 shape.kids)
refusal_at_parent views sprouts is shape parent above count class occupied live class_is occupied_is above_is count_is =
    let list = Branch shape.seed shape.kids Nothing in
    let depth : depth_of (number_of views parent) (plain_of views) ≡ above = let d = depth_live views parent is live in omega arith in
    let has : has_child (number_of views parent) (plain_of views) ≡ occupied = has_child_live views parent is live ∙ sym occupied_is in
    let number : count_of (plain_of views) ≡ count = plain-count (held_of views) views.tree ∙ sym count_is in
    let deeper : suc above ≡ above + 1 = omega arith in
    let more : suc count ≡ count + 1 = omega arith in
    ap (graft_refusal (plain_of views) (Some (number_of views parent))) shape.tree
    ∙ ap (λ view. refusal_below_of view (has_child (number_of views parent) (plain_of views)) (depth_of (number_of views parent) (plain_of views)) (count_of (plain_of views)) list) (number_there views parent is live)
    ∙ ap (λ b. refusal_below (class_of views parent) b (depth_of (number_of views parent) (plain_of views)) (count_of (plain_of views)) 1 list) has
    ∙ ap (λ d. refusal_below (class_of views parent) occupied d (count_of (plain_of views)) 1 list) depth
    ∙ ap (λ n. refusal_below (class_of views parent) occupied above n 1 list) number
    ∙ ap (λ class. refusal_below class occupied above count 1 list) (sym class_is)
    ∙ ap (option_or (at_element 1 (growth_refusal class occupied above count))) (or_none (refusal_below shape.seed.class false (suc above) (suc count) 2 shape.kids)
    ∙ ap (λ d. refusal_below shape.seed.class false d (suc count) 2 shape.kids) deeper
    ∙ ap (λ n. refusal_below shape.seed.class false (above + 1) n 2 shape.kids) more)
