-- The tree after a sapling was added.
use Rattle.std.proofs.Common.{◌≡◌, ℕ, suc, ◌+◌, ◌≤◌, Bool, true, false, List, [], ◌∷◌, length, Option, Some, None, refl, sym, ◌∙◌, ap, arith, length-append}
use Rattle.std.proofs.lemmas.Bool.{eq-eqb}
use Rattle.std.specs.Prelude.{IfSome}
use Rattle.std.specs.Option.{option_map, option_or}
use Rattle.view_model.specs.Numbers.{max_views}
use Rattle.view_model.specs.declared.class.Class.{Class}
use Rattle.view_model.specs.declared.sprout.Sprout.{Sprout}
use Rattle.view_model.specs.Directed.{directed}
use Rattle.view_model.specs.Forest.{Forest, Nothing, Branch, count_of}
use Rattle.view_model.specs.Grafts.{graft_refusal, refusal_below}
use Rattle.view_model.specs.Growth.{growth_refusal, grown_at, refusal_at}
use Rattle.view_model.specs.Layout.{unscrolled}
use Rattle.view_model.specs.PlainTree.{PlainView, grown, single}
use Rattle.view_model.specs.Refusals.{PlainRefusal}
use Rattle.view_model.specs.Sprouts.{IsPreorder, Seed, numbered, preorder, seed_of, seeds_of, sprout_of, view_of}
use Rattle.view_tree.specs.tree.Attached.{Attached}
use Rattle.view_tree.specs.tree.Directions.{is_rtl_at, running_below}
use Rattle.view_tree.specs.tree.Grafted.{Grafted}
use Rattle.view_tree.specs.Rows.{ancestors, has_kids, head_view, leaf, part_from}
use Rattle.view_tree.specs.tree.Sowing.{FitsBelow, GainedBelow}
use Rattle.view_tree.specs.Views.{Views, IsLive, IsTree, class_of, number_of, plain_of}
use Rattle.view_tree.proofs.forest.ChildLaws.{has_kids-leaf, has_kids-new}
use Rattle.view_tree.proofs.forest.GrownParts.{head_view-leaf}
use Rattle.view_tree.proofs.forest.NumberLaws.{count-leaf, count-with_child, count_of_key-leaf_own}
use Rattle.view_tree.proofs.grafts.GainLaws.{gained_whole}
use Rattle.view_tree.proofs.grafts.Refusing.{first_none}
use Rattle.view_tree.proofs.grafts.Saplings.{Shaped, refusal_as_root, refusal_at_parent, shaped}
use Rattle.view_tree.proofs.grafts.Sown.{grown-inside}
use Rattle.view_tree.proofs.grafts.SownSprouts.{Entry, earlier, entry_new, live_earlier}
use Rattle.view_tree.proofs.values.KeptLaws.{grows, refusal_live}

length-preorder : (depth : ℕ) (list : Forest Seed) → length (preorder depth list) ≡ count_of list
length-preorder depth Nothing = refl
length-preorder depth (Branch seed kids siblings) =
    let all = length-append (preorder (suc depth) kids) (preorder depth siblings) in
    let below = length-preorder (suc depth) kids in
    let after = length-preorder depth siblings in
    omega arith

-- trees that may be added are not too many
or_none : (first later : Option PlainRefusal) → option_or first later ≡ None → (first ≡ None) × (later ≡ None)
or_none None later is = (refl, is)
or_none (Some refusal) later is = absurd (cc)

few_below : (class : Class) (occupied : Bool) (depth count element : ℕ) (list : Forest Seed) → refusal_below class occupied depth count element list ≡ None → count ≤ max_views → count + count_of list ≤ max_views
few_below class occupied depth count element Nothing taken few = omega arith
few_below class occupied depth count element (Branch seed kids siblings) taken few =
    let own = first_none element (growth_refusal class occupied depth count) _ taken in
    let rest = or_none (refusal_below seed.class false (suc depth) (suc count) (suc element) kids) _ own.1 in
    let room = grows class occupied depth count own.0 in
    let less = room.2 in
    let below = few_below seed.class false (suc depth) (suc count) (suc element) kids rest.0 (omega arith) in
    let after = few_below class true depth (suc count + count_of kids) (suc element + count_of kids) siblings rest.1 below in
    omega arith

-- how many views are around the outermost one
abbrev pub outer_of : Views → Option ℕ → ℕ
outer_of views None = 0
outer_of views (Some parent) = suc (length (ancestors parent views.tree))

-- the conditions on a sapling that is taken
pub record Taken (views : Views) (parent : Option ℕ) (seed : Seed) (kids : Forest Seed) : Type 0 where
  pub own : refusal_at (plain_of views) (option_map (number_of views) parent) ≡ None
  pub below : refusal_below seed.class false (suc (outer_of views parent)) (suc (count_of views.tree)) 2 kids ≡ None
  pub few : suc (count_of views.tree) ≤ max_views

pub taken : (views : Views) (parent : Option ℕ) (sprouts : List Sprout) (shape : Shaped sprouts) → IsTree views → IfSome parent (λ parent. IsLive views parent)
    → (parent ≡ None → views.tree ≡ Nothing) → graft_refusal (plain_of views) (option_map (number_of views) parent) (seeds_of sprouts) ≡ None
    → Taken views parent shape.seed shape.kids
taken views None sprouts shape is live empty none =
    let one : count_of views.tree + 1 ≡ suc (count_of views.tree) = omega arith in
    record {
      own = refl;
      below = ap (λ n. refusal_below shape.seed.class false 1 n 2 shape.kids) (sym one) ∙ sym (refusal_as_root views sprouts shape (count_of views.tree) refl) ∙ none;
      few = let zero : count_of views.tree ≡ 0 = ap count_of (empty refl) in omega arith;
    }
taken views (Some parent) sprouts shape is live empty none =
    let above = length (ancestors parent views.tree) + 1 in
    let has = has_kids parent views.tree in
    let all = first_none 1 (growth_refusal (class_of views parent) has above (count_of views.tree)) _
    (sym (refusal_at_parent views sprouts is shape parent above (count_of views.tree) (class_of views parent) has live refl refl refl refl) ∙ none) in
    let high : above ≡ suc (length (ancestors parent views.tree)) = omega arith in
    let deeper : above + 1 ≡ suc (suc (length (ancestors parent views.tree))) = omega arith in
    let one : count_of views.tree + 1 ≡ suc (count_of views.tree) = omega arith in
    let room = grows (class_of views parent) has above (count_of views.tree) all.0 in
    let less = room.2 in
    record {
      own = refusal_live views parent is live ∙ ap (λ depth. growth_refusal (class_of views parent) has depth (count_of views.tree)) (sym high) ∙ all.0;
      below = ap (λ depth. refusal_below shape.seed.class false depth (suc (count_of views.tree)) 2 shape.kids) (sym deeper)
          ∙ ap (λ n. refusal_below shape.seed.class false (above + 1) n 2 shape.kids) (sym one) ∙ all.1;
      few = omega arith;
    }

pub room_for : (views : Views) (parent : Option ℕ) (sprouts : List Sprout) → IsTree views → IfSome parent (λ parent. IsLive views parent) → (parent ≡ None → views.tree ≡ Nothing) → IsPreorder sprouts
    → graft_refusal (plain_of views) (option_map (number_of views) parent) (seeds_of sprouts) ≡ None → count_of views.tree + length sprouts ≤ max_views
room_for views parent sprouts is live empty pre free =
    let shape = shaped sprouts pre in
    let may = taken views parent sprouts shape is live empty free in
    let few = few_below shape.seed.class false (suc (outer_of views parent)) (suc (count_of views.tree)) 2 shape.kids may.below may.few in
    let size : length sprouts ≡ suc (length (preorder 2 shape.kids)) = ap length shape.list in
    let all = length-preorder 2 shape.kids in
    omega arith

-- the outermost view, once it was added
root_entry : (mid : Views) (key : ℕ) (view : PlainView) → mid.tree ≡ leaf key view → Entry mid key view.number view.class view.facts.rtl 0
root_entry mid key view is =
    let own = count_of_key-leaf_own key view in
    let same : head_view (part_from key mid.tree) ≡ unscrolled view = ap (λ tree. head_view (part_from key tree)) is ∙ head_view-leaf key view in
    let alone : ancestors key (leaf key view) ≡ [] = rw (eq-eqb key key refl) in
    record {
      live = rw is (omega arith);
      number_is = ap (λ (view : PlainView). view.number) same;
      class_is = ap (λ (view : PlainView). view.class) same;
      way_is = ap (λ (view : PlainView). view.facts.rtl) same;
      deep = ap (λ tree. length (ancestors key tree)) is ∙ ap length alone;
    }

pub outermost : (old mid : Views) (parent : Option ℕ) (key : ℕ) (view : PlainView) → IfSome parent (λ parent. IsLive old parent) → Attached old parent view key mid
    → Entry mid key view.number view.class view.facts.rtl (outer_of old parent)
outermost old mid None key view live came = root_entry mid key view came.tree
outermost old mid (Some parent) key view live came = entry_new old mid parent key view live came (length (ancestors parent old.tree)) refl

-- it has no child then
childless_root : (mid : Views) (key : ℕ) (view : PlainView) → mid.tree ≡ leaf key view → has_kids key mid.tree ≡ false
childless_root mid key view is = ap (has_kids key) is ∙ has_kids-leaf key view

childless : (old mid : Views) (parent : Option ℕ) (key : ℕ) (view : PlainView) → IfSome parent (λ parent. IsLive old parent) → Attached old parent view key mid
    → has_kids key mid.tree ≡ false
childless old mid None key view live came = childless_root mid key view came.tree
childless old mid (Some parent) key view live came = ap (has_kids key) came.tree ∙ has_kids-new key parent view old.tree live came.unused

-- the plain tree with the outermost view, and then with what is below it
grown_whole : (old : Views) (parent : Option ℕ) (view : PlainView) (kids : Forest PlainView) → IsTree old → IfSome parent (λ parent. IsLive old parent) → view.number ≡ old.next
    → grown old.next kids (grown_at (option_map (number_of old) parent) (single view) (plain_of old))
    ≡ grown_at (option_map (number_of old) parent) (Branch view kids Nothing) (plain_of old)
grown_whole old None view kids is live number = rw (eq-eqb view.number old.next number)
grown_whole old (Some parent) view kids is live number =
    grown-inside old.next (number_of old parent) view kids (plain_of old) number (live_earlier old parent is live) (earlier old is)

-- what is known once the outermost view was added: what goes below it may be added, and then the whole sapling was
pub record OutermostCame (old mid : Views) (parent : Option ℕ) (key : ℕ) (more sprouts : List Sprout) : Type 0 where
  pub there : IsLive mid key
  pub fits : FitsBelow mid key more
  pub few : suc (length more) ≤ max_views
  pub grafted : (new : Views) → GainedBelow mid key new
      → ((kids : Forest Seed) → preorder 2 kids ≡ more → plain_of new ≡ grown (number_of mid key) (directed (is_rtl_at (Some key) mid.tree) (numbered mid.next kids)) (plain_of mid))
      → new.next ≡ mid.next + length more → Grafted old parent (seeds_of sprouts) key new

module _ (old mid : Views) (parent : Option ℕ) (key : ℕ) (sprout : Sprout) (more sprouts : List Sprout) (is : IsTree old) (live : IfSome parent (λ parent. IsLive old parent))
    (empty : parent ≡ None → old.tree ≡ Nothing) (came : Attached old parent (running_below parent old.tree (view_of old.next (seed_of sprout))) key mid) (all : sprouts ≡ sprout ∷ more) (pre : IsPreorder sprouts)
    (free : graft_refusal (plain_of old) (option_map (number_of old) parent) (seeds_of sprouts) ≡ None) where
  shape : Shaped sprouts
  shape = shaped sprouts pre

  first : sprout ≡ sprout_of 1 shape.seed
  first = let list = sym all ∙ shape.list in cc

  rest : preorder 2 shape.kids ≡ more
  rest = let list = sym all ∙ shape.list in cc

  abbrev first_view : PlainView
  first_view = running_below parent old.tree (view_of old.next (seed_of sprout))

  own : Entry mid key old.next sprout.class first_view.facts.rtl (outer_of old parent)
  own = outermost old mid parent key first_view live came

  may : Taken old parent shape.seed shape.kids
  may = taken old parent sprouts shape is live empty free

  fits : FitsBelow mid key more
  fits =
      let count : count_of mid.tree ≡ suc (count_of old.tree) =
      ap count_of came.tree
      ∙ (let c = count-with_child parent (leaf key first_view) old.tree live empty is.keys in let l = count-leaf key first_view in omega arith) in
      let class : class_of mid key ≡ shape.seed.class = own.class_is ∙ ap (λ (s : Sprout). s.class) first in
      record {
        kids = shape.kids;
        preorder = rest;
        childless = childless old mid parent key first_view live came;
        taken = rw (class, own.deep, count) may.below;
      }

  length_is : length more ≡ count_of shape.kids
  length_is = ap length (sym rest) ∙ length-preorder 2 shape.kids

  few : suc (length more) ≤ max_views
  few = let n = few_below shape.seed.class false (suc (outer_of old parent)) (suc (count_of old.tree)) 2 shape.kids may.below may.few in let l = length_is in omega arith

  grafted : (new : Views) → GainedBelow mid key new
      → ((kids : Forest Seed) → preorder 2 kids ≡ more → plain_of new ≡ grown (number_of mid key) (directed (is_rtl_at (Some key) mid.tree) (numbered mid.next kids)) (plain_of mid))
      → new.next ≡ mid.next + length more → Grafted old parent (seeds_of sprouts) key new
  grafted new below plain next =
      let number : mid.next ≡ suc old.next = let n = came.next in omega arith in
      let above = is_rtl_at parent old.tree in
      let way = first_view.facts.rtl in
      let below_it = directed way (numbered (suc old.next) shape.kids) in
      record {
        added = Branch (record { key = key; view = unscrolled first_view }) below.added Nothing;
        first = refl;
        alone = refl;
        gained = gained_whole old mid new parent key first_view below.added empty came own.live below.gained;
        plain = plain shape.kids rest
            ∙ ap (λ n. grown n (directed (is_rtl_at (Some key) mid.tree) (numbered mid.next shape.kids)) (plain_of mid)) own.number_is
            ∙ ap (λ turn. grown old.next (directed turn (numbered mid.next shape.kids)) (plain_of mid)) own.way_is
            ∙ ap (λ n. grown old.next (directed way (numbered n shape.kids)) (plain_of mid)) number
            ∙ ap (grown old.next below_it) came.plain
            ∙ grown_whole old parent first_view below_it is live refl
            ∙ ap (λ (s : Sprout). grown_at (option_map (number_of old) parent) (directed above (Branch (view_of old.next (seed_of s)) (numbered (suc old.next) shape.kids) Nothing)) (plain_of old)) first
            ∙ ap (λ seeds. grown_at (option_map (number_of old) parent) (directed above (numbered old.next seeds)) (plain_of old)) (sym shape.tree);
        next =
            let n = number in
            let l = length_is in
            let c : count_of (seeds_of sprouts) ≡ count_of (Branch shape.seed shape.kids Nothing) = ap count_of shape.tree in
            next ∙ omega arith;
      }

  pub outermost_came : OutermostCame old mid parent key more sprouts
  outermost_came = record { there = own.live; fits = fits; few = few; grafted = grafted }
