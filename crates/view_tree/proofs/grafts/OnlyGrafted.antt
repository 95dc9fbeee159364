-- Nothing is kept under a number that no relative layout has, once a sapling was added.
use Rattle.std.proofs.Common.{◌≡◌, ◌≢◌, ℕ, suc, ◌+◌, ◌<◌, ◌≤◌, Bool, true, false, List, [], ◌∷◌, ◌++◌, append_assoc, Option, Some, None, refl, sym, ◌∙◌, ap, subst, arith, inl, inr}
use Rattle.std.proofs.lemmas.Bool.{cases_eq, eq-eqb, ne_eqb}
use Rattle.std.proofs.lemmas.List.{append-nil}
use Rattle.std.specs.Option.{option_map}
use Rattle.std.specs.Prelude.{IfSome, if◌then◌else◌}
use Rattle.view_model.proofs.SproutLaws.{preorder-seeds_of}
use Rattle.view_model.specs.declared.sprout.Sprout.{Sprout}
use Rattle.view_model.specs.Classes.{is_relative}
use Rattle.view_model.specs.Directed.{directed}
use Rattle.view_model.specs.Direction.{dir}
use Rattle.view_model.specs.Forest.{Forest, Nothing, Branch, count_of, joined, sum_of}
use Rattle.view_model.specs.Growth.{grown_at}
use Rattle.view_model.specs.PlainTree.{PlainView, grown}
use Rattle.view_model.specs.Sprouts.{IsPreorder, Seed, numbered, preorder, seeds_of, view_of}
use Rattle.view_tree.proofs.forest.ForestLaws.{times_in}
use Rattle.sibling_orders.specs.declared.groups.SiblingOrders.{SiblingOrders}
use Rattle.view_tree.specs.tree.Directions.{is_rtl_at}
use Rattle.view_tree.specs.tree.Grafting.{AreEntries, AreGrafted, links_following, links_then, numbers_following, numbers_then, sprout_link}
use Rattle.sibling_orders.specs.Ordering.{noted, PlainGroup}
use Rattle.view_tree.specs.tree.Groups.{HasNoOther, is_layout}
use Rattle.view_tree.specs.Rows.{Row, count_where, head_view}
use Rattle.view_tree.specs.Views.{Held, IsLive, Views, class_of, held_of, number_of, plain_of, plain_rows}
use Rattle.view_tree.proofs.forest.KeyLaws.{located, number_live}
use Rattle.view_tree.proofs.grafts.GrownGroups.{own_apart}
use Rattle.view_tree.proofs.grafts.SproutGroups.{noted-append}
use Rattle.view_tree.proofs.orders.IdPlaces.{count_there}
use Rattle.view_tree.proofs.orders.OnlyLayouts.{counted, layout_is}
use Rattle.view_tree.proofs.orders.RowLaws.{times-plain}
use Rattle.view_tree.proofs.orders.TreeLaws.{Groups}

-- no offset matters
layouts-plain : (number : ℕ) (held : ℕ → Held) (tree : Forest Row) → sum_of (counted number) (plain_rows held tree) ≡ count_where (is_layout number) tree
layouts-plain number held Nothing = refl
layouts-plain number held (Branch row kids siblings) = rw (layouts-plain number held kids, layouts-plain number held siblings)

-- what was there stays if views are added, and they are there then
plain_sum-joined : (f : PlainView → ℕ) (list more : Forest PlainView) → sum_of f (joined list more) ≡ sum_of f list + sum_of f more
plain_sum-joined f Nothing more = omega arith
plain_sum-joined f (Branch view below after) more = let rest = plain_sum-joined f after more in omega arith

sum_stays : (f : PlainView → ℕ) (number : ℕ) (new tree : Forest PlainView) → sum_of f tree ≤ sum_of f (grown number new tree)
sum_stays f number new Nothing = omega arith
sum_stays f number new (Branch view below after) = elim (cases_eq view.number number) [
  | inl is ↦ rw (eq-eqb view.number number is) (let all = plain_sum-joined f below new in omega arith)
  | inr ne ↦ rw (ne_eqb view.number number ne) (
      let lower = sum_stays f number new below in
      let later = sum_stays f number new after in
      omega arith
      )
]

sum_comes : (f : PlainView → ℕ) (number : ℕ) (new tree : Forest PlainView) → 0 < times_in number tree → sum_of f new ≤ sum_of f (grown number new tree)
sum_comes f number new Nothing there = absurd (omega arith)
sum_comes f number new (Branch view below after) there = elim (cases_eq view.number number) [
  | inl is ↦ rw (eq-eqb view.number number is) (let all = plain_sum-joined f below new in omega arith)
  | inr ne ↦
      let there : 0 < 0 + (times_in number below + times_in number after) = rw (ne_eqb view.number number ne) at there in
      rw (ne_eqb view.number number ne) (elim (cases_eq (times_in number below) 0) [
        | inl none ↦ let later = sum_comes f number new after (omega arith) in omega arith
        | inr some ↦ let lower = sum_comes f number new below (omega arith) in omega arith
      ])
]

-- none of these views in preorder, the first of which has this number, is the relative layout of another
abbrev NoneIs : ℕ → ℕ → List Sprout → Type 0
NoneIs k number [] = Unit {0}
NoneIs k number (sprout ∷ more) = (is_relative sprout.class ≡ true → k ≢ number) × NoneIs k (suc number) more

apart_if : (relative : Bool) (k number : ℕ) → (relative ≡ true → k ≢ number) → (if relative then Some number else None) ≢ Some k
apart_if true k number other same = other refl (let e : Some number ≡ Some k = same in sym (some_is e))
  where
    some_is : {x y : ℕ} → Some x ≡ Some y → x ≡ y
    some_is e = cc
apart_if false k number other same = absurd (let e : None ≡ Some k = same in cc)

noted_unused : (k number : ℕ) (sprouts : List Sprout) (entries : List (ℕ × SiblingOrders)) (before : Option PlainGroup) → AreEntries number sprouts entries → NoneIs k number sprouts → noted entries k before ≡ before
noted_unused k number [] entries before are none = rw are refl
noted_unused k number (sprout ∷ more) entries before (own, rest, is, mine, later) none =
    ap (λ entries. noted entries k before) is
    ∙ noted-append own rest k before
    ∙ noted_unused k (suc number) more rest (noted own k before) later none.1
    ∙ own_apart (is_relative sprout.class) number k (links_following sprout.depth (suc number) more) (numbers_following sprout.depth (suc number) more) own before mine
    (apart_if (is_relative sprout.class) k number none.0)

none-forest : (k depth number : ℕ) (list : Forest Seed) (rest : List Sprout) → sum_of (counted k) (numbered number list) ≡ 0 → NoneIs k (number + count_of list) rest → NoneIs k number (preorder depth list ++ rest)
none-forest k depth number Nothing rest none more = let same : number + 0 ≡ number = omega arith in subst (λ n. NoneIs k n rest) same more
none-forest k depth number (Branch seed below after) rest none more =
    let count : number + count_of (Branch seed below after) ≡ suc number + count_of below + count_of after = omega arith in
    let later : NoneIs k (suc number + count_of below) (preorder depth after ++ rest) =
    none-forest k depth (suc number + count_of below) after rest (omega arith) (subst (λ n. NoneIs k n rest) count more) in
    let lower : NoneIs k (suc number) (preorder (suc depth) below ++ (preorder depth after ++ rest)) =
    none-forest k (suc depth) (suc number) below (preorder depth after ++ rest) (omega arith) later in
    (layout_is k (view_of number seed) (omega arith), subst (NoneIs k (suc number)) (sym (append_assoc (preorder (suc depth) below) (preorder depth after) rest)) lower)

none_sown : (k number : ℕ) (sprouts : List Sprout) → IsPreorder sprouts → sum_of (counted k) (numbered number (seeds_of sprouts)) ≡ 0 → NoneIs k number sprouts
none_sown k number sprouts pre none =
    subst (NoneIs k number) (append-nil (preorder 1 (seeds_of sprouts)) ∙ preorder-seeds_of sprouts pre) (none-forest k 1 number (seeds_of sprouts) [] none tt)

-- a live relative layout is counted
layout_live : (views : Views) (parent k : ℕ) → IsLive views parent → count_where (is_layout k) views.tree ≡ 0 → is_relative (class_of views parent) ≡ true → k ≢ number_of views parent
layout_live views parent k live none relative same =
    let f = located parent views.tree live in
    let class : is_relative f.row.view.class ≡ true = ap (λ part. is_relative (head_view part).class) (sym f.is) ∙ relative in
    let number : k ≡ f.row.view.number = same ∙ ap (λ part. (head_view part).number) f.is in
    let one : is_layout k f.row.view ≡ true = rw (eq-eqb f.row.view.number k (sym number)) class in
    absurd (let there = count_there (is_layout k) f.row f.kids f.siblings f.within one in omega arith)

counted_directed : (k : ℕ) (above : Bool) (list : Forest PlainView) → sum_of (counted k) (directed above list) ≡ sum_of (counted k) list
counted_directed k above Nothing = refl
counted_directed k above (Branch view below after) = rw (counted_directed k (dir above view.facts.direction) below, counted_directed k above after) refl

pub only-grafted : (at now : Groups) (old new : Views) (parent : Option ℕ) (sprouts : List Sprout) (entries : List (ℕ × SiblingOrders)) → IfSome parent (λ parent. IsLive old parent)
    → (parent ≡ None → old.tree ≡ Nothing) → IsPreorder sprouts → AreGrafted old parent sprouts entries → ((k : ℕ) → now k ≡ noted entries k (at k))
    → plain_of new ≡ grown_at (option_map (number_of old) parent) (directed (is_rtl_at parent old.tree) (numbered old.next (seeds_of sprouts))) (plain_of old) → HasNoOther at old.tree → HasNoOther now new.tree
only-grafted at now old new parent [] entries live root pre made has plain only = absurd made
only-grafted at now old new None (sprout ∷ more) entries live root pre (own, mine, all) has plain only = λ k none.
    let seeds = seeds_of (sprout ∷ more) in
    let empty : count_where (is_layout k) old.tree ≡ 0 = ap (count_where (is_layout k)) (root refl) in
    let sown : sum_of (counted k) (numbered old.next seeds) ≡ 0 = sym (counted_directed k false (numbered old.next seeds)) ∙ ap (sum_of (counted k)) (sym plain) ∙ layouts-plain k (held_of new) new.tree ∙ none in
    has k ∙ ap (λ entries. noted entries k (at k)) all.is ∙ noted-append own all.added k (at k)
    ∙ noted_unused k old.next (sprout ∷ more) all.added (noted own k (at k)) all.made (none_sown k old.next (sprout ∷ more) pre sown)
    ∙ ap (λ entries. noted entries k (at k)) mine
    ∙ only k empty
only-grafted at now old new (Some parent) (sprout ∷ more) entries live root pre (own, mine, all) has plain only = λ k none.
    let seeds = numbered old.next (seeds_of (sprout ∷ more)) in
    let new_trees = directed (is_rtl_at (Some parent) old.tree) seeds in
    let was = layouts-plain k (held_of old) old.tree in
    let both : sum_of (counted k) (plain_of new) ≡ sum_of (counted k) (grown (number_of old parent) new_trees (plain_of old)) = ap (sum_of (counted k)) plain in
    let is = layouts-plain k (held_of new) new.tree in
    let stays = sum_stays (counted k) (number_of old parent) new_trees (plain_of old) in
    let there = number_live parent old.tree live in
    let same = times-plain (held_of old) (number_of old parent) old.tree in
    let comes = sum_comes (counted k) (number_of old parent) new_trees (plain_of old) (omega arith) in
    let before : count_where (is_layout k) old.tree ≡ 0 = omega arith in
    let came : sum_of (counted k) new_trees ≡ 0 = omega arith in
    let sown : sum_of (counted k) seeds ≡ 0 = sym (counted_directed k (is_rtl_at (Some parent) old.tree) seeds) ∙ came in
    has k ∙ ap (λ entries. noted entries k (at k)) all.is ∙ noted-append own all.added k (at k)
    ∙ noted_unused k old.next (sprout ∷ more) all.added (noted own k (at k)) all.made (none_sown k old.next (sprout ∷ more) pre sown)
    ∙ own_apart (is_relative (class_of old parent)) (number_of old parent) k (links_then old parent (sprout_link sprout)) (numbers_then old parent) own (at k) mine
    (apart_if (is_relative (class_of old parent)) k (number_of old parent) (layout_live old parent k live before))
    ∙ only k before
