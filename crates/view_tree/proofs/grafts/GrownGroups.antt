-- What is kept of relative layouts once a sapling was added, and which cycle is reported for it.
use Rattle.std.proofs.Common.{◌≡◌, ◌≢◌, ℕ, ◌<◌, ◌≤◌, ◌+◌, Bool, true, false, List, [], ◌∷◌, ◌++◌, Option, Some, None, refl, sym, ◌∙◌, ap, subst, arith, inl, inr}
use Rattle.std.proofs.lemmas.Bool.{cases_Bool, cases_eq, eq-eqb, ne_eqb}
use Rattle.std.proofs.lemmas.List.{append-nil}
use Rattle.std.specs.Option.{option_map, option_or}
use Rattle.std.specs.Prelude.{IfSome, if◌then◌else◌}
use Rattle.view_model.proofs.SproutLaws.{preorder-seeds_of}
use Rattle.view_model.specs.declared.class.Class.{Class}
use Rattle.view_model.specs.declared.refusal.Member.{Member}
use Rattle.view_model.specs.declared.relative.Link.{Link}
use Rattle.view_model.specs.declared.sprout.Sprout.{Sprout}
use Rattle.view_model.specs.Classes.{is_relative}
use Rattle.view_model.specs.Cycles.{cycle_below, first_cycle, graft_cycle, link_of, each, links_in, member_from, numbers_in}
use Rattle.view_model.specs.Directed.{directed, running}
use Rattle.view_model.specs.Direction.{dir}
use Rattle.view_model.specs.Forest.{Forest, Nothing, Branch, EveryBranch, EveryRow, joined}
use Rattle.view_model.specs.Growth.{grown_at}
use Rattle.view_model.specs.PlainTree.{PlainView, grown}
use Rattle.view_model.specs.Refusals.{PlainRefusal}
use Rattle.view_model.specs.Sprouts.{IsPreorder, Seed, numbered, preorder, seeds_of, sprout_of}
use Rattle.view_tree.proofs.forest.ForestLaws.{times_in}
use Rattle.view_tree.proofs.forest.PlainLaws.{or_none}
use Rattle.sibling_orders.specs.declared.groups.SiblingOrders.{SiblingOrders}
use Rattle.sibling_orders.specs.Cycles.{HasNoCycle, IsFree, cycle_of}
use Rattle.view_tree.specs.tree.Directions.{is_rtl_at}
use Rattle.view_tree.specs.tree.Grafting.{AreEntries, AreGrafted, IsOwnFor, IsParentEntry, cycle_in, entries_cycle, links_then, numbers_then, parent_cycle, sprout_link}
use Rattle.sibling_orders.specs.Ordering.{noted, IsGrouped, IsGroupedAt, IsKeptFor, PlainGroup}
use Rattle.view_tree.specs.Rows.{Row, children_of_first, head_view, part_from, views_of}
use Rattle.view_tree.specs.Views.{IsLive, IsTree, Views, class_of, group_number, held_of, number_of, plain_of, plain_rows}
use Rattle.view_tree.proofs.forest.KeyLaws.{number_live}
use Rattle.sibling_orders.proofs.CycleLists.{none_of}
use Rattle.view_tree.proofs.grafts.Saplings.{shaped}
use Rattle.view_tree.proofs.grafts.SownSprouts.{earlier, live_earlier}
use Rattle.view_tree.proofs.grafts.SproutGroups.{AllKept, all_kept, cycle-forest, grouped-forest, noted-append, noted-early, own_kept, own_past}
use Rattle.view_tree.proofs.orders.CycleLaws.{no_cycle}
use Rattle.view_tree.proofs.orders.FirstCycles.{no_first_cycle}
use Rattle.view_tree.proofs.orders.ListLaws.{each-grown, each-joined, edited_nowhere, every_by}
use Rattle.view_tree.proofs.orders.RowLaws.{every_within, links-plain, numbered_at, numbers-plain, times-plain}
use Rattle.view_tree.proofs.orders.TreeLaws.{Groups, grouped-grown, kept_along}

-- the outermost view of a sapling is its only tree
outermost : (sprout : Sprout) (more : List Sprout) (seed : Seed) (kids : List Sprout) → sprout ∷ more ≡ sprout_of 1 seed ∷ kids → sprout ≡ sprout_of 1 seed
outermost sprout more seed kids list = cc

links_one : (number : ℕ) (sprout : Sprout) (more : List Sprout) → IsPreorder (sprout ∷ more) → links_in (numbered number (seeds_of (sprout ∷ more))) ≡ sprout_link sprout ∷ []
links_one number sprout more pre =
    let shape = shaped (sprout ∷ more) pre in
    ap (λ seeds. links_in (numbered number seeds)) shape.tree
    ∙ ap (λ (sprout : Sprout). sprout_link sprout ∷ []) (sym (outermost sprout more shape.seed (preorder 2 shape.kids) shape.list))

numbers_one : (number : ℕ) (sprout : Sprout) (more : List Sprout) → IsPreorder (sprout ∷ more) → numbers_in (numbered number (seeds_of (sprout ∷ more))) ≡ number ∷ []
numbers_one number sprout more pre = ap (λ seeds. numbers_in (numbered number seeds)) (shaped (sprout ∷ more) pre).tree

-- how views run changes nothing of what is kept
each_directed : {X : Type 0} (f : PlainView → X) → ((way : Bool) (view : PlainView) → f (running way view) ≡ f view) → (above : Bool) (list : Forest PlainView)
    → each f (directed above list) ≡ each f list
each_directed f same above Nothing = refl
each_directed f same above (Branch view below after) = rw (same (dir above view.facts.direction) view, each_directed f same above after) refl

links_directed : (above : Bool) (list : Forest PlainView) → links_in (directed above list) ≡ links_in list
links_directed above list = each_directed link_of (λ way view. refl) above list

numbers_directed : (above : Bool) (list : Forest PlainView) → numbers_in (directed above list) ≡ numbers_in list
numbers_directed above list = each_directed (λ (view : PlainView). view.number) (λ way view. refl) above list

grouped_directed : (groups : Groups) (above : Bool) (list : Forest PlainView) → IsGrouped groups list → IsGrouped groups (directed above list)
grouped_directed groups above Nothing grouped = tt
grouped_directed groups above (Branch view below after) grouped =
    let way = dir above view.facts.direction in (
      λ relative. kept_along below (directed way below) (groups view.number) (links_directed way below) (numbers_directed way below) (grouped.0 relative),
      grouped_directed groups way below grouped.1,
      grouped_directed groups above after grouped.2,
    )

module _ (old : Views) (parent : ℕ) (sprout : Sprout) (more : List Sprout) (pre : IsPreorder (sprout ∷ more)) (row : Row) (kids siblings : Forest Row)
    (part : part_from parent old.tree ≡ Branch row kids siblings) where
  abbrev grown_kids : Forest PlainView
  grown_kids = joined (plain_rows (held_of old) kids) (numbered old.next (seeds_of (sprout ∷ more)))

  links_grown : links_in grown_kids ≡ links_then old parent (sprout_link sprout)
  links_grown =
      each-joined link_of (plain_rows (held_of old) kids) (numbered old.next (seeds_of (sprout ∷ more)))
      ∙ ap (λ links. links ++ links_in (numbered old.next (seeds_of (sprout ∷ more)))) (links-plain (held_of old) kids ∙ ap (λ part. links_in (views_of (children_of_first part))) (sym part))
      ∙ ap (λ links. links_in (views_of (children_of_first (part_from parent old.tree))) ++ links) (links_one old.next sprout more pre)

  numbers_grown : numbers_in grown_kids ≡ numbers_then old parent
  numbers_grown =
      each-joined (λ (view : PlainView). view.number) (plain_rows (held_of old) kids) (numbered old.next (seeds_of (sprout ∷ more)))
      ∙ ap (λ numbers. numbers ++ numbers_in (numbered old.next (seeds_of (sprout ∷ more)))) (numbers-plain (held_of old) kids ∙ ap (λ part. numbers_in (views_of (children_of_first part))) (sym part))
      ∙ ap (λ numbers. numbers_in (views_of (children_of_first (part_from parent old.tree))) ++ numbers) (numbers_one old.next sprout more pre)

  class_same : is_relative (class_of old parent) ≡ is_relative row.view.class
  class_same = ap (λ part. is_relative (head_view part).class) part

  cycle_same : (name : ℕ → Member) → cycle_below name row.view.class grown_kids
      ≡ (if is_relative (class_of old parent) then cycle_of name (links_then old parent (sprout_link sprout)) (numbers_then old parent) else None)
  cycle_same name =
      ap (λ relative. if relative then cycle_of name (links_in grown_kids) (numbers_in grown_kids) else None) (sym class_same)
      ∙ ap (λ links. if is_relative (class_of old parent) then cycle_of name links (numbers_in grown_kids) else None) links_grown
      ∙ ap (λ numbers. if is_relative (class_of old parent) then cycle_of name (links_then old parent (sprout_link sprout)) numbers else None) numbers_grown

-- what is kept then
module _ (at now : Groups) (old : Views) (sprout : Sprout) (more : List Sprout) (own rest entries : List (ℕ × SiblingOrders)) (is : entries ≡ own ++ rest)
    (are : AreEntries old.next (sprout ∷ more) rest) (pre : IsPreorder (sprout ∷ more)) (has : (k : ℕ) → now k ≡ noted entries k (at k)) where
  now_is : (k : ℕ) → now k ≡ noted rest k (noted own k (at k))
  now_is k = has k ∙ ap (λ entries. noted entries k (at k)) is ∙ noted-append own rest k (at k)

  grouped_added : IsGrouped now (numbered old.next (seeds_of (sprout ∷ more)))
  grouped_added =
      let all = all_kept now (λ k. noted own k (at k)) old.next (sprout ∷ more) rest are (λ k le. now_is k) in
      (grouped-forest now 1 old.next (seeds_of (sprout ∷ more)) [] tt
      (subst (AllKept now old.next) (sym (append-nil (preorder 1 (seeds_of (sprout ∷ more))) ∙ preorder-seeds_of (sprout ∷ more) pre)) all)).0

  module _ (above : Bool) (parent : ℕ) (tree : IsTree old) (live : IsLive old parent) (mine : IsParentEntry old (Some parent) sprout own) (grouped : IsGrouped at (plain_of old)) where
    early : (k : ℕ) → k < old.next → now k ≡ noted own k (at k)
    early k less = now_is k ∙ noted-early (sprout ∷ more) old.next k rest (noted own k (at k)) are less

    others : EveryRow (λ (view : PlainView). view.number ≢ number_of old parent → now view.number ≡ at view.number) (plain_of old)
    others = every_by (λ (view : PlainView) below. view.number < old.next) (λ (view : PlainView) below. view.number ≢ number_of old parent → now view.number ≡ at view.number) (plain_of old)
        (λ view below less other. early view.number less
        ∙ own_past (is_relative (class_of old parent)) (number_of old parent) view.number (links_then old parent (sprout_link sprout)) (numbers_then old parent) own (at view.number) mine other)
        (earlier old tree)

    kept_parent : EveryBranch (λ (view : PlainView) (kids : Forest PlainView). view.number ≡ number_of old parent → IsGroupedAt at view kids
        → IsGroupedAt now view (joined kids (directed above (numbered old.next (seeds_of (sprout ∷ more)))))) (plain_of old)
    kept_parent = every_within (λ (view : PlainView) (kids : Forest PlainView). view.number ≡ number_of old parent → IsGroupedAt at view kids
        → IsGroupedAt now view (joined kids (directed above (numbered old.next (seeds_of (sprout ∷ more)))))) (held_of old) old.tree
        (λ row kids siblings within same kept relative.
        let part = numbered_at old parent row kids siblings tree live within same in
        let class : is_relative (class_of old parent) ≡ true = class_same old parent sprout more pre row kids siblings part ∙ relative in
        let there : IsKeptFor (links_then old parent (sprout_link sprout)) (numbers_then old parent) (now row.view.number) =
        subst (IsKeptFor (links_then old parent (sprout_link sprout)) (numbers_then old parent))
        (sym (ap now same ∙ early (number_of old parent) (live_earlier old parent tree live)))
        (own_kept (is_relative (class_of old parent)) (number_of old parent) (links_then old parent (sprout_link sprout)) (numbers_then old parent) own (at (number_of old parent)) mine class) in
        let plain = plain_rows (held_of old) kids in
        let added = numbered old.next (seeds_of (sprout ∷ more)) in
        kept_along (joined plain added) (joined plain (directed above added)) (now row.view.number)
        (each-joined link_of plain (directed above added) ∙ ap (λ links. links_in plain ++ links) (links_directed above added) ∙ sym (each-joined link_of plain added))
        (each-joined (λ (view : PlainView). view.number) plain (directed above added) ∙ ap (λ numbers. numbers_in plain ++ numbers) (numbers_directed above added)
        ∙ sym (each-joined (λ (view : PlainView). view.number) plain added))
        (subst (λ numbers. IsKeptFor (links_in (grown_kids old parent sprout more pre row kids siblings part)) numbers (now row.view.number)) (sym (numbers_grown old parent sprout more pre row kids siblings part))
        (subst (λ links. IsKeptFor links (numbers_then old parent) (now row.view.number)) (sym (links_grown old parent sprout more pre row kids siblings part)) there)))

    grouped_parent : IsGrouped now (grown (number_of old parent) (directed above (numbered old.next (seeds_of (sprout ∷ more)))) (plain_of old))
    grouped_parent =
        let once : times_in (number_of old parent) (plain_of old) ≤ 1 = (let n = tree.numbers (number_of old parent) in rw (times-plain (held_of old) (number_of old parent) old.tree) n) in
        grouped-grown at now (number_of old parent) (directed above (numbered old.next (seeds_of (sprout ∷ more)))) (plain_of old) once others kept_parent (grouped_directed now above (numbered old.next (seeds_of (sprout ∷ more))) grouped_added) grouped

pub grouped-grafted : (at now : Groups) (old new : Views) (parent : Option ℕ) (sprouts : List Sprout) (entries : List (ℕ × SiblingOrders)) → IsTree old → IfSome parent (λ parent. IsLive old parent)
    → IsPreorder sprouts → AreGrafted old parent sprouts entries → ((k : ℕ) → now k ≡ noted entries k (at k))
    → plain_of new ≡ grown_at (option_map (number_of old) parent) (directed (is_rtl_at parent old.tree) (numbered old.next (seeds_of sprouts))) (plain_of old) → IsGrouped at (plain_of old) → IsGrouped now (plain_of new)
grouped-grafted at now old new parent [] entries tree live pre made has plain grouped = absurd made
grouped-grafted at now old new None (sprout ∷ more) entries tree live pre (own, mine, all) has plain grouped =
    subst (IsGrouped now) (sym plain)
    (grouped_directed now false (numbered old.next (seeds_of (sprout ∷ more))) (grouped_added at now old sprout more own all.added entries all.is all.made pre has))
grouped-grafted at now old new (Some parent) (sprout ∷ more) entries tree live pre (own, mine, all) has plain grouped =
    subst (IsGrouped now) (sym plain) (grouped_parent at now old sprout more own all.added entries all.is all.made pre has (is_rtl_at (Some parent) old.tree) parent tree live mine grouped)

-- what is kept under other numbers of views that were there is the same
pub own_apart : (relative : Bool) (number k : ℕ) (links : List Link) (numbers : List ℕ) (entries : List (ℕ × SiblingOrders)) (before : Option PlainGroup) → IsOwnFor relative number links numbers entries
    → (if relative then Some number else None) ≢ Some k → noted entries k before ≡ before
own_apart false number k links numbers entries before mine apart = rw mine refl
own_apart true number k links numbers entries before mine apart = own_past true number k links numbers entries before mine (λ same. apart (ap (λ n. Some n) (sym same)))

pub kept-grafted : (at now : Groups) (old : Views) (parent : Option ℕ) (sprouts : List Sprout) (entries : List (ℕ × SiblingOrders)) → AreGrafted old parent sprouts entries
    → ((k : ℕ) → now k ≡ noted entries k (at k)) → (k : ℕ) → group_number old parent ≢ Some k → k < old.next → now k ≡ at k
kept-grafted at now old parent [] entries made has k apart less = absurd made
kept-grafted at now old None (sprout ∷ more) entries (own, mine, all) has k apart less =
    has k ∙ ap (λ entries. noted entries k (at k)) all.is ∙ noted-append own all.added k (at k)
    ∙ noted-early (sprout ∷ more) old.next k all.added (noted own k (at k)) all.made less ∙ ap (λ entries. noted entries k (at k)) mine
kept-grafted at now old (Some parent) (sprout ∷ more) entries (own, mine, all) has k apart less =
    has k ∙ ap (λ entries. noted entries k (at k)) all.is ∙ noted-append own all.added k (at k)
    ∙ noted-early (sprout ∷ more) old.next k all.added (noted own k (at k)) all.made less
    ∙ own_apart (is_relative (class_of old parent)) (number_of old parent) k (links_then old parent (sprout_link sprout)) (numbers_then old parent) own (at k) mine apart

-- if a sapling is added, the first cycle is that of its parent, or else one of its own
none_below : (name : ℕ → Member) (class : Class) (links : List Link) (numbers : List ℕ) → (is_relative class ≡ true → IsFree links) → (if is_relative class then cycle_of name links numbers else None) ≡ None
none_below name class links numbers free = elim (cases_Bool (is_relative class)) [
  | inl relative ↦ rw relative (none_of name links numbers (free relative))
  | inr other ↦ rw other refl
]

-- a list of trees without cycles reports none, except for those that are added after it
first_joined : (name : ℕ → Member) (list new : Forest PlainView) → HasNoCycle list → first_cycle name (joined list new) ≡ first_cycle name new
first_joined name Nothing new free = refl
first_joined name (Branch view below after) new free =
    rw (none_below name view.class (links_in below) (numbers_in below) free.0, no_first_cycle name below free.1) (first_joined name after new free.2)

first_grown : (name : ℕ → Member) (number : ℕ) (new : Forest PlainView) (reason : Option PlainRefusal) (tree : Forest PlainView) → times_in number tree ≤ 1 → 0 < times_in number tree → HasNoCycle tree
    → EveryBranch (λ (view : PlainView) (kids : Forest PlainView). view.number ≡ number → cycle_below name view.class (joined kids new) ≡ reason) tree
    → first_cycle name (grown number new tree) ≡ option_or reason (first_cycle name new)
first_grown name number new reason Nothing once there free own = absurd (omega arith)
first_grown name number new reason (Branch view below after) once there free own = elim (cases_eq view.number number) [
  | inl is ↦
      rw (eq-eqb view.number number is, own.0 is, first_joined name below new free.1, no_first_cycle name after free.2) (ap (option_or reason) (or_none (first_cycle name new)))
  | inr isnt ↦
      let apart = ne_eqb view.number number isnt in
      let once : 0 + (times_in number below + times_in number after) ≤ 1 = rw apart at once in
      let there : 0 < 0 + (times_in number below + times_in number after) = rw apart at there in
      let mine = none_below name view.class (links_in (grown number new below)) (numbers_in (grown number new below))
      (λ relative. subst IsFree (sym (each-grown link_of number new below)) (free.0 relative)) in
      elim (cases_eq (times_in number below) 0) [
        | inl none ↦
            let same : grown number new below ≡ below = edited_nowhere number _ below none in
            rw (apart, mine, same, no_first_cycle name below free.1) (first_grown name number new reason after (omega arith) (omega arith) free.2 own.2)
        | inr some ↦
            let same : grown number new after ≡ after = edited_nowhere number _ after (omega arith) in
            rw (apart, mine, same, no_first_cycle name after free.2) (or_none (first_cycle name (grown number new below)) ∙ first_grown name number new reason below (omega arith) (omega arith) free.1 own.1)
      ]
]

-- what is reported for the views of a sapling
first_added : (name : ℕ → Member) (next : ℕ) (sprouts : List Sprout) → IsPreorder sprouts → first_cycle name (numbered next (seeds_of sprouts)) ≡ cycle_in name next sprouts
first_added name next sprouts pre =
    sym (or_none (first_cycle name (numbered next (seeds_of sprouts)))) ∙ sym (cycle-forest name 1 next (seeds_of sprouts) [] tt)
    ∙ ap (cycle_in name next) (append-nil (preorder 1 (seeds_of sprouts)) ∙ preorder-seeds_of sprouts pre)

pub cycle-grafted : (at : Groups) (old : Views) (parent : Option ℕ) (sprouts : List Sprout) → IsTree old → IfSome parent (λ parent. IsLive old parent) → IsPreorder sprouts → IsGrouped at (plain_of old)
    → graft_cycle (plain_of old) (option_map (number_of old) parent) old.next (seeds_of sprouts) ≡ entries_cycle old parent sprouts
cycle-grafted at old parent [] tree live pre grouped = absurd (cc)
cycle-grafted at old None (sprout ∷ more) tree live pre grouped = first_added (member_from old.next) old.next (sprout ∷ more) pre
cycle-grafted at old (Some parent) (sprout ∷ more) tree live pre grouped =
    let name = member_from old.next in
    let number = number_of old parent in
    let new = numbered old.next (seeds_of (sprout ∷ more)) in
    let size = times-plain (held_of old) number old.tree in
    let there = number_live parent old.tree live in
    let once = tree.numbers number in
    first_grown name number new (parent_cycle old (Some parent) sprout) (plain_of old) (omega arith) (omega arith) (no_cycle at (plain_of old) grouped)
    (every_within (λ (view : PlainView) (kids : Forest PlainView). view.number ≡ number → cycle_below name view.class (joined kids new) ≡ parent_cycle old (Some parent) sprout) (held_of old) old.tree
    (λ row kids siblings within same.
    cycle_same old parent sprout more pre row kids siblings (numbered_at old parent row kids siblings tree live within same) name))
    ∙ ap (option_or (parent_cycle old (Some parent) sprout)) (first_added name old.next (sprout ∷ more) pre)
