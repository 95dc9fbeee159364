-- What is kept of relative layouts when a sapling is added, as it is gathered.
use Rattle.std.proofs.Common.{◌≡◌, ℕ, zero, suc, ◌<◌, ◌≤◌, ◌+◌, Bool, true, false, List, [], ◌∷◌, ◌++◌, append_assoc, length, length-append, Option, Some, None, refl, sym, ◌∙◌, ap, subst, arith, inl, inr}
use Rattle.std.proofs.lemmas.Bool.{cases_Bool, cases_lt}
use Rattle.std.proofs.lemmas.List.{append-nil, get_or_append_left, get_or_push}
use Rattle.std.specs.declared.alloc.Global.{Global}
use Rattle.std.specs.Prelude.{Vec, Err, Ok, Result, if◌then◌else◌, nat_lt, slice_index, ◌==◌}
use Rattle.view_model.specs.Numbers.{max_views}
use Rattle.view_model.specs.declared.refusal.Member.{Member}
use Rattle.view_model.specs.declared.relative.Link.{Link}
use Rattle.view_model.specs.declared.sprout.Sprout.{Sprout}
use Rattle.view_model.specs.Classes.{is_relative}
use Rattle.view_model.specs.Cycles.{each, member_from, numbers_in}
use Rattle.view_model.specs.Forest.{Forest, count_of}
use Rattle.view_model.specs.PlainTree.{PlainView}
use Rattle.view_model.specs.Refusals.{PlainRefusal, plain_refusal}
use Rattle.view_model.specs.declared.fault.Fault.{Fault}
use Rattle.view_model.specs.declared.fault.Fault.TheVariants as fault
use Rattle.sibling_orders.specs.declared.groups.SiblingOrders.{SiblingOrders}
use Rattle.sibling_orders.specs.Latest.{AreRising}
use Rattle.view_tree.specs.Faults.{IsRefusedOrCyclic}
use Rattle.view_tree.specs.tree.Grafting.{AreEntries, HasAdded, IsFollowing, IsOwnFor, IsParentEntry, following, links_following, links_then, numbers_following, numbers_then, parent_cycle, sprout_link}
use Rattle.sibling_orders.specs.Cycles.{IsGroupOrCycle, IsMadeUnless, cycle_of}
use Rattle.view_tree.specs.Rows.{Row, children_of_first, count_of_key, head_view, later_siblings, part_from, views_of}
use Rattle.view_tree.specs.Views.{IsLive, IsTree, Views, class_of, number_of}
use Rattle.view_tree.proofs.forest.KeyLaws.{located}
use Rattle.view_tree.proofs.grafts.SownSprouts.{live_earlier}
use Rattle.view_tree.proofs.orders.CycleLaws.{views-count}
use Rattle.sibling_orders.proofs.LatestLaws.{rising_on, rising_with}
use Rattle.view_tree.proofs.orders.RowLaws.{child_there, count_within, few_numbers, numbers_earlier, within_children}

-- one more child is gathered
pub each_step : {X : Type 0} (f : PlainView → X) (own : X) (tree : Forest Row) (key : ℕ) (xs : List X) → 0 < count_of_key key tree → own ≡ f (head_view (part_from key tree))
    → (xs ++ own ∷ []) ++ each f (views_of (later_siblings (part_from key tree))) ≡ xs ++ each f (views_of (part_from key tree))
each_step f own tree key xs live is =
    let found = located key tree live in
    append_assoc xs (own ∷ []) (each f (views_of (later_siblings (part_from key tree))))
    ∙ ap (λ own. xs ++ own ∷ each f (views_of (later_siblings (part_from key tree)))) is
    ∙ rw found.is refl

-- how many children there are, and what their numbers are
module _ {X : Type 0} (f : ℕ → Sprout → X) where
  pub following-few : (depth number : ℕ) (sprouts : List Sprout) → length (following f depth number sprouts) ≤ length sprouts
  following-few depth number [] = omega arith
  following-few depth number (sprout ∷ more) =
      let rest = following-few depth (suc number) more in
      elim (cases_Bool (nat_lt depth sprout.depth)) [
        | inr past ↦ rw past (omega arith)
        | inl inner ↦ elim (cases_Bool (sprout.depth == suc depth)) [
          | inl is ↦ rw (inner, is) (omega arith)
          | inr isnt ↦ rw (inner, isnt) (omega arith)
        ]
      ]

pub following-alike : (depth number : ℕ) (sprouts : List Sprout) → length (numbers_following depth number sprouts) ≡ length (links_following depth number sprouts)
following-alike depth number [] = refl
following-alike depth number (sprout ∷ more) =
    let rest = following-alike depth (suc number) more in
    elim (cases_Bool (nat_lt depth sprout.depth)) [
      | inr past ↦ rw past refl
      | inl inner ↦ elim (cases_Bool (sprout.depth == suc depth)) [
        | inl is ↦ rw (inner, is) (ap suc rest)
        | inr isnt ↦ rw (inner, isnt) rest
      ]
    ]

abbrev AllBelow : ℕ → List ℕ → Type 0
AllBelow most numbers = (p : ℕ) → p < length numbers → slice_index numbers p < most

all_on : (most first : ℕ) (numbers : List ℕ) → first < most → AllBelow most numbers → AllBelow most (first ∷ numbers)
all_on most first numbers less all zero small = less
all_on most first numbers less all (suc p) small = all p (omega arith)

low_on : (first : ℕ) (numbers : List ℕ) → ((p : ℕ) → p < length numbers → first < slice_index numbers p) → (p : ℕ) → p < length (first ∷ numbers) → first ≤ slice_index (first ∷ numbers) p
low_on first numbers later zero small = omega arith
low_on first numbers later (suc p) small = let up = later p (omega arith) in omega arith

pub following-near : (most depth number : ℕ) (sprouts : List Sprout) → number + length sprouts ≤ most → (p : ℕ) → p < length (numbers_following depth number sprouts)
    → slice_index (numbers_following depth number sprouts) p < most
following-near most depth number sprouts le = near sprouts number le
  where
    near : (sprouts : List Sprout) (number : ℕ) → number + length sprouts ≤ most → AllBelow most (numbers_following depth number sprouts)
    near [] number le = λ p small. absurd (omega arith)
    near (sprout ∷ more) number le =
        let rest = near more (suc number) (omega arith) in
        elim (cases_Bool (nat_lt depth sprout.depth)) [
          | inr past ↦ rw past (λ p small. absurd (omega arith))
          | inl inner ↦ elim (cases_Bool (sprout.depth == suc depth)) [
            | inl is ↦ rw (inner, is) (all_on most number (numbers_following depth (suc number) more) (omega arith) rest)
            | inr isnt ↦ rw (inner, isnt) rest
          ]
        ]

-- their numbers rise
pub following-rising : (depth number : ℕ) (sprouts : List Sprout) → AreRising (numbers_following depth number sprouts)
following-rising depth number sprouts = (rises sprouts number).1
  where
    rises : (sprouts : List Sprout) (number : ℕ)
        → ((p : ℕ) → p < length (numbers_following depth number sprouts) → number ≤ slice_index (numbers_following depth number sprouts) p) × AreRising (numbers_following depth number sprouts)
    rises [] number = (λ p small. absurd (omega arith), λ p q lower small. absurd (omega arith))
    rises (sprout ∷ more) number =
        let rest = rises more (suc number) in
        let later : (p : ℕ) → p < length (numbers_following depth (suc number) more) → number < slice_index (numbers_following depth (suc number) more) p =
        λ p small. let up = rest.0 p small in omega arith in
        elim (cases_Bool (nat_lt depth sprout.depth)) [
          | inr past ↦ rw past (λ p small. absurd (omega arith), λ p q lower small. absurd (omega arith))
          | inl inner ↦ elim (cases_Bool (sprout.depth == suc depth)) [
            | inl is ↦ rw (inner, is) (low_on number (numbers_following depth (suc number) more) later, rising_on number (numbers_following depth (suc number) more) later rest.1)
            | inr isnt ↦ rw (inner, isnt) (λ p small. let up = later p small in omega arith, rest.1)
          ]
        ]

-- the children of a parent with one more
pub rising_then : (views : Views) (parent : ℕ) → IsTree views → IsLive views parent → AreRising (numbers_in (views_of (children_of_first (part_from parent views.tree))))
    → AreRising (numbers_then views parent)
rising_then views parent is live rising =
    rising_with (numbers_in (views_of (children_of_first (part_from parent views.tree)))) views.next
    (numbers_earlier views.next views.tree is.earlier (children_of_first (part_from parent views.tree)) (within_children views parent live)) rising

pub few_then : (views : Views) (parent : ℕ) → IsTree views → IsLive views parent → length (numbers_in (views_of (children_of_first (part_from parent views.tree)))) ≤ count_of views.tree
few_then views parent is live =
    let f = located parent views.tree live in
    let few = few_numbers (views_of (children_of_first (part_from parent views.tree))) in
    let count : count_of (views_of (children_of_first (part_from parent views.tree))) ≡ count_of f.kids = views-count (children_of_first (part_from parent views.tree)) ∙ ap (λ part. count_of (children_of_first part)) f.is in
    let within = count_within f.row f.kids f.siblings f.within in
    omega arith

pub near_then : (views : Views) (parent : ℕ) → IsTree views → IsLive views parent → (p : ℕ) → p < length (numbers_then views parent) → slice_index (numbers_then views parent) p < views.next + max_views
near_then views parent is live p small =
    let numbers = numbers_in (views_of (children_of_first (part_from parent views.tree))) in
    let size : length (numbers_then views parent) ≡ length numbers + 1 = length-append numbers (views.next ∷ []) in
    elim (cases_lt p (length numbers)) [
      | inl less ↦
          let child = child_there views (children_of_first (part_from parent views.tree)) p is (within_children views parent live) less in
          let early = live_earlier views child.key is child.live in
          let same : slice_index (numbers_then views parent) p ≡ number_of views child.key = get_or_append_left numbers (views.next ∷ []) 0 p less ∙ sym child.number in
          omega arith
      | inr more ↦
          let own : p ≡ length numbers = omega arith in
          let same : slice_index (numbers_then views parent) p ≡ views.next = get_or_push numbers views.next 0 p (sym own) in
          omega arith
    ]

-- a group that is made is added
pub added : (relative : Bool) (name : ℕ → Member) (number : ℕ) (links : List Link) (numbers : List ℕ) (group : SiblingOrders) (old new : List (ℕ × SiblingOrders)) (result : Result (Unit {0}) Fault)
    → relative ≡ true → IsGroupOrCycle name links numbers (Ok group) → IsMadeUnless None (λ _. new ≡ old ++ (number, group) ∷ []) result
    → IsMadeUnless (if relative then cycle_of name links numbers else None) (λ _. HasAdded old new (IsOwnFor relative number links numbers)) result
added false name number links numbers group old new result is made push = absurd (cc)
added true name number links numbers group old new (Ok done) is made push =
    (made.0, record { added = (number, group) ∷ []; is = push.1; made = record { group = group; only = refl; right = made.1 } })
added true name number links numbers group old new (Err (fault.Refused refusal)) is made push = absurd (let no : None ≡ Some (plain_refusal refusal) = push in cc)
added true name number links numbers group old new (Err fault.NoMemory) is made push = tt

-- the same as all that there is, of a parent
pub parent_added : (views : Views) (parent : ℕ) (sprout : Sprout) (group : SiblingOrders) (result : Result (Vec (ℕ × SiblingOrders) Global) Fault) → is_relative (class_of views parent) ≡ true
    → IsGroupOrCycle (member_from views.next) (links_then views parent (sprout_link sprout)) (numbers_then views parent) (Ok group)
    → IsMadeUnless None (λ entries. entries.items ≡ (number_of views parent, group) ∷ []) result
    → IsMadeUnless (parent_cycle views (Some parent) sprout) (λ entries. IsParentEntry views (Some parent) sprout entries.items) result
parent_added views parent sprout group (Ok entries) is made push = rw is (made.0, record { group = group; only = push.1; right = made.1 })
parent_added views parent sprout group (Err (fault.Refused refusal)) is made push = absurd (let no : None ≡ Some (plain_refusal refusal) = push in cc)
parent_added views parent sprout group (Err fault.NoMemory) is made push = tt

-- one more view of a sapling is handled
pub entries_on : (number start : ℕ) (first : List (ℕ × SiblingOrders)) (sprout : Sprout) (more all : List Sprout) (old new : List (ℕ × SiblingOrders))
    → ((tail : List (ℕ × SiblingOrders)) → AreEntries number (sprout ∷ more) tail → HasAdded first (old ++ tail) (AreEntries start all))
    → HasAdded old new (IsFollowing number sprout more)
    → (tail : List (ℕ × SiblingOrders)) → AreEntries (suc number) more tail → HasAdded first (new ++ tail) (AreEntries start all)
entries_on number start first sprout more all old new made own tail are =
    subst (λ entries. HasAdded first entries (AreEntries start all)) (sym (append_assoc old own.added tail) ∙ ap (λ entries. entries ++ tail) (sym own.is))
    (made (own.added ++ tail) (own.added, tail, refl, own.made, are))

pub entries_end : (number start : ℕ) (first : List (ℕ × SiblingOrders)) (all : List Sprout) (old : List (ℕ × SiblingOrders))
    → ((tail : List (ℕ × SiblingOrders)) → AreEntries number [] tail → HasAdded first (old ++ tail) (AreEntries start all)) → HasAdded first old (AreEntries start all)
entries_end number start first all old made = subst (λ entries. HasAdded first entries (AreEntries start all)) (append-nil old) (made [] refl)

-- why a sapling is refused
pub refused_or : (A B : Type 0) (reason cycle reported : Option PlainRefusal) (fault : Fault) (Made : B → Type 0) → reason ≡ None → cycle ≡ reported → IsMadeUnless {A = B} reported Made (Err fault)
    → IsRefusedOrCyclic {A = A} reason cycle (Err fault)
refused_or A B reason cycle reported (fault.Refused refusal) Made none same is = rw none (same ∙ is)
refused_or A B reason cycle reported fault.NoMemory Made none same is = none
