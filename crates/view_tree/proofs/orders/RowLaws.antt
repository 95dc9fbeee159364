-- What is kept of relative layouts, in a tree of keyed views.
use Rattle.std.proofs.Common.{◌≡◌, ◌≢◌, ℕ, zero, suc, ◌<◌, ◌≤◌, true, Bool, List, [], ◌∷◌, length, get_or, Option, Some, None, refl, sym, ◌∙◌, ap, subst, arith, inl, inr}
use Rattle.std.proofs.lemmas.Bool.{cases_Bool, cases_lt, eq-eqb, eqb-true}
use Rattle.std.specs.Prelude.{MatchOption, slice_get, ◌==◌, ◌^◌, IfSome, option_map, nat_eq, replicate}
use Rattle.std.specs.Map.{lookup}
use Rattle.std.specs.Option.{unwrap_or}
use Rattle.view_model.specs.Numbers.{max_views}
use Rattle.view_model.specs.Forest.{Forest, Nothing, Branch, EveryBranch, EveryRow, changed_where, count_of, joined}
use Rattle.view_model.specs.Growth.{grown_at}
use Rattle.view_model.specs.Orders.{IsOrder}
use Rattle.view_model.specs.SiblingRules.{no_link}
use Rattle.view_model.specs.PlainTree.{PlainView, pruned, single}
use Rattle.view_tree.proofs.forest.ForestLaws.{times_in}
use Rattle.sibling_orders.specs.declared.groups.SiblingOrders.{SiblingOrders}
use Rattle.view_tree.specs.node.Nodes.{PlainNode, RepresentsPart, RepresentsTree}
use Rattle.view_model.specs.Classes.{is_relative}
use Rattle.view_model.specs.Cycles.{each, link_of, links_in, numbers_in}
use Rattle.sibling_orders.specs.Ordering.{IsGrouped, IsGroupedAt, IsKeptOf, IsTakenAt, PlainGroup, PlainOrders, no_group, no_orders, orders_in, plain_group, with_kid}
use Rattle.view_tree.specs.Rows.{Row, children_of_first, count_of_number, first_key, head_view, part_from, siblings_from, views_of}
use Rattle.view_tree.specs.Views.{Held, IsLive, IsTree, Views, class_of, group_number, held_of, number_of, offset_of, plain_of, plain_rows, scrolled, view_at}
use Rattle.view_tree.proofs.forest.Forests.{RepresentsPart-within, Within-children_of_first, Within-later_siblings, some_is}
use Rattle.view_tree.proofs.forest.KeyLaws.{Agree, Within, from_within, here, in_after, in_below, located, number-within, number_self, count_of_key-within, times_self}
use Rattle.view_tree.proofs.forest.PlainLaws.{agree_live, plain-count}
use Rattle.view_tree.proofs.orders.ListLaws.{IsAmong, apart, every_by}
use Rattle.view_tree.proofs.orders.TreeLaws.{Groups, HasParent, group-with, Same, grouped-changed, grouped-grown, grouped-pruned, kept_along}

pub times-plain : (held : ℕ → Held) (number : ℕ) (tree : Forest Row) → times_in number (plain_rows held tree) ≡ count_of_number number tree
times-plain held number Nothing = refl
times-plain held number (Branch row kids siblings) = rw (times-plain held number kids, times-plain held number siblings)

pub each-plain : {X : Type 0} (f : PlainView → X) (g : Row → X) (held : ℕ → Held) (list : Forest Row) → ((row : Row) → f (scrolled held row) ≡ f row.view)
    → each f (plain_rows held list) ≡ each f (views_of list)
each-plain f g held Nothing same = refl
each-plain f g held (Branch row kids siblings) same =
    ap (λ first. first ∷ each f (plain_rows held siblings)) (same row) ∙ ap (λ rest. f row.view ∷ rest) (each-plain f g held siblings same)

pub links-plain : (held : ℕ → Held) (list : Forest Row) → links_in (plain_rows held list) ≡ links_in (views_of list)
links-plain held list = each-plain link_of (λ row. link_of row.view) held list (λ row. refl)

pub numbers-plain : (held : ℕ → Held) (list : Forest Row) → numbers_in (plain_rows held list) ≡ numbers_in (views_of list)
numbers-plain held list = each-plain (λ (view : PlainView). view.number) (λ row. row.view.number) held list (λ row. refl)

-- no offset matters
pub grouped-held : (groups : Groups) (old new : ℕ → Held) (tree : Forest Row) → IsGrouped groups (plain_rows old tree) → IsGrouped groups (plain_rows new tree)
grouped-held groups old new Nothing grouped = tt
grouped-held groups old new (Branch row kids siblings) grouped = (
  λ relative. kept_along (plain_rows old kids) (plain_rows new kids) (groups row.view.number)
      (links-plain new kids ∙ sym (links-plain old kids)) (numbers-plain new kids ∙ sym (numbers-plain old kids)) (grouped.0 relative),
  grouped-held groups old new kids grouped.1,
  grouped-held groups old new siblings grouped.2,
)

pub grouped_kept : (groups : Groups) (old new : Views) → new.tree ≡ old.tree → IsGrouped groups (plain_of old) → IsGrouped groups (plain_of new)
grouped_kept groups old new tree grouped =
    subst (λ (t : Forest Row). IsGrouped groups (plain_rows (held_of new) t)) (sym tree) (grouped-held groups (held_of old) (held_of new) old.tree grouped)

-- every branch, by where it is in the tree
pub every_within : (P : PlainView → Forest PlainView → Type 0) (held : ℕ → Held) (tree : Forest Row)
    → ((row : Row) (kids siblings : Forest Row) → Within (Branch row kids siblings) tree → P (scrolled held row) (plain_rows held kids)) → EveryBranch P (plain_rows held tree)
every_within P held Nothing all = tt
every_within P held (Branch row kids siblings) all = (
  all row kids siblings here,
  every_within P held kids (λ r b a w. all r b a (in_below w)),
  every_within P held siblings (λ r b a w. all r b a (in_after w)),
)

pub at_within : (P : PlainView → Forest PlainView → Type 0) (held : ℕ → Held) (row : Row) (kids siblings : Forest Row) {tree : Forest Row} → Within (Branch row kids siblings) tree
    → EveryBranch P (plain_rows held tree) → P (scrolled held row) (plain_rows held kids)
at_within P held row kids siblings here every = every.0
at_within P held row kids siblings (in_below w) every = at_within P held row kids siblings w every.1
at_within P held row kids siblings (in_after w) every = at_within P held row kids siblings w every.2

pub agree_within : (key number : ℕ) (row : Row) (kids siblings : Forest Row) {tree : Forest Row} → Within (Branch row kids siblings) tree → Agree key number tree
    → Agree key number (Branch row kids siblings)
agree_within key number row kids siblings here agree = agree
agree_within key number row kids siblings (in_below w) agree = agree_within key number row kids siblings w agree.1
agree_within key number row kids siblings (in_after w) agree = agree_within key number row kids siblings w agree.2

own_key : (key number : ℕ) (row : Row) → (row.view.number == number) ≡ (row.key == key) → row.view.number ≡ number → row.key ≡ key
own_key key number row same is = eqb-true row.key key (sym same ∙ eq-eqb row.view.number number is)

-- the view of a number is that of its key
pub numbered_at : (views : Views) (key : ℕ) (row : Row) (kids siblings : Forest Row) → IsTree views → IsLive views key → Within (Branch row kids siblings) views.tree
    → row.view.number ≡ number_of views key → part_from key views.tree ≡ Branch row kids siblings
numbered_at views key row kids siblings is live within same =
    let agree = agree_within key (number_of views key) row kids siblings within (agree_live views key is live) in
    let own : row.key ≡ key = own_key key (number_of views key) row agree.0 same in
    subst (λ k. part_from k views.tree ≡ Branch row kids siblings) own (from_within row kids siblings within (is.keys row.key))

pub numbered_key : (views : Views) (key : ℕ) (row : Row) (kids siblings : Forest Row) → IsTree views → IsLive views key → Within (Branch row kids siblings) views.tree
    → row.view.number ≡ number_of views key → row.key ≡ key
numbered_key views key row kids siblings is live within same =
    own_key key (number_of views key) row (agree_within key (number_of views key) row kids siblings within (agree_live views key is live)).0 same

scrolled_at : (views : Views) (key : ℕ) (row : Row) (kids siblings : Forest Row) → part_from key views.tree ≡ Branch row kids siblings → row.key ≡ key
    → view_at views key ≡ scrolled (held_of views) row
scrolled_at views key row kids siblings part own =
    ap (λ part. record (head_view part) { facts = record (head_view part).facts { offset = offset_of views key } }) part
    ∙ ap (λ k. record row.view { facts = record row.view.facts { offset = (held_of views k).offset } }) (sym own)

-- a view is changed, and no rule reads a difference
pub grouped-put : (groups : Groups) (old new : Views) (key : ℕ) (change : PlainView → PlainView) → IsTree old → IsLive old key
    → plain_of new ≡ changed_where (λ (view : PlainView). view.number == number_of old key) change (plain_of old)
    → (change (view_at old key)).class ≡ (view_at old key).class → (change (view_at old key)).number ≡ (view_at old key).number → link_of (change (view_at old key)) ≡ link_of (view_at old key)
    → IsGrouped groups (plain_of old) → IsGrouped groups (plain_of new)
grouped-put groups old new key change is live plain class number link grouped =
    let once : times_in (number_of old key) (plain_of old) ≤ 1 = (let n = is.numbers (number_of old key) in rw (times-plain (held_of old) (number_of old key) old.tree) n) in
    let same : EveryRow (Same (number_of old key) change) (plain_of old) =
    every_within (λ view below. Same (number_of old key) change view) (held_of old) old.tree (λ row kids siblings within here.
    let own = numbered_key old key row kids siblings is live within here in
    let it = scrolled_at old key row kids siblings (numbered_at old key row kids siblings is live within here) own in
    subst (λ (view : PlainView). ((change view).class ≡ view.class) × ((change view).number ≡ view.number) × (link_of (change view) ≡ link_of view)) it (class, number, link)) in
    subst (IsGrouped groups) (sym plain) (grouped-changed groups (number_of old key) change (plain_of old) once same grouped)

-- what is kept of a live relative layout
pub group_there : (groups : Groups) (views : Views) (key : ℕ) → IsLive views key → IsGrouped groups (plain_of views) → is_relative (class_of views key) ≡ true
    → IsKeptOf (plain_rows (held_of views) (children_of_first (part_from key views.tree))) (groups (number_of views key))
group_there groups views key live grouped relative =
    let f = located key views.tree live in
    let P : Forest Row → Type 0 = λ part. is_relative (head_view part).class ≡ true → IsKeptOf (plain_rows (held_of views) (children_of_first part)) (groups (head_view part).number) in
    subst P (sym f.is) (at_within (IsGroupedAt groups) (held_of views) f.row f.kids f.siblings f.within grouped) relative

-- how many children a view has
pub few_numbers : (list : Forest PlainView) → length (numbers_in list) ≤ count_of list
few_numbers Nothing = omega arith
few_numbers (Branch view below after) = let rest = few_numbers after in omega arith

pub count_within : (row : Row) (kids siblings : Forest Row) {tree : Forest Row} → Within (Branch row kids siblings) tree → count_of kids ≤ count_of tree
count_within row kids siblings here = omega arith
count_within row kids siblings (in_below w) = let less = count_within row kids siblings w in omega arith
count_within row kids siblings (in_after w) = let less = count_within row kids siblings w in omega arith

pub few_kids : (views : Views) (key : ℕ) (group : Option PlainGroup) → IsTree views → IsLive views key
    → IsKeptOf (plain_rows (held_of views) (children_of_first (part_from key views.tree))) group → IfSome group (λ group. length group.kids ≤ max_views)
few_kids views key None is live kept = absurd kept
few_kids views key (Some group) is live kept =
    let f = located key views.tree live in
    let kids = plain_rows (held_of views) (children_of_first (part_from key views.tree)) in
    let size : length group.kids ≡ length (numbers_in kids) = ap length kept.numbers in
    let few = few_numbers kids in
    let count : count_of kids ≡ count_of f.kids = plain-count (held_of views) (children_of_first (part_from key views.tree)) ∙ ap (λ part. count_of (children_of_first part)) f.is in
    let within = count_within f.row f.kids f.siblings f.within in
    let all = is.few in
    omega arith

-- the number of a relative layout is that of the view
pub group_number-is : (views : Views) (parent k : ℕ) → group_number views (Some parent) ≡ Some k → (is_relative (class_of views parent) ≡ true) × (number_of views parent ≡ k)
group_number-is views parent k is = elim (cases_Bool (is_relative (class_of views parent))) [
  | inl e ↦ (e, some_is (rw e at is))
  | inr e ↦ absurd (let none : None ≡ Some k = rw e at is in cc)
]

pub group_number-own : (views : Views) (parent : ℕ) → is_relative (class_of views parent) ≡ true → group_number views (Some parent) ≡ Some (number_of views parent)
group_number-own views parent e = rw e

number_row : (row : Row) (kids siblings : Forest Row) {tree : Forest Row} → Within (Branch row kids siblings) tree → 0 < count_of_number row.view.number tree
number_row row kids siblings within = let own = number_self row kids siblings in let less = number-within row.view.number within in omega arith

-- the numbers of views in a list are below the next one
pub numbers_earlier : (next : ℕ) (tree : Forest Row) → ((number : ℕ) → next ≤ number → count_of_number number tree ≡ 0) → (list : Forest Row) → Within list tree
    → (p : ℕ) → p < length (numbers_in (views_of list)) → get_or (numbers_in (views_of list)) p 0 < next
numbers_earlier next tree none Nothing within p small = absurd (omega arith)
numbers_earlier next tree none (Branch row kids siblings) within zero small = elim (cases_lt row.view.number next) [
  | inl lt ↦ lt
  | inr le ↦ absurd (let there = number_row row kids siblings within in let zero = none row.view.number le in omega arith)
]
numbers_earlier next tree none (Branch row kids siblings) within (suc p) small = numbers_earlier next tree none siblings (Within-later_siblings within) p (omega arith)

-- a view was added
no_order : (r : ℕ → ℕ → Bool) → IsOrder r 0 []
no_order r = record {
  size = refl;
  inside = λ p h. absurd (omega arith);
  each = λ place h. absurd (omega arith);
  anchors = record { once = λ p q hp hq same. absurd (omega arith); first = λ p anchor h leads. absurd (omega arith) };
}

grouped_single : (groups : Groups) (view : PlainView) → (is_relative view.class ≡ true → groups view.number ≡ Some no_group) → IsGrouped groups (single view)
grouped_single groups view own = (
  λ relative. subst (IsKeptOf Nothing) (sym (own relative)) (record {
    numbers = refl;
    orders = record { across = no_order _; down = no_order _ };
    highest = λ place small. absurd (omega arith);
    rising = λ p q lower small. absurd (omega arith);
    latest = λ e p small named. absurd (omega arith);
    given_up = λ no. refl;
    marked = record { across = λ e p small. absurd (omega arith); down = λ e p small. absurd (omega arith) };
  }),
  tt,
  tt,
)

kept-with : (kids : Forest PlainView) (view : PlainView) (group : Option PlainGroup) → view.facts.id ≡ 0 → view.facts.rules.values ≡ replicate 21 0
    → ((p : ℕ) → p < length (numbers_in kids) → get_or (numbers_in kids) p 0 < view.number) → IsKeptOf kids group
    → IsKeptOf (joined kids (single view)) (option_map (with_kid view.number) group)
kept-with kids view None id rules later kept = absurd kept
kept-with kids view (Some group) id rules later kept = group-with kids view group id rules later kept

module _ (old new : Views) (view : PlainView) (at now : Groups) (is : IsTree old) (number : view.number ≡ old.next)
    (id : view.facts.id ≡ 0) (rules : view.facts.rules.values ≡ replicate 21 0) (own : is_relative view.class ≡ true → now view.number ≡ Some no_group) where
  later : (kids : Forest Row) → Within kids old.tree → (p : ℕ) → p < length (numbers_in (plain_rows (held_of old) kids)) → get_or (numbers_in (plain_rows (held_of old) kids)) p 0 < view.number
  later kids within p small =
      let numbers = numbers-plain (held_of old) kids in
      let size = ap length numbers in
      let here = ap (λ (n : List ℕ). get_or n p 0) numbers in
      let early = numbers_earlier old.next old.tree is.earlier kids within p (omega arith) in
      omega arith

  vacant : times_in view.number (plain_of old) ≡ 0
  vacant = times-plain (held_of old) view.number old.tree ∙ is.earlier view.number (omega arith)

  module _ (parent : ℕ) (live : IsLive old parent)
      (reported : (k : ℕ) → group_number old (Some parent) ≡ Some k → k ≢ view.number → now k ≡ option_map (with_kid view.number) (at k))
      (others : (k : ℕ) → group_number old (Some parent) ≢ Some k → k ≢ view.number → now k ≡ at k) (grouped : IsGrouped at (plain_of old)) where
    once : times_in (number_of old parent) (plain_of old) ≤ 1
    once = let n = is.numbers (number_of old parent) in rw (times-plain (held_of old) (number_of old parent) old.tree) n

    outside : EveryRow (λ (other : PlainView). other.number ≢ number_of old parent → now other.number ≡ at other.number) (plain_of old)
    outside = every_by (λ (other : PlainView) below. other.number ≢ view.number) (λ (other : PlainView) below. other.number ≢ number_of old parent → now other.number ≡ at other.number) (plain_of old)
        (λ other below ne apart. others other.number (λ same. apart (sym (group_number-is old parent other.number same).1)) ne) (apart view.number (plain_of old) vacant)

    inside : EveryBranch (λ (other : PlainView) (kids : Forest PlainView). other.number ≡ number_of old parent → IsGroupedAt at other kids → IsGroupedAt now other (joined kids (single view))) (plain_of old)
    inside = every_within (λ (other : PlainView) (kids : Forest PlainView). other.number ≡ number_of old parent → IsGroupedAt at other kids → IsGroupedAt now other (joined kids (single view)))
        (held_of old) old.tree (λ row kids siblings within same kept relative.
        let part = numbered_at old parent row kids siblings is live within same in
        let class : is_relative (class_of old parent) ≡ true = ap (λ part. is_relative (head_view part).class) part ∙ relative in
        let mine : group_number old (Some parent) ≡ Some row.view.number = group_number-own old parent class ∙ ap (λ k. Some k) (sym same) in
        let fresh : row.view.number ≢ view.number = λ e. let one = number_row row kids siblings within in let none = times-plain (held_of old) view.number old.tree in
        let zero = vacant in absurd (let there : 0 < count_of_number view.number old.tree = subst (λ n. 0 < count_of_number n old.tree) e one in omega arith) in
        subst (IsKeptOf (joined (plain_rows (held_of old) kids) (single view))) (sym (reported row.view.number mine fresh))
        (kept-with (plain_rows (held_of old) kids) view (at row.view.number) id rules (later kids (Within-children_of_first within)) (kept relative)))

    pub grouped-child : plain_of new ≡ grown_at (Some (number_of old parent)) (single view) (plain_of old) → IsGrouped now (plain_of new)
    grouped-child plain = subst (IsGrouped now) (sym plain)
        (grouped-grown at now (number_of old parent) (single view) (plain_of old) once outside inside (grouped_single now view own) grouped)

pub grouped-attached : (old new : Views) (parent : Option ℕ) (view : PlainView) (at now : Groups) → IsTree old → IfSome parent (λ parent. IsLive old parent) → view.number ≡ old.next
    → view.facts.id ≡ 0 → view.facts.rules.values ≡ replicate 21 0 → (is_relative view.class ≡ true → now view.number ≡ Some no_group)
    → ((k : ℕ) → group_number old parent ≡ Some k → k ≢ view.number → now k ≡ option_map (with_kid view.number) (at k))
    → ((k : ℕ) → group_number old parent ≢ Some k → k ≢ view.number → now k ≡ at k)
    → plain_of new ≡ grown_at (option_map (number_of old) parent) (single view) (plain_of old) → IsGrouped at (plain_of old) → IsGrouped now (plain_of new)
grouped-attached old new None view at now is live number id rules own reported others plain grouped = subst (IsGrouped now) (sym plain) (grouped_single now view own)
grouped-attached old new (Some parent) view at now is live number id rules own reported others plain grouped =
    grouped-child old new view at now is number id rules own parent live reported others grouped plain

-- a view was removed: the node of a child names its parent
pub parent_among : (at : ℕ → Option PlainNode) (held : ℕ → Held) (key number : ℕ) (node : PlainNode) (parent before : Option ℕ) (kids : Forest Row) → at key ≡ Some node → RepresentsPart at parent before kids
    → Agree key number kids → IsAmong number (plain_rows held kids) → node.parent ≡ parent
parent_among at held key number node parent before Nothing says represented agree none = absurd none
parent_among at held key number node parent before (Branch row kids siblings) says represented agree (inl is) =
    let own = own_key key number row agree.0 is in
    ap (λ (n : PlainNode). n.parent) (some_is (sym says ∙ ap at (sym own) ∙ represented.0))
parent_among at held key number node parent before (Branch row kids siblings) says represented agree (inr more) =
    parent_among at held key number node parent (Some row.key) siblings says represented.2 agree.2 more

pub has_parent : (at : ℕ → Option PlainNode) (root : Option ℕ) (next : ℕ) (views : Views) (key : ℕ) (node : PlainNode) → IsTree views → RepresentsTree at root next views.tree → IsLive views key
    → at key ≡ Some node → EveryBranch (HasParent (number_of views key) (group_number views node.parent)) (plain_of views)
has_parent at root next views key node is represents live says =
    every_within (HasParent (number_of views key) (group_number views node.parent)) (held_of views) views.tree (λ row kids siblings within relative among.
    let was_represented = (RepresentsPart-within at None None within represents.represented).represented in
    let agree = agree_within key (number_of views key) row kids siblings within (agree_live views key is live) in
    let above : node.parent ≡ Some row.key = parent_among at (held_of views) key (number_of views key) node (Some row.key) None kids says was_represented.1 agree.1 among in
    let part = from_within row kids siblings within (is.keys row.key) in
    ap (group_number views) above
    ∙ group_number-own views row.key (ap (λ part. is_relative (head_view part).class) part ∙ relative)
    ∙ ap (λ part. Some (head_view part).number) part)

pub grouped-removed : (old new : Views) (key : ℕ) (parent : Option ℕ) (at now : Groups) → IsTree old → EveryBranch (HasParent (number_of old key) parent) (plain_of old)
    → ((k : ℕ) → parent ≡ Some k → k ≢ number_of old key → IsTakenAt (number_of old key) (at k) (now k)) → ((k : ℕ) → parent ≢ Some k → k ≢ number_of old key → now k ≡ at k)
    → plain_of new ≡ pruned (number_of old key) (plain_of old) → IsGrouped at (plain_of old) → IsGrouped now (plain_of new)
grouped-removed old new key parent at now is has own others plain grouped =
    let once : times_in (number_of old key) (plain_of old) ≤ 1 = (let n = is.numbers (number_of old key) in rw (times-plain (held_of old) (number_of old key) old.tree) n) in
    subst (IsGrouped now) (sym plain) (grouped-pruned at now (number_of old key) parent (plain_of old) once has own others grouped)

-- the orders that contracts see
lookup-orders : (test : ℕ → Bool) (groups : List (ℕ × SiblingOrders)) → lookup test (orders_in groups) ≡ option_map (λ (g : PlainGroup). g.orders) (option_map plain_group (lookup test groups))
lookup-orders test [] = refl
lookup-orders test (entry ∷ groups) = elim (cases_Bool (test entry.0)) [
  | inl e ↦ rw e
  | inr e ↦ rw e (lookup-orders test groups)
]

-- what a table has under a number gives the orders there
pub orders_same : (old new : List (ℕ × SiblingOrders)) (k : ℕ) → option_map plain_group (lookup (nat_eq k) new) ≡ option_map plain_group (lookup (nat_eq k) old)
    → lookup (nat_eq k) (orders_in new) ≡ lookup (nat_eq k) (orders_in old)
orders_same old new k same = lookup-orders (nat_eq k) new ∙ ap (option_map (λ (g : PlainGroup). g.orders)) same ∙ sym (lookup-orders (nat_eq k) old)

pub orders_kept : (old new : List (ℕ × SiblingOrders)) (k : ℕ) → option_map plain_group (lookup (nat_eq k) new) ≡ option_map plain_group (lookup (nat_eq k) old)
    → unwrap_or (lookup (nat_eq k) (orders_in new)) no_orders ≡ unwrap_or (lookup (nat_eq k) (orders_in old)) no_orders
orders_kept old new k same = ap (λ found. unwrap_or found no_orders) (orders_same old new k same)

pub orders_none : (groups : List (ℕ × SiblingOrders)) (k : ℕ) → option_map plain_group (lookup (nat_eq k) groups) ≡ None → lookup (nat_eq k) (orders_in groups) ≡ None
orders_none groups k none = lookup-orders (nat_eq k) groups ∙ ap (option_map (λ (g : PlainGroup). g.orders)) none

abbrev pub orders_or : Option PlainGroup → PlainOrders
orders_or group = unwrap_or (option_map (λ (g : PlainGroup). g.orders) group) no_orders

pub orders_under-is : (groups : List (ℕ × SiblingOrders)) (k : ℕ) → unwrap_or (lookup (nat_eq k) (orders_in groups)) no_orders ≡ orders_or (option_map plain_group (lookup (nat_eq k) groups))
orders_under-is groups k = ap (λ found. unwrap_or found no_orders) (lookup-orders (nat_eq k) groups)

-- the parent of a view by look-up is the first of its ancestors
pub nearest_reported : (reported : Option ℕ) (path : List ℕ) (above : ℕ → List ℕ) → MatchOption reported (path ≡ []) (λ parent. path ≡ parent ∷ above parent) → slice_get path 0 ≡ reported
nearest_reported None path above is = rw is refl
nearest_reported (Some parent) path above is = rw is refl

pub orders_are : (views : Views) (key : ℕ) (groups : List (ℕ × SiblingOrders)) (group : PlainGroup) → views.orders ≡ orders_in groups
    → option_map plain_group (lookup (nat_eq (number_of views key)) groups) ≡ Some group → unwrap_or (lookup (nat_eq (number_of views key)) views.orders) no_orders ≡ group.orders
orders_are views key groups group orders is =
    ap (λ list. unwrap_or (lookup (nat_eq (number_of views key)) list) no_orders) orders
    ∙ ap (λ found. unwrap_or found no_orders) (lookup-orders (nat_eq (number_of views key)) groups ∙ ap (option_map (λ (g : PlainGroup). g.orders)) is)

pub nothing_grouped : (groups : Groups) (held : ℕ → Held) (tree : Forest Row) → tree ≡ Nothing → IsGrouped groups (plain_rows held tree)
nothing_grouped groups held tree is = subst (λ (t : Forest Row). IsGrouped groups (plain_rows held t)) (sym is) tt

-- the group of a parent is not too large for its places
fewer : (group : Option PlainGroup) → IfSome group (λ group. length group.kids ≤ max_views) → IfSome group (λ group. length group.kids < 2 ^ 32)
fewer None few = tt
fewer (Some group) few = omega arith

pub few_at : (groups : Groups) (views : Views) (parent : Option ℕ) → IsTree views → IfSome parent (λ parent. IsLive views parent) → IsGrouped groups (plain_of views)
    → (k : ℕ) → group_number views parent ≡ Some k → IfSome (groups k) (λ group. length group.kids < 2 ^ 32)
few_at groups views None is live grouped k reported = absurd (cc)
few_at groups views (Some parent) is live grouped k reported =
    let own = group_number-is views parent k reported in
    fewer (groups k) (subst (λ n. IfSome (groups n) (λ group. length group.kids ≤ max_views)) own.1
    (few_kids views parent (groups (number_of views parent)) is live (group_there groups views parent live grouped own.0)))

-- the child at a place
pub record ChildAt (views : Views) (list : Forest Row) (place : ℕ) : Type 0 where
  pub key : ℕ
  pub first : first_key (siblings_from place list) ≡ Some key
  pub part : part_from key views.tree ≡ siblings_from place list
  pub number : number_of views key ≡ get_or (numbers_in (views_of list)) place 0
  pub live : IsLive views key

pub child_there : (views : Views) (list : Forest Row) (place : ℕ) → IsTree views → Within list views.tree → place < length (numbers_in (views_of list)) → ChildAt views list place
child_there views Nothing place is within small = absurd (omega arith)
child_there views (Branch row kids siblings) zero is within small =
    let part = from_within row kids siblings within (is.keys row.key) in
    record {
      key = row.key;
      first = refl;
      part = part;
      number = ap (λ part. (head_view part).number) part;
      live = (let own = times_self row kids siblings in let less = count_of_key-within row.key within in omega arith);
    }
child_there views (Branch row kids siblings) (suc place) is within small =
    let later = child_there views siblings place is (Within-later_siblings within) (omega arith) in
    record { key = later.key; first = later.first; part = later.part; number = later.number; live = later.live }

pub within_children : (views : Views) (key : ℕ) → IsLive views key → Within (children_of_first (part_from key views.tree)) views.tree
within_children views key live =
    let f = located key views.tree live in
    subst (λ part. Within (children_of_first part) views.tree) (sym f.is) (Within-children_of_first f.within)

-- the link of the child at a place
pub link_there : (list : Forest Row) (place : ℕ) → place < length (links_in (views_of list)) → get_or (links_in (views_of list)) place no_link ≡ link_of (head_view (siblings_from place list))
link_there Nothing place small = absurd (omega arith)
link_there (Branch row kids siblings) zero small = refl
link_there (Branch row kids siblings) (suc place) small = link_there siblings place (omega arith)
