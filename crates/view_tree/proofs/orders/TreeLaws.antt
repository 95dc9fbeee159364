-- What is kept of relative layouts, when their tree is edited.
use Rattle.std.proofs.Common.{◌≡◌, ◌≢◌, ◌⊎◌, ℕ, ◌<◌, ◌≤◌, ◌+◌, true, false, inl, inr, List, [], ◌∷◌, ◌++◌, length, length-append, get_or, Option, Some, None, refl, sym, ◌∙◌, ap, subst, arith}
use Rattle.std.proofs.lemmas.Bool.{cases_eq, eq-eqb, ne_eqb, cases_lt}
use Rattle.std.proofs.lemmas.Bool.Decides.{nat_tests}
use Rattle.std.proofs.lemmas.List.{get_or_append_left, get_or_push}
use Rattle.std.proofs.lemmas.List.Edits.{length-remove, get_or-remove_below, get_or-remove_above}
use Rattle.std.specs.List.{remove}
use Rattle.std.specs.Prelude.{◌==◌, replicate}
use Rattle.relative_layout.proofs.orders.NamingLaws.{leads_from, leads_inside, leads_parts, names-some}
use Rattle.view_model.specs.declared.facts.Rules.{Rules}
use Rattle.view_model.specs.declared.relative.Axis.{Axis}
use Rattle.view_model.specs.declared.relative.Axis.TheVariants.{Horizontal, Vertical}
use Rattle.view_model.specs.declared.relative.Link.{Link}
use Rattle.view_model.specs.Forest.{Forest, Nothing, Branch, EveryBranch, EveryRow, edited_where, changed_where, joined}
use Rattle.view_model.specs.Orders.{IsOrder}
use Rattle.view_model.specs.PlainTree.{PlainView, grown, pruned, single}
use Rattle.view_model.specs.SiblingRules.{leads, names, no_link}
use Rattle.view_model.specs.Classes.{is_relative}
use Rattle.view_model.specs.Cycles.{link_of, links_in, numbers_in}
use Rattle.sibling_orders.specs.Ordering.{AreOrders, IsGroupOf, IsGrouped, IsGroupedAt, IsKeptOf, IsTakenAt, IsWithoutKid, PlainGroup, place_in, with_kid}
use Rattle.sibling_orders.specs.Highest.{IsAboveNamed, IsAboveRules}
use Rattle.sibling_orders.specs.Latest.{AreReached, AreRising, IsReachedIn}
use Rattle.sibling_orders.specs.Indexes.{IsLowered, StaysWithin, passing}
use Rattle.view_tree.proofs.forest.ForestLaws.{every_branch-joined, times_in}
use Rattle.sibling_orders.proofs.LatestLaws.{reached_with, rising_remove, rising_with, straight_with}
use Rattle.view_tree.proofs.orders.ListLaws.{IsAmong, among_or_not, each-changed, each-grown, each-joined, each-pruned, each-pruned_below, edited_nowhere, every_below, every_both, every_by, length-each, place_past, place_within}
use Rattle.sibling_orders.proofs.IndexLaws.{IsOrder-add, passes, passing_injective, place_passing}

-- a group is that of other children too, if these are tied alike
pub kept_along : (old new : Forest PlainView) (group : Option PlainGroup) → links_in new ≡ links_in old → numbers_in new ≡ numbers_in old → IsKeptOf old group → IsKeptOf new group
kept_along old new None links numbers kept = absurd kept
kept_along old new (Some group) links numbers kept = record {
  numbers = kept.numbers ∙ sym numbers;
  orders = subst (λ (links : List Link). AreOrders links group.orders) (sym links) kept.orders;
  highest = subst (IsAboveNamed group.highest) (sym links) kept.highest;
  rising = subst AreRising (sym numbers) kept.rising;
  latest = λ e. subst (λ (links : List Link). AreReached group.latest links (numbers_in new)) (sym links) (subst (AreReached group.latest (links_in old)) (sym numbers) (kept.latest e));
  given_up = kept.given_up;
  marked = kept.marked;
}

abbrev pub Groups : Type 0
Groups = ℕ → Option PlainGroup

abbrev pub Edit : Type 0
Edit = PlainView → Forest PlainView → Forest PlainView → Forest PlainView

abbrev pub edited : ℕ → Edit → Forest PlainView → Forest PlainView
edited number edit tree = edited_where (λ (view : PlainView). view.number == number) edit tree

-- the conditions of an edit of the view of a number, for each other view and for this one
abbrev pub OwesOther : Groups → Groups → ℕ → Edit → PlainView → Forest PlainView → Type 0
OwesOther at new number edit view kids = view.number ≢ number → IsGroupedAt at view kids → IsGroupedAt new view (edited number edit kids)

abbrev pub OwesOwn : Groups → Groups → ℕ → Edit → PlainView → Forest PlainView → Type 0
OwesOwn at new number edit view kids =
    view.number ≡ number → IsGroupedAt at view kids → (siblings : Forest PlainView) → IsGrouped new kids → IsGrouped new siblings → IsGrouped new (edit view kids siblings)

abbrev pub Owes : Groups → Groups → ℕ → Edit → PlainView → Forest PlainView → Type 0
Owes at new number edit view kids = OwesOther at new number edit view kids × OwesOwn at new number edit view kids

pub grouped-edited : (at new : Groups) (number : ℕ) (edit : Edit) (tree : Forest PlainView) → times_in number tree ≤ 1
    → EveryBranch (λ (view : PlainView) (kids : Forest PlainView). Owes at new number edit view kids) tree → IsGrouped at tree → IsGrouped new (edited number edit tree)
grouped-edited at new number edit Nothing once owes grouped = tt
grouped-edited at new number edit (Branch view kids siblings) once owes grouped =
    let below : IsGrouped new (edited number edit kids) = grouped-edited at new number edit kids (omega arith) owes.1 grouped.1 in
    let after : IsGrouped new (edited number edit siblings) = grouped-edited at new number edit siblings (omega arith) owes.2 grouped.2 in
    elim (cases_eq view.number number) [
      | inl is ↦
          let once : 1 + (times_in number kids + times_in number siblings) ≤ 1 = rw (eq-eqb view.number number is) at once in
          rw (eq-eqb view.number number is)
          (owes.0.1 is grouped.0 siblings
          (subst (IsGrouped new) (edited_nowhere number edit kids (omega arith)) below)
          (subst (IsGrouped new) (edited_nowhere number edit siblings (omega arith)) after))
      | inr isnt ↦ rw (ne_eqb view.number number isnt) (owes.0.0 isnt grouped.0, below, after)
    ]

-- a view is removed: the child is taken out of its parent's group
at_passing : (kids : List Link) (i a : ℕ) → i < length kids → get_or (remove kids i) a no_link ≡ get_or kids (passing i a) no_link
at_passing kids i a h = elim (passes i a) [
  | inl w ↦ get_or-remove_below kids i no_link a w.0 h ∙ ap (λ k. get_or kids k no_link) (sym w.1)
  | inr w ↦ get_or-remove_above kids i no_link a w.0 h ∙ ap (λ k. get_or kids k no_link) (sym w.1)
]

leads_whole : (axis : Axis) (kids : List Link) (a b : ℕ) → a ≢ b → names axis (get_or kids a no_link).rules (get_or kids b no_link).id ≡ true → leads axis kids a b ≡ true
unfolding leads
leads_whole axis kids a b ne says = grind (arith, nat_tests)

-- a child that stays leads to those to which it led
pub leads-remove : (axis : Axis) (kids : List Link) (i : ℕ) → i < length kids → StaysWithin i (leads axis kids) (leads axis (remove kids i))
leads-remove axis kids i h = λ a b e.
    let parts = leads_parts axis (remove kids i) a b e in
    leads_whole axis kids (passing i a) (passing i b) (λ same. parts.0 (passing_injective i a b same))
    (rw (← at_passing kids i a h, ← at_passing kids i b h) parts.1)

-- no child that stays names an id above those of before
above-remove : (highest : ℕ) (links : List Link) (i : ℕ) → i < length links → IsAboveNamed highest links → IsAboveNamed highest (remove links i)
above-remove highest links i h above place small =
    let size = length-remove links i h in
    subst (λ (link : Link). IsAboveRules highest link.rules) (sym (at_passing links i place h))
    (above (passing i place) (elim (passes i place) [ inl w ↦ let same = w.1 in omega arith | inr w ↦ let same = w.1 in omega arith ]))

-- what a table has for the ids of those that stay
reached-remove : (latest : List (ℕ × ℕ)) (links : List Link) (kids : List ℕ) (i : ℕ) → i < length links → i < length kids → AreReached latest links kids
    → AreReached latest (remove links i) (remove kids i)
reached-remove latest links kids i h inside reached p small named =
    let size = length-remove links i h in
    let here = at_passing links i p h in
    let there : passing i p < length links = elim (passes i p) [ inl w ↦ let same = w.1 in omega arith | inr w ↦ let same = w.1 in omega arith ] in
    subst (λ n. IsReachedIn latest (get_or (remove links i) p no_link).id n) (sym (place_passing kids i p inside))
    (subst (λ (l : Link). IsReachedIn latest l.id (get_or kids (passing i p) 0)) (sym here)
    (reached (passing i p) there (λ zero. named (ap (λ (l : Link). l.id) here ∙ zero))))

-- an order of the children, lowered, is one of those that stay
order-lowered : (axis : Axis) (links : List Link) (place : ℕ) (old new : List ℕ) → place < length links → IsOrder (leads axis links) (length links) old → IsLowered place old new
    → IsOrder (leads axis (remove links place)) (length (remove links place)) new
order-lowered axis links place old new small is lowered =
    let size : length links ≡ length (remove links place) + 1 = sym (length-remove links place small) in
    lowered (leads axis links) (leads axis (remove links place)) (length (remove links place)) (omega arith)
    (subst (λ count. IsOrder (leads axis links) count old) size is) (leads-remove axis links place small)

group-without : (number : ℕ) (kids : Forest PlainView) (old new : PlainGroup) → IsAmong number kids → IsWithoutKid number old new → IsGroupOf kids old → IsGroupOf (pruned number kids) new
group-without number kids old new among taken is =
    let place = place_in number (numbers_in kids) in
    let same : place_in number old.kids ≡ place = ap (place_in number) is.numbers in
    let small : place < length (links_in kids) = (let within = place_within number kids among in let size = length-each link_of kids in omega arith) in
    let links : links_in (pruned number kids) ≡ remove (links_in kids) place = each-pruned link_of number kids among in
    let numbers : numbers_in (pruned number kids) ≡ remove (numbers_in kids) place = each-pruned (λ (view : PlainView). view.number) number kids among in
    let inside : place < length (numbers_in kids) = place_within number kids among in
    let each = length-each link_of kids in
    let all : length old.kids ≡ length (numbers_in kids) = ap length is.numbers in
    record {
      numbers = taken.kids ∙ ap (λ (list : List ℕ). remove list (place_in number list)) is.numbers ∙ sym (each-pruned (λ (view : PlainView). view.number) number kids among);
      orders = subst (λ (links : List Link). AreOrders links new.orders) (sym links) (record {
        across = order-lowered Horizontal (links_in kids) place old.orders.across new.orders.across small is.orders.across
            (subst (λ at. IsLowered at old.orders.across new.orders.across) same taken.across);
        down = order-lowered Vertical (links_in kids) place old.orders.down new.orders.down small is.orders.down
            (subst (λ at. IsLowered at old.orders.down new.orders.down) same taken.down);
      });
      highest = subst (λ highest. IsAboveNamed highest (links_in (pruned number kids))) (sym taken.highest)
          (subst (IsAboveNamed old.highest) (sym links) (above-remove old.highest (links_in kids) place small is.highest));
      rising = subst AreRising (sym numbers) (rising_remove (numbers_in kids) place inside is.rising);
      latest = λ e. subst (λ latest. AreReached latest (links_in (pruned number kids)) (numbers_in (pruned number kids))) (sym taken.latest)
          (subst (λ (links : List Link). AreReached old.latest links (numbers_in (pruned number kids))) (sym links)
          (subst (AreReached old.latest (remove (links_in kids) place)) (sym numbers) (reached-remove old.latest (links_in kids) (numbers_in kids) place small inside (is.latest (sym taken.complete ∙ e)))));
      given_up = λ no. taken.latest ∙ is.given_up (sym taken.complete ∙ no);
      marked = taken.marked (let kept = is.orders.across.size in omega arith) (let kept = is.orders.down.size in omega arith) is.marked;
    }

-- the group of a view one of whose children is removed, or none
kept-taken : (number : ℕ) (kids : Forest PlainView) (old new : Option PlainGroup) → IsTakenAt number old new → IsKeptOf kids old → IsKeptOf (pruned number kids) new
kept-taken number kids None new taken is = absurd is
kept-taken number kids (Some old) None taken is = absurd taken
kept-taken number kids (Some old) (Some new) taken is =
    elim (among_or_not number kids) [
      | inl among ↦ group-without number kids old new among
          (taken.0 (rw is.numbers (place_within number kids among))) is
      | inr nowhere ↦
          let same : Some new ≡ Some old = ap (λ group. Some group) (taken.1 (rw is.numbers (place_past number kids nowhere))) in
          subst (IsKeptOf (pruned number kids)) (sym same)
          (kept_along kids (pruned number kids) (Some old) (each-pruned_below link_of number kids nowhere)
          (each-pruned_below (λ (view : PlainView). view.number) number kids nowhere) is)
    ]

-- the relative layout of which a view is a child, by its number
abbrev pub HasParent : ℕ → Option ℕ → PlainView → Forest PlainView → Type 0
HasParent number parent view kids = is_relative view.class ≡ true → IsAmong number kids → parent ≡ Some view.number

pub cases_some : (o : Option ℕ) (x : ℕ) → (o ≡ Some x) ⊎ (o ≢ Some x)
cases_some None x = inr (λ e. cc)
cases_some (Some y) x = elim (cases_eq y x) [ inl e ↦ inl (ap (λ k. Some k) e) | inr ne ↦ inr (λ e. ne (let f : Some y ≡ Some x = e in cc)) ]

pub grouped-pruned : (at new : Groups) (number : ℕ) (parent : Option ℕ) (tree : Forest PlainView) → times_in number tree ≤ 1
    → EveryBranch (λ (view : PlainView) (kids : Forest PlainView). HasParent number parent view kids) tree
    → ((k : ℕ) → parent ≡ Some k → k ≢ number → IsTakenAt number (at k) (new k)) → ((k : ℕ) → parent ≢ Some k → k ≢ number → new k ≡ at k)
    → IsGrouped at tree → IsGrouped new (pruned number tree)
grouped-pruned at new number parent tree once has own others grouped =
    grouped-edited at new number (λ view kids siblings. siblings) tree once
    (every_by (λ (view : PlainView) (kids : Forest PlainView). HasParent number parent view kids)
    (λ (view : PlainView) (kids : Forest PlainView). Owes at new number (λ view kids siblings. siblings) view kids) tree
    (λ view kids is. (
      λ isnt kept relative. elim (cases_some parent view.number) [
        | inl e ↦ kept-taken number kids (at view.number) (new view.number) (own view.number e isnt) (kept relative)
        | inr ne ↦
            subst (IsKeptOf (pruned number kids)) (sym (others view.number ne isnt))
            (kept_along kids (pruned number kids) (at view.number)
            (each-pruned_below link_of number kids (λ among. ne (is relative among)))
            (each-pruned_below (λ (view : PlainView). view.number) number kids (λ among. ne (is relative among)))
            (kept relative))
      ],
      λ here kept siblings below after. after,
    )) has) grouped

-- a view is added after the children of another
pub grouped-grown : (at new : Groups) (parent : ℕ) (added tree : Forest PlainView) → times_in parent tree ≤ 1
    → EveryRow (λ (view : PlainView). view.number ≢ parent → new view.number ≡ at view.number) tree
    → EveryBranch (λ (view : PlainView) (kids : Forest PlainView). view.number ≡ parent → IsGroupedAt at view kids → IsGroupedAt new view (joined kids added)) tree
    → IsGrouped new added → IsGrouped at tree → IsGrouped new (grown parent added tree)
grouped-grown at new parent added tree once others own extra grouped =
    grouped-edited at new parent (λ view kids siblings. Branch view (joined kids added) siblings) tree once
    (every_by
    (λ (view : PlainView) (kids : Forest PlainView). (view.number ≢ parent → new view.number ≡ at view.number)
    × (view.number ≡ parent → IsGroupedAt at view kids → IsGroupedAt new view (joined kids added)))
    (λ (view : PlainView) (kids : Forest PlainView). Owes at new parent (λ view kids siblings. Branch view (joined kids added) siblings) view kids) tree
    (λ view kids both. (
      λ isnt kept relative.
          subst (IsKeptOf (grown parent added kids)) (sym (both.0 isnt))
          (kept_along kids (grown parent added kids) (at view.number) (each-grown link_of parent added kids)
          (each-grown (λ (view : PlainView). view.number) parent added kids) (kept relative)),
      λ here kept siblings below after. (both.1 here kept, every_branch-joined (λ (view : PlainView) (kids : Forest PlainView). IsGroupedAt new view kids) kids added below extra, after),
    ))
    (every_both (λ (view : PlainView) (kids : Forest PlainView). view.number ≢ parent → new view.number ≡ at view.number) _ tree others own)) grouped

-- a new child that is tied to none: it names no sibling
names_none : (axis : Axis) (rules : Rules) (id : ℕ) → rules.values ≡ replicate 21 0 → names axis rules id ≡ false
unfolding names
names_none Horizontal rules id plain = elim (cases_eq id 0) [
  | inl is ↦ rw is
  | inr some ↦ rw (plain, ne_eqb id 0 some, ne_eqb 0 id (λ e. some (sym e)))
]
names_none Vertical rules id plain = elim (cases_eq id 0) [
  | inl is ↦ rw is
  | inr some ↦ rw (plain, ne_eqb id 0 some, ne_eqb 0 id (λ e. some (sym e)))
]

-- and no sibling names it
unnamed : (axis : Axis) (rules : Rules) (id : ℕ) → id ≡ 0 → names axis rules id ≡ true → ⊥
unnamed axis rules id none says = let some = (names-some axis rules id says).3 in some none

module _ (axis : Axis) (links : List Link) (link : Link) (id : link.id ≡ 0) (rules : link.rules.values ≡ replicate 21 0) where
  abbrev all : List Link
  all = links ++ link ∷ []

  size : length all ≡ length links + 1
  size = length-append links (link ∷ [])

  last : get_or all (length links) no_link ≡ link
  last = get_or_push links link no_link (length links) refl

  early : (a : ℕ) → a < length links → get_or all a no_link ≡ get_or links a no_link
  early a small = get_or_append_left links (link ∷ []) no_link a small

  ties : (a b : ℕ) → leads axis all a b ≡ true → (a < length links) × (leads axis links a b ≡ true)
  ties a b e =
      let parts = leads_parts axis all a b e in
      let from = leads_from axis all a b e in
      let to = leads_inside axis all a b e in
      elim (cases_lt a (length links)) [
        | inr le ↦
            let at : a ≡ length links = omega (arith, size) in
            let none : names axis (get_or all a no_link).rules (get_or all b no_link).id ≡ false =
            ap (λ place. names axis (get_or all place no_link).rules (get_or all b no_link).id) at
            ∙ ap (λ (own : Link). names axis own.rules (get_or all b no_link).id) last
            ∙ names_none axis link.rules (get_or all b no_link).id rules in
            absurd (let says = parts.1 in cc)
        | inl lt ↦ elim (cases_lt b (length links)) [
          | inr le ↦
              let at : b ≡ length links = omega (arith, size) in
              absurd (unnamed axis (get_or all a no_link).rules (get_or all b no_link).id (ap (λ place. (get_or all place no_link).id) at ∙ ap (λ (own : Link). own.id) last ∙ id) parts.1)
          | inl small ↦ (lt, leads_whole axis links a b parts.0 (rw (← early a lt, ← early b small) parts.1))
        ]
      ]

  order-with : (old : List ℕ) → IsOrder (leads axis links) (length links) old → IsOrder (leads axis all) (length all) (old ++ length links ∷ [])
  order-with old is = subst (λ count. IsOrder (leads axis all) count (old ++ length links ∷ [])) (sym size) (IsOrder-add (leads axis links) (leads axis all) (length links) old ties is)

-- a child that names none names none above another
above-with : (highest : ℕ) (links : List Link) (link : Link) → link.rules.values ≡ replicate 21 0 → IsAboveNamed highest links → IsAboveNamed highest (links ++ link ∷ [])
above-with highest links link rules above place small =
    let size = length-append links (link ∷ []) in
    elim (cases_lt place (length links)) [
      | inl lt ↦ subst (λ (link : Link). IsAboveRules highest link.rules) (sym (get_or_append_left links (link ∷ []) no_link place lt)) (above place lt)
      | inr le ↦
          let at : place ≡ length links = omega arith in
          λ axis id named.
          let own : names axis link.rules id ≡ true = subst (λ (link : Link). names axis link.rules id ≡ true) (get_or_push links link no_link place (sym at)) named in
          absurd (let none = names_none axis link.rules id rules in cc)
    ]

pub group-with : (kids : Forest PlainView) (view : PlainView) (group : PlainGroup) → view.facts.id ≡ 0 → view.facts.rules.values ≡ replicate 21 0
    → ((p : ℕ) → p < length (numbers_in kids) → get_or (numbers_in kids) p 0 < view.number) → IsGroupOf kids group
    → IsGroupOf (joined kids (single view)) (with_kid view.number group)
group-with kids view group id rules later is =
    let links : links_in (joined kids (single view)) ≡ links_in kids ++ link_of view ∷ [] = each-joined link_of kids (single view) in
    let numbers : numbers_in (joined kids (single view)) ≡ numbers_in kids ++ view.number ∷ [] = each-joined (λ (view : PlainView). view.number) kids (single view) in
    let size : length group.kids ≡ length (links_in kids) = ap length is.numbers ∙ sym (length-each link_of kids) in
    record {
      numbers = ap (λ list. list ++ view.number ∷ []) is.numbers ∙ sym (each-joined (λ (view : PlainView). view.number) kids (single view));
      orders = subst (λ (links : List Link). AreOrders links (with_kid view.number group).orders) (sym links) (record {
        across = rw size (order-with Horizontal (links_in kids) (link_of view) id rules group.orders.across is.orders.across);
        down = rw size (order-with Vertical (links_in kids) (link_of view) id rules group.orders.down is.orders.down);
      });
      highest = subst (IsAboveNamed group.highest) (sym links) (above-with group.highest (links_in kids) (link_of view) rules is.highest);
      rising = subst AreRising (sym numbers) (rising_with (numbers_in kids) view.number later is.rising);
      latest = λ e. subst (λ (links : List Link). AreReached group.latest links (numbers_in (joined kids (single view)))) (sym links)
          (subst (AreReached group.latest (links_in kids ++ link_of view ∷ [])) (sym numbers)
          (reached_with group.latest (links_in kids) (link_of view) (numbers_in kids) view.number (sym (length-each link_of kids)) id (is.latest e)));
      given_up = is.given_up;
      marked = record {
        across = λ e. straight_with group.orders.across (length group.kids) (is.orders.across.size ∙ sym size) (is.marked.across e);
        down = λ e. straight_with group.orders.down (length group.kids) (is.orders.down.size ∙ sym size) (is.marked.down e);
      };
    }

-- what a change of the view of a number leaves of it
abbrev pub Same : ℕ → (PlainView → PlainView) → PlainView → Type 0
Same number change view = view.number ≡ number → ((change view).class ≡ view.class) × ((change view).number ≡ view.number) × (link_of (change view) ≡ link_of view)

-- a view is changed, and no rule reads a difference
pub grouped-changed : (at : Groups) (number : ℕ) (change : PlainView → PlainView) (tree : Forest PlainView) → times_in number tree ≤ 1
    → EveryRow (Same number change) tree
    → IsGrouped at tree → IsGrouped at (changed_where (λ (view : PlainView). view.number == number) change tree)
grouped-changed at number change tree once same grouped =
    grouped-edited at at number (λ view kids siblings. Branch (change view) kids siblings) tree once
    (every_by (λ (view : PlainView) (kids : Forest PlainView). Same number change view × EveryRow (Same number change) kids)
    (λ (view : PlainView) (kids : Forest PlainView). Owes at at number (λ view kids siblings. Branch (change view) kids siblings) view kids) tree
    (λ view kids both. (
      λ isnt kept relative.
          kept_along kids (changed_where (λ (view : PlainView). view.number == number) change kids) (at view.number)
          (each-changed link_of number change kids (every_by (λ (view : PlainView) below. Same number change view) (λ (view : PlainView) below. view.number ≡ number → link_of (change view) ≡ link_of view) kids
          (λ view below own is. (own is).2) both.1))
          (each-changed (λ (view : PlainView). view.number) number change kids (every_by (λ (view : PlainView) below. Same number change view) (λ (view : PlainView) below. view.number ≡ number → (change view).number ≡ view.number) kids
          (λ view below own is. (own is).1) both.1))
          (kept relative),
      λ here kept siblings below after. (
        λ relative. subst (λ n. IsKeptOf kids (at n)) (sym (both.0 here).1) (kept (ap is_relative (sym (both.0 here).0) ∙ relative)),
        below,
        after,
      ),
    )) (every_below (Same number change) tree same)) grouped
