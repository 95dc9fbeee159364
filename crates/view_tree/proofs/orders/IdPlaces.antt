-- The place of a child that alone has an id.
use Rattle.std.proofs.Common.{◌≡◌, ◌≢◌, ◌⊎◌, ℕ, zero, suc, ◌<◌, ◌≤◌, ◌+◌, ◌^◌, Bool, true, false, List, [], ◌∷◌, length, get_or, MatchOption, Option, Some, None, refl, sym, ◌∙◌, ap, subst, arith, inl, inr}
use Rattle.std.proofs.lemmas.Bool.{cases_Bool, cases_eq, cases_lt, eq-eqb, eqb-true, ne_eqb, true≢false}
use Rattle.std.specs.Option.{option_and_then}
use Rattle.std.specs.Prelude.{◌==◌, if◌then◌else◌}
use Rattle.view_model.specs.Forest.{Forest, Nothing, Branch}
use Rattle.view_model.specs.PlainTree.{PlainView}
use Rattle.view_model.specs.declared.relative.Link.{Link}
use Rattle.view_model.specs.SiblingRules.{last_below, last_with_id, no_link}
use Rattle.view_tree.specs.declared.table.ids.Holders.{Holders}
use Rattle.view_tree.specs.declared.tree.ViewTree.TheInside.{Inside}
use Rattle.view_tree.specs.node.Nodes.{IsPlanted, has_id, holders_of, plain_node_at, plain_node_in, plain_node_of, value_of}
use Rattle.view_model.specs.Cycles.{link_of}
use Rattle.view_model.specs.Cycles.{links_in}
use Rattle.view_tree.specs.Rows.{Row, ancestors, children_of_first, count_of_key, count_where, first_key, head_view, keys_where, part_from, siblings_from, views_of}
use Rattle.view_tree.specs.Views.{Held, IsLive, IsNobodys, IsOnlyHolder, IsTree, Views, held_of, number_of, plain_rows}
use Rattle.view_tree.proofs.forest.Forests.{RepresentsPart-within, some_is}
use Rattle.view_tree.proofs.forest.IdLaws.{keys_where-none, search_one}
use Rattle.view_tree.proofs.forest.KeyLaws.{Within, from_within, here, in_after, in_below, located}
use Rattle.view_tree.proofs.forest.PlainLaws.{agree_live, key_where_live, key_where_passes}
use Rattle.view_tree.proofs.nodes.HolderLaws.{held_none, held_one}
use Rattle.view_tree.proofs.nodes.NodeReads.{is_tree, node_of, represents_for}
use Rattle.view_tree.proofs.orders.ListLaws.{IsAmong, length-each}
use Rattle.view_tree.proofs.orders.RowLaws.{ChildAt, agree_within, child_there, link_there, numbered_key, parent_among, within_children}
use Rattle.view_tree.proofs.orders.ReportedParents.{said, reported_child}

-- a view that passes a test is counted
pub count_there : (passes : PlainView → Bool) (row : Row) (kids siblings : Forest Row) {tree : Forest Row} → Within (Branch row kids siblings) tree → passes row.view ≡ true → 0 < count_where passes tree
count_there passes row kids siblings here is = rw is (omega arith)
count_there passes row kids siblings (in_below w) is = let more = count_there passes row kids siblings w is in omega arith
count_there passes row kids siblings (in_after w) is = let more = count_there passes row kids siblings w is in omega arith

-- if one view passes, below or after `r`, the sum of the keys of those that do is the one of that side
one_side : (passes : PlainView → Bool) (r : Row) (some others : Forest Row) (key : ℕ) → 0 < count_where passes some
    → (if passes r.view then 1 else 0) + (count_where passes some + count_where passes others) ≡ 1 → (count_where passes some ≡ 1 → keys_where passes some ≡ key)
    → (if passes r.view then r.key else 0) + (keys_where passes some + keys_where passes others) ≡ key
one_side passes r some others key more one is = elim (cases_Bool (passes r.view)) [
  | inl e ↦ absurd (let all : 1 + (count_where passes some + count_where passes others) ≡ 1 = rw e at one in omega arith)
  | inr e ↦
      let all : 0 + (count_where passes some + count_where passes others) ≡ 1 = rw e at one in
      let own = is (omega arith) in
      let none = keys_where-none passes others (omega arith) in
      rw e (omega arith)
]

-- if one view passes, the sum of the keys of those that do is its key
sum_one : (passes : PlainView → Bool) (row : Row) (kids siblings : Forest Row) {tree : Forest Row} → Within (Branch row kids siblings) tree → passes row.view ≡ true → count_where passes tree ≡ 1
    → keys_where passes tree ≡ row.key
sum_one passes row kids siblings here is one =
    let rest : 1 + (count_where passes kids + count_where passes siblings) ≡ 1 = rw is at one in
    let below = keys_where-none passes kids (omega arith) in
    let after = keys_where-none passes siblings (omega arith) in
    rw is (omega arith)
sum_one passes row kids siblings (in_below {row = r} {kids = b} {siblings = a} w) is one =
    one_side passes r b a row.key (count_there passes row kids siblings w is) one (λ one. sum_one passes row kids siblings w is one)
sum_one passes row kids siblings (in_after {row = r} {kids = b} {siblings = a} w) is one =
    let all : (if passes r.view then 1 else 0) + (count_where passes b + count_where passes a) ≡ 1 = one in
    let sum = one_side passes r a b row.key (count_there passes row kids siblings w is) (omega arith) (λ one. sum_one passes row kids siblings w is one) in
    omega arith

-- the view that a table gives for an id with one view is the only one
pub only_holder : (views : Views) (id : ℕ) (held : Holders) → id ≢ 0 → holders_of id views.tree ≡ Some held → held.count ≡ 1
    → ((key : ℕ) → IsLive views key → key < 2 ^ 64) → ((key : ℕ) → count_of_key key views.tree ≤ 1) → IsOnlyHolder views held.sum id
only_holder views id held named is one small keys =
    let all = held_one id (count_where (has_id id) views.tree) (keys_where (has_id id) views.tree) held named is one in
    let there = search_one id views.tree held named is one small in
    let live = key_where_live (has_id id) views.tree held.sum there in
    record {
      named = named;
      live = live;
      own = eqb-true (head_view (part_from held.sum views.tree)).facts.id id (key_where_passes (has_id id) views.tree held.sum there (keys held.sum));
      alone = λ key there same.
          let f = located key views.tree there in
          let passes : has_id id f.row.view ≡ true = eq-eqb f.row.view.facts.id id (ap (λ part. (head_view part).facts.id) (sym f.is) ∙ same) in
          let sum = sum_one (has_id id) f.row f.kids f.siblings f.within passes all.0 in
          let fits = small key there in
          let own = f.key_is in
          let held_sum = all.1 in
          omega arith;
    }

-- the last place that passes, or none does
pub last_cases : (passes : ℕ → Bool) (count : ℕ) → ((last_below passes count ≡ None) × ((place : ℕ) → place < count → passes place ≡ false))
    ⊎ ((place : ℕ) × (place < count) × (passes place ≡ true) × (last_below passes count ≡ Some place))
last_cases passes zero = inl (refl, λ place small. absurd (omega arith))
last_cases passes (suc count) = elim (cases_Bool (passes count)) [
  | inl e ↦ inr (count, omega arith, e, rw e refl)
  | inr e ↦ elim (last_cases passes count) [
    | inl none ↦ inl (
      rw e none.0,
      λ place small. elim (cases_lt place count) [
        | inl lt ↦ none.1 place lt
        | inr le ↦ let same : place ≡ count = omega arith in rw same e
      ],
    )
    | inr some ↦ inr (some.0, (let less = some.1 in omega arith), some.2, rw e some.3)
  ]
]

-- a child among others has a place, and the view at a place is among them
pub kid_place : (held : ℕ → Held) (number : ℕ) (list : Forest Row) → IsAmong number (plain_rows held list)
    → (place : ℕ) × (place < length (links_in (views_of list))) × ((head_view (siblings_from place list)).number ≡ number)
kid_place held number Nothing none = absurd none
kid_place held number (Branch row kids siblings) (inl is) = (0, omega arith, is)
kid_place held number (Branch row kids siblings) (inr more) = let rest = kid_place held number siblings more in (suc rest.0, (let less = rest.1 in omega arith), rest.2)

kid_among : (held : ℕ → Held) (number : ℕ) (list : Forest Row) (place : ℕ) → place < length (links_in (views_of list)) → (head_view (siblings_from place list)).number ≡ number
    → IsAmong number (plain_rows held list)
kid_among held number Nothing place small is = absurd (omega arith)
kid_among held number (Branch row kids siblings) zero small is = inl is
kid_among held number (Branch row kids siblings) (suc place) small is = inr (kid_among held number siblings place (omega arith) is)

module _ (a : Inside) (views : Views) (view only id : ℕ) (reported : Option ℕ) (planted : IsPlanted a) (e : value_of a ≡ views) (live : IsLive views view) (holder : IsOnlyHolder views only id)
    (path : MatchOption reported (ancestors only views.tree ≡ []) (λ parent. ancestors only views.tree ≡ parent ∷ ancestors parent views.tree)) where
  abbrev kids : Forest Row
  kids = children_of_first (part_from view views.tree)

  abbrev links : List Link
  links = links_in (views_of kids)

  abbrev passes : ℕ → Bool
  passes place = (get_or links place no_link).id == id

  is : IsTree views
  is = is_tree a views planted e

  child : (place : ℕ) → place < length links → ChildAt views kids place
  child place small = child_there views kids place is (within_children views view live) (let size = length-each link_of (views_of kids) in omega arith)

  id_at : (place : ℕ) (small : place < length links) → (get_or links place no_link).id ≡ (head_view (part_from (child place small).key views.tree)).facts.id
  id_at place small = ap (λ (link : Link). link.id) (link_there kids place small) ∙ ap (λ part. (head_view part).facts.id) (sym (child place small).part)

  -- a child that has the id is the only view that does
  same_key : (place : ℕ) (small : place < length links) → passes place ≡ true → (child place small).key ≡ only
  same_key place small has = holder.alone (child place small).key (child place small).live (sym (id_at place small) ∙ eqb-true (get_or links place no_link).id id has)

  last_is : last_with_id links id ≡ last_below passes (length links)
  last_is = rw (ne_eqb id 0 holder.named) refl

  pub when_child : reported ≡ Some view → option_and_then (λ place. first_key (siblings_from place kids)) (last_with_id links id) ≡ Some only
  when_child parent = elim (last_cases passes (length links)) [
    | inr some ↦
        let first : first_key (siblings_from some.0 kids) ≡ Some only = (child some.0 some.1).first ∙ ap (λ k. Some k) (same_key some.0 some.1 some.2) in
        rw (last_is, some.3) first
    | inl none ↦ absurd (
        let found = reported_child a views only reported planted e holder.live path view parent in
        let own : found.row.key ≡ view = sym (some_is found.is) in
        let below : kids ≡ found.kids = ap children_of_first (subst (λ k. part_from k views.tree ≡ Branch found.row found.kids found.siblings) own
        (from_within found.row found.kids found.siblings found.within (is.keys found.row.key))) in
        let place = kid_place (held_of views) (number_of views only) kids (subst (λ list. IsAmong (number_of views only) (plain_rows (held_of views) list)) (sym below) found.among) in
        let there = child place.0 place.1 in
        let f = located there.key views.tree there.live in
        let number : f.row.view.number ≡ number_of views only = ap (λ part. (head_view part).number) (sym f.is ∙ there.part) ∙ place.2 in
        let key : there.key ≡ only = sym f.key_is ∙ numbered_key views only f.row f.kids f.siblings is holder.live f.within number in
        let has : passes place.0 ≡ true = eq-eqb (get_or links place.0 no_link).id id (id_at place.0 place.1 ∙ ap (λ k. (head_view (part_from k views.tree)).facts.id) key ∙ holder.own) in
        true≢false (sym has ∙ none.1 place.0 place.1))
  ]

  pub when_not : (reported ≡ Some view → ⊥) → option_and_then (λ place. first_key (siblings_from place kids)) (last_with_id links id) ≡ None
  when_not away = elim (last_cases passes (length links)) [
    | inl none ↦ rw (last_is, none.0) refl
    | inr some ↦ absurd (
        let there = child some.0 some.1 in
        let key = same_key some.0 some.1 some.2 in
        let number : (head_view (siblings_from some.0 kids)).number ≡ number_of views only = ap (λ part. (head_view part).number) (sym there.part) ∙ ap (number_of views) key in
        let among = kid_among (held_of views) (number_of views only) kids some.0 some.1 number in
        let f = located view views.tree live in
        let o = node_of a views only planted e holder.live in
        let was_represented = (RepresentsPart-within (plain_node_at a.nodes) None None f.within (represents_for a views planted e).represented).represented in
        let agree = agree_within only (number_of views only) f.row f.kids f.siblings f.within (agree_live views only is holder.live) in
        let above : o.says.node.links.parent ≡ Some f.row.key = parent_among (plain_node_at a.nodes) (held_of views) only (number_of views only) (plain_node_of o.says.node) (Some f.row.key) None f.kids
        (ap plain_node_in o.says.at) was_represented.1 agree.1 (subst (λ part. IsAmong (number_of views only) (plain_rows (held_of views) (children_of_first part))) f.is among) in
        away (said a views only reported planted e holder.live path ∙ above ∙ ap (λ k. Some k) f.key_is))
  ]

-- no view has an id of which the table has nothing
pub nobodys : (views : Views) (id : ℕ) → holders_of id views.tree ≡ None → IsNobodys views id
nobodys views id none = λ named key live same.
    let zero = held_none id (count_where (has_id id) views.tree) (keys_where (has_id id) views.tree) named none in
    let f = located key views.tree live in
    let passes : has_id id f.row.view ≡ true = eq-eqb f.row.view.facts.id id (ap (λ part. (head_view part).facts.id) (sym f.is) ∙ same) in
    let more = count_there (has_id id) f.row f.kids f.siblings f.within passes in
    omega arith

pub no_child : (views : Views) (view id : ℕ) → IsTree views → IsLive views view → IsNobodys views id
    → option_and_then (λ place. first_key (siblings_from place (children_of_first (part_from view views.tree)))) (last_with_id (links_in (views_of (children_of_first (part_from view views.tree)))) id) ≡ None
no_child views view id tree live nobodys =
    let kids = children_of_first (part_from view views.tree) in
    let links = links_in (views_of kids) in
    elim (cases_eq id 0) [
      | inl same ↦ rw same refl
      | inr named ↦ elim (last_cases (λ place. (get_or links place no_link).id == id) (length links)) [
        | inl none ↦ rw (ne_eqb id 0 named, none.0) refl
        | inr some ↦
            let there = child_there views kids some.0 tree (within_children views view live) (let size = length-each link_of (views_of kids) in let less = some.1 in omega arith) in
            let own = ap (λ (link : Link). link.id) (link_there kids some.0 some.1) ∙ ap (λ part. (head_view part).facts.id) (sym there.part) in
            absurd (nobodys named there.key there.live (sym own ∙ eqb-true (get_or links some.0 no_link).id id some.2))
      ]
    ]
