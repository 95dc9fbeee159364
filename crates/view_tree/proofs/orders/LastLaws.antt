-- The last child with an id, by a number that those of the children with the id do not exceed.
use Rattle.std.proofs.Common.{◌≡◌, ◌≢◌, ℕ, zero, suc, ◌<◌, ◌≤◌, Bool, true, List, ◌∷◌, length, get_or, Some, None, refl, sym, ◌∙◌, ap, subst, arith, inl, inr}
use Rattle.std.proofs.lemmas.Bool.{cases_Bool, cases_eq, eq-eqb, eqb-true, ne_eqb, true≢false}
use Rattle.std.specs.Option.{option_and_then}
use Rattle.std.specs.Prelude.{◌==◌}
use Rattle.view_model.specs.Cycles.{link_of, links_in, numbers_in}
use Rattle.view_model.specs.Forest.{Forest, Branch}
use Rattle.view_model.specs.SiblingRules.{last_below, last_with_id, no_link}
use Rattle.view_model.specs.declared.relative.Link.{Link}
use Rattle.view_tree.specs.declared.tree.ViewTree.TheInside.{Inside}
use Rattle.sibling_orders.specs.Latest.{IsLatest}
use Rattle.view_tree.specs.node.Nodes.{IsPlanted, value_of}
use Rattle.view_tree.specs.Rows.{Row, ancestors, children_of_first, first_key, head_view, part_from, siblings_from, views_of}
use Rattle.view_tree.specs.Views.{IsLive, IsTree, Views, held_of, number_of, plain_rows}
use Rattle.view_tree.proofs.forest.Forests.{some_is}
use Rattle.view_tree.proofs.forest.KeyLaws.{from_within, located}
use Rattle.view_tree.proofs.nodes.NodeReads.{is_tree}
use Rattle.view_tree.proofs.orders.IdPlaces.{kid_place, last_cases}
use Rattle.sibling_orders.proofs.LatestLaws.{place_up}
use Rattle.view_tree.proofs.orders.ListLaws.{IsAmong, length-each}
use Rattle.view_tree.proofs.orders.ReportedParents.{reported_child}
use Rattle.view_tree.proofs.orders.RowLaws.{ChildAt, child_there, link_there, numbered_key, within_children}

-- no later place passes
last_most : (passes : ℕ → Bool) (count p q : ℕ) → last_below passes count ≡ Some p → q < count → passes q ≡ true → q ≤ p
last_most passes zero p q is small has = absurd (omega arith)
last_most passes (suc count) p q is small has = elim (cases_Bool (passes count)) [
  | inl e ↦ let last : count ≡ p = some_is (rw e at is) in omega arith
  | inr e ↦ elim (cases_eq q count) [
    | inl same ↦ absurd (true≢false (sym has ∙ ap passes same ∙ e))
    | inr ne ↦ last_most passes count p q (rw e at is) (omega arith) has
  ]
]

-- no child has an id
pub none_reached : (id : ℕ) (kids : Forest Row) → id ≢ 0 → IsLatest id (links_in (views_of kids)) (numbers_in (views_of kids)) None
    → None ≡ option_and_then (λ place. first_key (siblings_from place kids)) (last_with_id (links_in (views_of kids)) id)
none_reached id kids named latest =
    let links = links_in (views_of kids) in
    elim (last_cases (λ place. (get_or links place no_link).id == id) (length links)) [
      | inl none ↦ rw (ne_eqb id 0 named, none.0) refl
      | inr some ↦ absurd (latest.reached named some.0 some.1 (eqb-true (get_or links some.0 no_link).id id some.2))
    ]

module _ (a : Inside) (views : Views) (view kid id number : ℕ) (planted : IsPlanted a) (e : value_of a ≡ views) (live : IsLive views view) (there : IsLive views kid) (named : id ≢ 0)
    (same : number_of views kid ≡ number) (own : (head_view (part_from kid views.tree)).facts.id ≡ id) (path : ancestors kid views.tree ≡ view ∷ ancestors view views.tree)
    (latest : IsLatest id (links_in (views_of (children_of_first (part_from view views.tree)))) (numbers_in (views_of (children_of_first (part_from view views.tree)))) (Some number)) where
  abbrev kids : Forest Row
  kids = children_of_first (part_from view views.tree)

  abbrev links : List Link
  links = links_in (views_of kids)

  abbrev numbers : List ℕ
  numbers = numbers_in (views_of kids)

  abbrev passes : ℕ → Bool
  passes place = (get_or links place no_link).id == id

  is : IsTree views
  is = is_tree a views planted e

  size : length links ≡ length numbers
  size = length-each link_of (views_of kids)

  child : (place : ℕ) → place < length links → ChildAt views kids place
  child place small = child_there views kids place is (within_children views view live) (let all = size in omega arith)

  -- the view is a child at a place
  record IsChildAt : Type 0 where
    place : ℕ
    small : place < length links
    first : first_key (siblings_from place kids) ≡ Some kid
    has_number : get_or numbers place 0 ≡ number
    has_id : passes place ≡ true

  found : IsChildAt
  found =
      let parent = reported_child a views kid (Some view) planted e there path view refl in
      let key : parent.row.key ≡ view = sym (some_is parent.is) in
      let below : kids ≡ parent.kids = ap children_of_first (subst (λ k. part_from k views.tree ≡ Branch parent.row parent.kids parent.siblings) key
      (from_within parent.row parent.kids parent.siblings parent.within (is.keys parent.row.key))) in
      let place = kid_place (held_of views) (number_of views kid) kids (subst (λ list. IsAmong (number_of views kid) (plain_rows (held_of views) list)) (sym below) parent.among) in
      let at = child place.0 place.1 in
      let f = located at.key views.tree at.live in
      let is_number : f.row.view.number ≡ number_of views kid = ap (λ part. (head_view part).number) (sym f.is ∙ at.part) ∙ place.2 in
      let same_key : at.key ≡ kid = sym f.key_is ∙ numbered_key views kid f.row f.kids f.siblings is there f.within is_number in
      let is_id : (get_or links place.0 no_link).id ≡ id =
      ap (λ (link : Link). link.id) (link_there kids place.0 place.1) ∙ ap (λ part. (head_view part).facts.id) (sym at.part) ∙ ap (λ k. (head_view (part_from k views.tree)).facts.id) same_key ∙ own in
      record {
        place = place.0;
        small = place.1;
        first = at.first ∙ ap (λ k. Some k) same_key;
        has_number = sym at.number ∙ ap (number_of views) same_key ∙ same;
        has_id = eq-eqb (get_or links place.0 no_link).id id is_id;
      }

  pub last_reached : Some kid ≡ option_and_then (λ place. first_key (siblings_from place kids)) (last_with_id links id)
  last_reached = elim (last_cases passes (length links)) [
    | inl none ↦ absurd (true≢false (sym found.has_id ∙ none.1 found.place found.small))
    | inr some ↦
        let all = size in
        let small = some.1 in
        let up = last_most passes (length links) some.0 found.place some.3 found.small found.has_id in
        let under = latest.reached named some.0 some.1 (eqb-true (get_or links some.0 no_link).id id some.2) in
        let own_number = found.has_number in
        let down = place_up numbers some.0 found.place latest.rising (omega arith) (omega arith) in
        let last : some.0 ≡ found.place = omega arith in
        rw (ne_eqb id 0 named, some.3) (sym (ap (λ place. first_key (siblings_from place kids)) last ∙ found.first))
  ]
