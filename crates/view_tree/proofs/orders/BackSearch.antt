-- A search among the children of a view, from the last one to the first.
use Rattle.std.proofs.Common.{◌≡◌, ℕ, zero, suc, ◌+◌, ◌-◌, ◌<◌, ◌≤◌, Bool, true, false, length, get_or, Option, Some, None, refl, sym, ◌∙◌, ap, subst, arith, inl, inr}
use Rattle.std.proofs.lemmas.Bool.{cases_Bool, ne_eqb}
use Rattle.std.specs.Option.{option_and_then}
use Rattle.std.specs.Prelude.{IfSome, ◌==◌, ◌≢◌, if◌then◌else◌}
use Rattle.view_model.specs.Cycles.{links_in}
use Rattle.view_model.specs.Forest.{Forest, Nothing, Branch, count_of}
use Rattle.view_model.specs.PlainTree.{PlainView}
use Rattle.view_model.specs.SiblingRules.{last_below, last_with_id, no_link}
use Rattle.view_tree.proofs.forest.BackwardWalks.{IsChildOf, before, following}
use Rattle.view_tree.specs.node.Nodes.{has_id}
use Rattle.view_tree.specs.Rows.{At_first, Later, Later_on, Row, children_of_first, count_of_key, first_key, head_view, last_key, part_from, previous_key, siblings_from, views_of}
use Rattle.view_tree.proofs.forest.Backwards.{count-later, count_of_key-later, from_later, kids-within, last_is, last_none, later-within, previous_in, previous_within, within_within}
use Rattle.view_tree.proofs.forest.KeyLaws.{Within, located, count_of_key-within, times_self}

-- a last place, once there is one more before all
abbrev pub one_before : Bool → Option ℕ → Option ℕ
one_before passes None = if passes then Some 0 else None
one_before passes (Some place) = Some (suc place)

-- the place of the last view of a list that passes a test
abbrev pub last_place : (PlainView → Bool) → Forest Row → Option ℕ
last_place passes Nothing = None
last_place passes (Branch row kids siblings) = one_before (passes row.view) (last_place passes siblings)

last_below-first : (passes : ℕ → Bool) (count : ℕ) → last_below passes (suc count) ≡ one_before (passes 0) (last_below (λ place. passes (suc place)) count)
last_below-first passes zero = refl
last_below-first passes (suc count) = elim (cases_Bool (passes (suc count))) [
  | inl e ↦ rw e refl
  | inr e ↦ rw e (last_below-first passes count)
]

last_place-is : (id : ℕ) (list : Forest Row)
    → last_place (has_id id) list ≡ last_below (λ place. (get_or (links_in (views_of list)) place no_link).id == id) (length (links_in (views_of list)))
last_place-is id Nothing = refl
last_place-is id (Branch row kids siblings) =
    ap (one_before (has_id id row.view)) (last_place-is id siblings)
    ∙ sym (last_below-first (λ place. (get_or (links_in (views_of (Branch row kids siblings))) place no_link).id == id) (length (links_in (views_of siblings))))

last_with_id-is : (id : ℕ) (list : Forest Row) → id ≢ 0 → last_with_id (links_in (views_of list)) id ≡ last_place (has_id id) list
last_with_id-is id list some = rw (ne_eqb id 0 some) (sym (last_place-is id list))

-- the last view that passes
record IsLastPlace (passes : PlainView → Bool) (key : ℕ) (list : Forest Row) : Type 0 where
  place : ℕ
  last : last_place passes list ≡ Some place
  first : first_key (siblings_from place list) ≡ Some key

found_from : (passes : PlainView → Bool) (row : Row) (kids siblings : Forest Row) {list : Forest Row} → Later (Branch row kids siblings) list
    → passes row.view ≡ true → last_place passes siblings ≡ None → IsLastPlace passes row.key list
found_from passes row kids siblings At_first is none = record { place = 0; last = rw (none, is) refl; first = refl }
found_from passes row kids siblings (Later_on l) is none =
    let more = found_from passes row kids siblings l is none in
    record { place = suc more.place; last = rw more.last refl; first = more.first }

-- so far, no child after `next` passes
pub record BackSearch (passes : PlainView → Bool) (tree list : Forest Row) (next : Option ℕ) : Type 0 where
  pub kid : IfSome next (IsChildOf tree list)
  pub none : last_place passes (following next list tree) ≡ None

pub search_start : (passes : PlainView → Bool) (tree : Forest Row) (view : ℕ) (last : Option ℕ) → ((key : ℕ) → count_of_key key tree ≤ 1) → 0 < count_of_key view tree
    → last ≡ last_key (children_of_first (part_from view tree)) → BackSearch passes tree (children_of_first (part_from view tree)) last
search_start passes tree view None once live e =
    record { kid = tt; none = rw (last_none (children_of_first (part_from view tree)) (sym e)) refl }
search_start passes tree view (Some key) once live e =
    let list = children_of_first (part_from view tree) in
    let l = last_is list key (sym e) in
    let w = kids-within view tree live in
    let from_is : part_from key tree ≡ Branch l.row l.kids Nothing =
    ap (λ k. part_from k tree) (sym l.key_is) ∙ from_later tree list l.row l.kids Nothing once w l.there in
    let n = count_of_key-within l.row.key (within_within (later-within l.there) w) in
    let live_row : 0 < count_of_key l.row.key tree = let self = times_self l.row l.kids Nothing in omega arith in
    record {
      kid = record { live = subst (λ k. 0 < count_of_key k tree) l.key_is live_row; within = subst (λ t. Later t list) (sym from_is) l.there };
      none = rw from_is refl;
    }

-- one child further
pub record SearchTo (passes : PlainView → Bool) (tree : Forest Row) (view kid : ℕ) (next : Option ℕ) : Type 0 where
  pub search : BackSearch passes tree (children_of_first (part_from view tree)) next
  pub fewer : before next (children_of_first (part_from view tree)) tree < before (Some kid) (children_of_first (part_from view tree)) tree

pub search_on : (passes : PlainView → Bool) (tree : Forest Row) (view kid : ℕ) (next : Option ℕ) → ((key : ℕ) → count_of_key key tree ≤ 1) → 0 < count_of_key view tree
    → BackSearch passes tree (children_of_first (part_from view tree)) (Some kid) → passes (head_view (part_from kid tree)) ≡ false → next ≡ previous_key None kid tree
    → SearchTo passes tree view kid next
search_on passes tree view kid next keys live search fails previous =
    let k : IsChildOf tree (children_of_first (part_from view tree)) kid = search.kid in
    let list = children_of_first (part_from view tree) in
    let f = located kid tree k.live in
    let v = located view tree live in
    let l : Later (Branch f.row f.kids f.siblings) list = subst (λ t. Later t list) f.is k.within in
    let inside = kids-within view tree live in
    let w : Within (Branch v.row list v.siblings) tree = subst (λ t. Within (Branch v.row t v.siblings) tree) (sym (ap children_of_first v.is)) v.within in
    let once : (key : ℕ) → count_of_key key list ≤ 1 = λ key. let h = keys key in let i = count_of_key-within key inside in omega arith in
    let there : 0 < count_of_key kid list = let s = times_self f.row f.kids f.siblings in subst (λ k. 0 < count_of_key k list) f.key_is (let h = count_of_key-later f.row.key l in omega arith) in
    let within_list : previous_key None kid tree ≡ previous_key None f.row.key list = previous_within kid v.row list v.siblings None w keys there ∙ ap (λ k. previous_key None k list) (sym f.key_is) in
    let rest : last_place passes f.siblings ≡ None = rw f.is at search.none in
    let own : passes f.row.view ≡ false = rw f.is at fails in
    let all : last_place passes (Branch f.row f.kids f.siblings) ≡ None = rw (rest, own) refl in
    elim (previous_in f.row f.kids f.siblings None l once) [
      | inl p ↦
          subst (SearchTo passes tree view kid) (sym (previous ∙ within_list ∙ p.0))
          (let few = count-later k.within in
          record {
            search = record { kid = tt; none = subst (λ t. last_place passes t ≡ None) p.1 all };
            fewer = omega arith;
          })
      | inr p ↦
          subst (SearchTo passes tree view kid) (sym (previous ∙ within_list ∙ p.found_is))
          (let from_is : part_from p.row.key tree ≡ Branch p.row p.kids (Branch f.row f.kids f.siblings) = from_later tree list p.row p.kids (Branch f.row f.kids f.siblings) keys inside p.there in
          let few = count-later p.there in
          let count : count_of (part_from p.row.key tree) ≡ 1 + (count_of p.kids + count_of (Branch f.row f.kids f.siblings)) = ap count_of from_is in
          let same : count_of (part_from kid tree) ≡ count_of (Branch f.row f.kids f.siblings) = ap count_of f.is in
          let n = count_of_key-within p.row.key (within_within (later-within p.there) inside) in
          let live_row : 0 < count_of_key p.row.key tree = let self = times_self p.row p.kids (Branch f.row f.kids f.siblings) in omega arith in
          record {
            search = record {
              kid = record { live = live_row; within = subst (λ t. Later t list) (sym from_is) p.there };
              none = rw from_is all;
            };
            fewer = omega arith;
          })
    ]

-- what the search finds
abbrev pub IsLastWithId : ℕ → Forest Row → Option ℕ → Type 0
IsLastWithId id list result = result ≡ option_and_then (λ place. first_key (siblings_from place list)) (last_with_id (links_in (views_of list)) id)

pub search_found : (id : ℕ) (tree list : Forest Row) (kid : ℕ) → id ≢ 0 → BackSearch (has_id id) tree list (Some kid) → has_id id (head_view (part_from kid tree)) ≡ true
    → IsLastWithId id list (Some kid)
search_found id tree list kid some search is =
    let k : IsChildOf tree list kid = search.kid in
    let f = located kid tree k.live in
    let l : Later (Branch f.row f.kids f.siblings) list = subst (λ t. Later t list) f.is k.within in
    let own : has_id id f.row.view ≡ true = rw f.is at is in
    let rest : last_place (has_id id) f.siblings ≡ None = rw f.is at search.none in
    let found = found_from (has_id id) f.row f.kids f.siblings l own rest in
    ap (λ k. Some k) (sym f.key_is) ∙ sym found.first
    ∙ ap (option_and_then (λ place. first_key (siblings_from place list))) (sym (last_with_id-is id list some ∙ found.last))

pub search_ended : (id : ℕ) (tree list : Forest Row) → id ≢ 0 → BackSearch (has_id id) tree list None → IsLastWithId id list None
search_ended id tree list some search = ap (option_and_then (λ place. first_key (siblings_from place list))) (sym (last_with_id-is id list some ∙ search.none))
