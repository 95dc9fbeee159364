-- Numbers that rise, and those that the numbers of children with an id do not exceed.
use Rattle.std.proofs.Common.{◌≡◌, ◌≢◌, ℕ, zero, suc, ◌<◌, ◌≤◌, ◌+◌, true, List, [], ◌∷◌, ◌++◌, length, length-append, get_or, Option, sym, ◌∙◌, ap, subst, arith, inl, inr}
use Rattle.std.proofs.lemmas.Bool.{cases_Bool, cases_eq, cases_lt, eq-eqb, ne_eqb}
use Rattle.std.proofs.lemmas.List.{get_or_append_left, get_or_push}
use Rattle.std.proofs.lemmas.List.Edits.{length-remove}
use Rattle.std.proofs.lemmas.Option.{slice_get-get_or}
use Rattle.std.specs.List.{remove}
use Rattle.std.specs.Prelude.{◌==◌, ◌-◌, slice_get}
use Rattle.view_model.specs.declared.relative.Link.{Link}
use Rattle.view_model.specs.Cycles.{link_of, links_in, numbers_in}
use Rattle.view_model.specs.Forest.{Forest, Nothing, Branch, changed_where}
use Rattle.view_model.specs.PlainTree.{PlainView}
use Rattle.view_model.specs.SiblingRules.{no_link}
use Rattle.sibling_orders.specs.Latest.{AreReached, AreRising, HasNoted, IsLatest, IsReached, IsReachedIn}
use Rattle.sibling_orders.specs.Ordering.{IsLatestIn, PlainGroup}
use Rattle.sibling_orders.specs.Indexes.{IsStraight, passing}
use Rattle.sibling_orders.proofs.IndexLaws.{passes, place_passing}

-- one number before others, or after them
pub rising_on : (first : ℕ) (kids : List ℕ) → ((p : ℕ) → p < length kids → first < get_or kids p 0) → AreRising kids → AreRising (first ∷ kids)
rising_on first kids less rising p zero lower small = absurd (omega arith)
rising_on first kids less rising zero (suc q) lower small = less q (omega arith)
rising_on first kids less rising (suc p) (suc q) lower small = rising p q (omega arith) (omega arith)

pub rising_with : (kids : List ℕ) (number : ℕ) → ((p : ℕ) → p < length kids → get_or kids p 0 < number) → AreRising kids → AreRising (kids ++ number ∷ [])
rising_with kids number less rising p q lower small =
    let size = length-append kids (number ∷ []) in
    let first = get_or_append_left kids (number ∷ []) 0 p (omega arith) in
    elim (cases_lt q (length kids)) [
      | inl lt ↦
          let second = get_or_append_left kids (number ∷ []) 0 q lt in
          let rises = rising p q lower lt in
          omega arith
      | inr le ↦
          let second = get_or_push kids number 0 q (let end : q ≡ length kids = omega arith in sym end) in
          let under = less p (omega arith) in
          omega arith
    ]

passing_up : (i p q : ℕ) → p < q → passing i p < passing i q
passing_up i p q lower = elim (passes i p) [ inl a ↦ elim (passes i q) [ inl b ↦ omega arith | inr b ↦ omega arith ] | inr a ↦ elim (passes i q) [ inl b ↦ omega arith | inr b ↦ omega arith ] ]

passing_small : (i q n : ℕ) → i < n → q + 1 < n + 0 → passing i q < n
passing_small i q n inside small = elim (passes i q) [ inl a ↦ omega arith | inr a ↦ omega arith ]

pub rising_remove : (kids : List ℕ) (i : ℕ) → i < length kids → AreRising kids → AreRising (remove kids i)
rising_remove kids i inside rising p q lower small =
    let size = length-remove kids i inside in
    let first = place_passing kids i p inside in
    let second = place_passing kids i q inside in
    let rises = rising (passing i p) (passing i q) (passing_up i p q lower) (passing_small i q (length kids) inside (omega arith)) in
    omega arith

-- places, by their numbers
pub place_less : (kids : List ℕ) (p q : ℕ) → AreRising kids → p < length kids → get_or kids p 0 < get_or kids q 0 → p < q
place_less kids p q rising p_in less = elim (cases_lt p q) [
  | inl lt ↦ lt
  | inr le ↦ elim (cases_eq p q) [
    | inl same ↦ absurd (let equal = ap (λ k. get_or kids k 0) same in omega arith)
    | inr ne ↦ absurd (let rises = rising q p (omega arith) p_in in omega arith)
  ]
]

pub place_up : (kids : List ℕ) (p q : ℕ) → AreRising kids → p < length kids → get_or kids p 0 ≤ get_or kids q 0 → p ≤ q
place_up kids p q rising p_in less = elim (cases_lt q p) [
  | inl lt ↦ absurd (let rises = rising q p lt p_in in omega arith)
  | inr le ↦ le
]

-- what a table has for the ids of some children
pub reached_on : (latest : List (ℕ × ℕ)) (link : Link) (links : List Link) (kid : ℕ) (kids : List ℕ) → (link.id ≢ 0 → IsReachedIn latest link.id kid) → AreReached latest links kids
    → AreReached latest (link ∷ links) (kid ∷ kids)
reached_on latest link links kid kids own others zero small named = own named
reached_on latest link links kid kids own others (suc p) small named = others p (omega arith) named

pub reached_more : (id number : ℕ) (old new : List (ℕ × ℕ)) (links : List Link) (kids : List ℕ) → HasNoted id number old new → AreReached old links kids → AreReached new links kids
reached_more id number old new links kids noted reached p small named = noted.others (get_or links p no_link).id (get_or kids p 0) (reached p small named)

pub reached_changed : (number : ℕ) (link : Link) (change : PlainView → PlainView) (list : Forest PlainView) (old new : List (ℕ × ℕ)) → ((view : PlainView) → (change view).number ≡ view.number)
    → ((view : PlainView) → link_of (change view) ≡ link) → HasNoted link.id number old new → AreReached old (links_in list) (numbers_in list)
    → AreReached new (links_in (changed_where (λ (view : PlainView). view.number == number) change list)) (numbers_in (changed_where (λ (view : PlainView). view.number == number) change list))
reached_changed number link change Nothing old new same reads noted reached = λ p small named. absurd (omega arith)
reached_changed number link change (Branch view below after) old new same reads noted reached =
    let rest : AreReached old (links_in after) (numbers_in after) = λ p small named. reached (suc p) (omega arith) named in
    elim (cases_eq view.number number) [
      | inl is ↦ rw (eq-eqb view.number number is)
          (reached_on new (link_of (change view)) (links_in after) (change view).number (numbers_in after)
          (subst (λ (l : Link). l.id ≢ 0 → IsReachedIn new l.id (change view).number) (sym (reads view))
          (subst (λ n. link.id ≢ 0 → IsReachedIn new link.id n) (sym (same view ∙ is)) noted.own))
          (reached_more link.id number old new (links_in after) (numbers_in after) noted rest))
      | inr isnt ↦ rw (ne_eqb view.number number isnt)
          (reached_on new (link_of view) (links_in (changed_where (λ (view : PlainView). view.number == number) change after)) view.number
          (numbers_in (changed_where (λ (view : PlainView). view.number == number) change after))
          (λ named. noted.others view.facts.id view.number (reached 0 (omega arith) named))
          (reached_changed number link change after old new same reads noted rest))
    ]

-- a child without an id is added
pub reached_with : (latest : List (ℕ × ℕ)) (links : List Link) (link : Link) (kids : List ℕ) (number : ℕ) → length kids ≡ length links → link.id ≡ 0 → AreReached latest links kids
    → AreReached latest (links ++ link ∷ []) (kids ++ number ∷ [])
reached_with latest links link kids number alike id reached p small named =
    let size = length-append links (link ∷ []) in
    elim (cases_lt p (length links)) [
      | inl lt ↦
          let here = get_or_append_left links (link ∷ []) no_link p lt in
          let kid = get_or_append_left kids (number ∷ []) 0 p (omega arith) in
          subst (λ n. IsReachedIn latest (get_or (links ++ link ∷ []) p no_link).id n) (sym kid)
          (subst (λ (l : Link). IsReachedIn latest l.id (get_or kids p 0)) (sym here) (reached p lt (λ zero. named (ap (λ (l : Link). l.id) here ∙ zero))))
      | inr le ↦
          let here = get_or_push links link no_link p (let end : p ≡ length links = omega arith in sym end) in
          absurd (named (ap (λ (l : Link). l.id) here ∙ id))
    ]

-- a number for an id, in a group that is right
reached_last : (kids : List ℕ) (p : ℕ) → AreRising kids → p < length kids → IsReached (get_or kids p 0) (slice_get kids (length kids - 1))
reached_last kids p rising small =
    subst (IsReached (get_or kids p 0)) (sym (slice_get-get_or kids (length kids - 1) 0 (omega arith)))
    (elim (cases_eq p (length kids - 1)) [
      | inl same ↦ let equal = ap (λ k. get_or kids k 0) same in omega arith
      | inr ne ↦ let rises = rising p (length kids - 1) (omega arith) (omega arith) in omega arith
    ])

pub latest_reached : (id : ℕ) (group : PlainGroup) (links : List Link) (kids : List ℕ) (latest : Option ℕ) → AreRising kids → group.kids ≡ kids → length links ≡ length kids
    → (group.complete ≡ true → AreReached group.latest links kids) → IsLatestIn id group latest → IsLatest id links kids latest
latest_reached id group links kids latest rising own size reached is = record {
  rising = rising;
  reached = λ named p small has. elim (cases_Bool group.complete) [
    | inl e ↦
        subst (IsReached (get_or kids p 0)) (sym (is.noted e))
        (subst (λ i. IsReachedIn group.latest i (get_or kids p 0)) has (reached e p small (λ zero. named (sym has ∙ zero))))
    | inr e ↦
        subst (IsReached (get_or kids p 0)) (sym (is.last e ∙ ap (λ (list : List ℕ). slice_get list (length list - 1)) own))
        (reached_last kids p rising (omega arith))
  ];
}

-- an order with one more place at its end
pub straight_with : (order : List ℕ) (place : ℕ) → length order ≡ place → IsStraight order → IsStraight (order ++ place ∷ [])
straight_with order place size straight p small =
    let all = length-append order (place ∷ []) in
    elim (cases_lt p (length order)) [
      | inl lt ↦ get_or_append_left order (place ∷ []) 0 p lt ∙ straight p lt
      | inr le ↦ let end : p ≡ length order = omega arith in get_or_push order place 0 p (sym end) ∙ sym size ∙ sym end
    ]
