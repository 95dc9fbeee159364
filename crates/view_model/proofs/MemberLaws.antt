-- The members of cycles as they are computed are those of the relation.
use Rattle.std.proofs.Common.{◌≡◌, ◌⊎◌, ℕ, zero, suc, ◌+◌, ◌<◌, ◌≤◌, Bool, true, false, not, ◌&&◌, List, [], ◌∷◌, length, refl, sym, ◌∙◌, ap, subst, arith, inl, inr}
use Rattle.std.proofs.lemmas.Bool.{and_from, and_parts, cases_Bool, cases_eq, cases_lt, eq-eqb, or_cases, or_left, or_right}
use Rattle.std.proofs.lemmas.List.{get_or_past}
use Rattle.std.specs.List.{filter, list_any, range_with_len}
use Rattle.std.specs.Prelude.{◌==◌, slice_index, slice_index_or}
use Rattle.view_model.specs.declared.relative.Axis.{Axis}
use Rattle.view_model.specs.declared.relative.Link.{Link}
use Rattle.view_model.specs.Orders.{AreMembers, AtOnce, IsAcyclic, Reaches, Through, leads_by, members_of}
use Rattle.view_model.specs.SiblingRules.{leads, names, no_link, sibling_verbs, value_of}

-- one path after the other
pub reach_both : {r : ℕ → ℕ → Bool} {a b c : ℕ} → Reaches r a b → Reaches r b c → Reaches r a c
reach_both (AtOnce is) more = Through is more
reach_both (Through is way) more = Through is (reach_both way more)

module _ (r : ℕ → ℕ → Bool) where
  -- a path by others below the next number goes by that number itself, or not
  by_next : (k a b : ℕ) → leads_by r (suc k) a b ≡ true → (leads_by r k a b ≡ true) ⊎ ((leads_by r k a k ≡ true) × (leads_by r k k b ≡ true))
  by_next k a b is = elim (or_cases (leads_by r k a b) (leads_by r k a k && leads_by r k k b) is) [
    | inl at_once ↦ inl at_once
    | inr around ↦ inr (and_parts (leads_by r k a k) (leads_by r k k b) around)
  ]

  by_fewer : (k a b : ℕ) → leads_by r k a b ≡ true → leads_by r (suc k) a b ≡ true
  by_fewer k a b is = or_left (leads_by r k a b) (leads_by r k a k && leads_by r k k b) is

  by_itself : (k a b : ℕ) → leads_by r k a k ≡ true → leads_by r k k b ≡ true → leads_by r (suc k) a b ≡ true
  by_itself k a b to from = or_right (leads_by r k a b) (leads_by r k a k && leads_by r k k b) (and_from (leads_by r k a k) (leads_by r k k b) to from)

  -- what is computed holds
  pub leads_by-reaches : (k a b : ℕ) → leads_by r k a b ≡ true → Reaches r a b
  leads_by-reaches zero a b is = AtOnce is
  leads_by-reaches (suc k) a b is = elim (by_next k a b is) [
    | inl fewer ↦ leads_by-reaches k a b fewer
    | inr both ↦ reach_both (leads_by-reaches k a k both.0) (leads_by-reaches k k b both.1)
  ]

  -- if a path ends at the next number, or begins there, it goes by fewer
  to_next : (k a : ℕ) → leads_by r (suc k) a k ≡ true → leads_by r k a k ≡ true
  to_next k a is = elim (by_next k a k is) [ inl fewer ↦ fewer | inr both ↦ both.0 ]

  from_next : (k b : ℕ) → leads_by r (suc k) k b ≡ true → leads_by r k k b ≡ true
  from_next k b is = elim (by_next k k b is) [ inl fewer ↦ fewer | inr both ↦ both.1 ]

  pub leads_by-both : (k a c b : ℕ) → c < k → leads_by r k a c ≡ true → leads_by r k c b ≡ true → leads_by r k a b ≡ true
  leads_by-both zero a c b small to from = absurd (omega arith)
  leads_by-both (suc k) a c b small to from = elim (cases_eq c k) [
    | inl is ↦
        let to : leads_by r (suc k) a k ≡ true = rw is at to in
        let from : leads_by r (suc k) k b ≡ true = rw is at from in
        by_itself k a b (to_next k a to) (from_next k b from)
    | inr isnt ↦
        let less : c < k = omega arith in
        elim (by_next k a c to) [
          | inl to ↦ elim (by_next k c b from) [
            | inl from ↦ by_fewer k a b (leads_by-both k a c b less to from)
            | inr both ↦ by_itself k a b (leads_by-both k a c k less to both.0) both.1
          ]
          | inr around ↦ elim (by_next k c b from) [
            | inl from ↦ by_itself k a b around.0 (leads_by-both k k c b less around.1 from)
            | inr both ↦ by_itself k a b around.0 both.1
          ]
        ]
  ]

  at_once_by : (k a b : ℕ) → r a b ≡ true → leads_by r k a b ≡ true
  at_once_by zero a b is = is
  at_once_by (suc k) a b is = by_fewer k a b (at_once_by k a b is)

  module _ (count : ℕ) (inside : (a b : ℕ) → r a b ≡ true → b < count) where
    -- and all that holds is computed
    pub reaches-leads_by : {a b : ℕ} → Reaches r a b → leads_by r count a b ≡ true
    reaches-leads_by (AtOnce is) = at_once_by count _ _ is
    reaches-leads_by (Through is way) = leads_by-both count _ _ _ (inside _ _ is) (at_once_by count _ _ is) (reaches-leads_by way)

-- the rising list of all numbers of a range that pass a test
record AreThose (test : ℕ → Bool) (from count : ℕ) (list : List ℕ) : Type 0 where
  low : (p : ℕ) → p < length list → from ≤ slice_index list p
  below : (p : ℕ) → p < length list → slice_index list p < from + count
  rising : (p q : ℕ) → p < q → q < length list → slice_index list p < slice_index list q
  sound : (p : ℕ) → p < length list → test (slice_index list p) ≡ true
  whole : (place : ℕ) → from ≤ place → place < from + count → test place ≡ true → (p : ℕ) × (p < length list) × (slice_index list p ≡ place)

skipped : (test : ℕ → Bool) (from count : ℕ) (list : List ℕ) → test from ≡ false → AreThose test from (suc count) list → AreThose test (from + 1) count list
skipped test from count list fails are = record {
  low = λ p small. elim (cases_eq (slice_index list p) from) [
    | inl is ↦ let passes : test from ≡ true = subst (λ n. test n ≡ true) is (are.sound p small) in let bad : true ≡ false = sym passes ∙ fails in absurd (cc)
    | inr isnt ↦ let low = are.low p small in omega arith
  ];
  below = λ p small. let below = are.below p small in omega arith;
  rising = are.rising;
  sound = are.sound;
  whole = λ place low high passes. are.whole place (omega arith) (omega arith) passes;
}

first_is : (test : ℕ → Bool) (from count first : ℕ) (rest : List ℕ) → test from ≡ true → AreThose test from (suc count) (first ∷ rest) → first ≡ from
first_is test from count first rest passes are =
    let there = are.whole from (omega arith) (omega arith) passes in
    let low : from ≤ first = are.low 0 (omega arith) in
    by_place there.0 there.1 there.2 low
  where
    by_place : (p : ℕ) → p < suc (length rest) → slice_index (first ∷ rest) p ≡ from → from ≤ first → first ≡ from
    by_place zero small is low = is
    by_place (suc p) small is low = let more : first < slice_index (first ∷ rest) (suc p) = are.rising 0 (suc p) (omega arith) small in absurd (omega arith)

after_first : (test : ℕ → Bool) (from count : ℕ) (rest : List ℕ) → AreThose test from (suc count) (from ∷ rest) → AreThose test (from + 1) count rest
after_first test from count rest are = record {
  low = λ p small. let more : from < slice_index rest p = are.rising 0 (suc p) (omega arith) (omega arith) in omega arith;
  below = λ p small. let below : slice_index rest p < from + suc count = are.below (suc p) (omega arith) in omega arith;
  rising = λ p q less small. are.rising (suc p) (suc q) (omega arith) (omega arith);
  sound = λ p small. are.sound (suc p) (omega arith);
  whole = λ place low high passes. let there = are.whole place (omega arith) (omega arith) passes in following place low there.0 there.1 there.2;
}
  where
    following : (place : ℕ) → from + 1 ≤ place → (p : ℕ) → p < suc (length rest) → slice_index (from ∷ rest) p ≡ place → (q : ℕ) × (q < length rest) × (slice_index rest q ≡ place)
    following place low zero small is = let same : from ≡ place = is in absurd (omega arith)
    following place low (suc p) small is = (p, omega arith, is)

-- a list whose first number passes, where the others are known
with_first : (test : ℕ → Bool) (from count : ℕ) (others list : List ℕ) → ((rest : List ℕ) → AreThose test (from + 1) count rest → rest ≡ others)
    → test from ≡ true → AreThose test from (suc count) list → list ≡ from ∷ others
with_first test from count others [] rest_is passes are = let there = are.whole from (omega arith) (omega arith) passes in absurd (let small = there.1 in omega arith)
with_first test from count others (first ∷ rest) rest_is passes are =
    let is = first_is test from count first rest passes are in
    let those : AreThose test from (suc count) (from ∷ rest) = subst (λ n. AreThose test from (suc count) (n ∷ rest)) is are in
    ap (λ n. n ∷ rest) is ∙ ap (λ rest. from ∷ rest) (rest_is rest (after_first test from count rest those))

-- two rising lists of the same numbers are one
those_are : (test : ℕ → Bool) (from count : ℕ) (list : List ℕ) → AreThose test from count list → list ≡ filter test (range_with_len from count)
those_are test from zero [] are = refl
those_are test from zero (first ∷ rest) are =
    let low : from ≤ first = are.low 0 (omega arith) in
    let below : first < from + 0 = are.below 0 (omega arith) in
    absurd (omega arith)
those_are test from (suc count) list are = elim (cases_Bool (test from)) [
  | inr fails ↦ rw fails (those_are test (from + 1) count list (skipped test from count list fails are))
  | inl passes ↦ rw passes (with_first test from count (filter test (range_with_len (from + 1) count)) list (those_are test (from + 1) count) passes are)
]

module _ (r : ℕ → ℕ → Bool) (count : ℕ) (inside : (a b : ℕ) → r a b ≡ true → b < count) where
  pub members_are : (members : List ℕ) → AreMembers r count members → members ≡ members_of r count
  members_are members are = those_are (λ place. leads_by r count place place) 0 count members (record {
    low = λ p small. omega arith;
    below = λ p small. let below = are.below p small in omega arith;
    rising = are.rising;
    sound = λ p small. reaches-leads_by r count inside (are.sound p small);
    whole = λ place low high passes. are.whole place (omega arith) (leads_by-reaches r count place place passes);
  })

-- if no place reaches itself, there are no members
none_passes : (test : ℕ → Bool) (list : List ℕ) → ((place : ℕ) → test place ≡ false) → filter test list ≡ []
none_passes test [] none = refl
none_passes test (place ∷ list) none = rw (none place) (none_passes test list none)

pub no_members : (r : ℕ → ℕ → Bool) (count : ℕ) → IsAcyclic r → members_of r count ≡ []
no_members r count acyclic =
    none_passes (λ place. leads_by r count place place) (range_with_len 0 count)
    (λ place. elim (cases_Bool (leads_by r count place place)) [
      | inl itself ↦ absurd (acyclic place (leads_by-reaches r count place place itself))
      | inr not_itself ↦ not_itself
    ])

-- a child leads only to one that is there: no child has the id 0
pub leads_inside : (axis : Axis) (links : List Link) (a b : ℕ) → leads axis links a b ≡ true → b < length links
unfolding leads names
leads_inside axis links a b is = elim (cases_lt b (length links)) [
  | inl small ↦ small
  | inr past ↦
      let id = (slice_index_or links b no_link).id in
      let named = (and_parts (not (a == b)) (names axis (slice_index_or links a no_link).rules id) is).1 in
      let some = (and_parts (not (id == 0)) (list_any (λ verb. value_of (slice_index_or links a no_link).rules verb == id) (sibling_verbs axis)) named).0 in
      let none : id ≡ 0 = ap (λ (link : Link). link.id) (get_or_past links b no_link past) in
      let bad : false ≡ true = rw (eq-eqb id 0 none) at some in
      absurd (cc)
]
