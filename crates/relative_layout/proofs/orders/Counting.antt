-- Counts of places below a number, and children that are left.
use Rattle.std.proofs.Common.{◌≡◌, ◌≢◌, ◌⊎◌, ℕ, zero, suc, ◌+◌, ◌-◌, ◌<◌, ◌≤◌, Bool, true, false, cond, ◌&&◌, not, List, length, get_or, get_or-set_same, get_or-set_other, set, Option, Some, None, refl, sym, ap, subst, ◌∙◌, add-one, arith, inl, inr}
use Rattle.std.specs.Prelude.{◌==◌, nat_lt}
use Rattle.std.proofs.lemmas.Bool.{cases_lt, cases_Bool, and_parts, not-true}
use Rattle.std.proofs.lemmas.Bool.Decides.{nat_tests}
use Rattle.std.proofs.lemmas.Grind.{common_steps}
use Rattle.std.proofs.Math.ListN.{length-set}
use Rattle.relative_layout.specs.ordering.Naming.{id_at}
use Rattle.relative_layout.proofs.orders.NamingLaws.{last_is, none_is}
use Rattle.std.specs.Prelude.{IfSome, replicate}
use Rattle.view_model.specs.Numbers.{max_views}
use Rattle.std.proofs.lemmas.List.{get_or-replicate, get_or_past, length-replicate}
use Rattle.relative_layout.specs.ordering.Topological.{AreCounts, CountsBelow, count_below, counted_up, has_more, is_left, is_marked, left_with, waits_for}
use Rattle.view_model.specs.declared.relative.Link.{Link}
use Rattle.view_model.specs.SiblingRules.{last_with_id}

pub count_below-alike : (f g : ℕ → Bool) (n : ℕ) → ((k : ℕ) → k < n → f k ≡ g k) → count_below f n ≡ count_below g n
count_below-alike f g zero same = refl
count_below-alike f g (suc n) same = rw (same n (omega arith)) (ap (λ rest. cond (g n) 1 0 + rest) (count_below-alike f g n (λ k h. same k (omega arith))))

pub count_below-most : (f : ℕ → Bool) (n : ℕ) → count_below f n ≤ n
count_below-most f zero = omega arith
count_below-most f (suc n) = elim (cases_Bool (f n)) [ inl t ↦ rw t (omega (arith, count_below-most f n)) | inr t ↦ rw t (omega (arith, count_below-most f n)) ]

pub count_below-none : (f : ℕ → Bool) (n : ℕ) → ((k : ℕ) → k < n → f k ≡ false) → count_below f n ≡ 0
count_below-none f zero none = refl
count_below-none f (suc n) none = rw (none n (omega arith)) (omega (arith, count_below-none f n (λ k h. none k (omega arith))))

pub count_below-some : (f : ℕ → Bool) (n : ℕ) → 0 < count_below f n → (k : ℕ) × (k < n) × (f k ≡ true)
count_below-some f zero h = absurd (omega arith)
count_below-some f (suc n) h = elim (cases_Bool (f n)) [
  | inl t ↦ (n, omega arith, t)
  | inr t ↦ let below : 0 < count_below f n = (let z = rw t at h in omega arith) in let k = count_below-some f n below in (k.0, omega (arith, k.1), k.2)
]

pub count_below-zero : (f : ℕ → Bool) (n k : ℕ) → count_below f n ≡ 0 → k < n → f k ≡ false
count_below-zero f zero k h l = absurd (omega arith)
count_below-zero f (suc n) k h l = elim (cases_Bool (f n)) [
  | inl t ↦ absurd (let z = rw t at h in omega arith)
  | inr t ↦ elim (cases_lt k n) [
    | inl lt ↦ count_below-zero f n k (let z = rw t at h in omega arith) lt
    | inr le ↦ let same : k ≡ n = omega arith in rw same t
  ]
]

at_most_one : (b : Bool) → cond b 1 0 ≤ 1
at_most_one true = omega arith
at_most_one false = omega arith

alike : (a b : ℕ) → a ≡ b → (a == b) ≡ true
alike a b same = grind (arith, nat_tests)

unlike : (a b : ℕ) → a ≢ b → (a == b) ≡ false
unlike a b ne = grind (arith, nat_tests)

swapped : (a b : ℕ) → (a == b) ≡ (b == a)
swapped a b = grind (arith, nat_tests)

pub cases_eq : (a b : ℕ) → (a ≡ b) ⊎ (a ≢ b)
cases_eq a b = elim (cases_lt a b) [
  | inl lt ↦ inr (omega arith)
  | inr le ↦ elim (cases_lt b a) [ inl lt ↦ inr (omega arith) | inr ge ↦ inl (omega arith) ]
]

not_more : (id one most : ℕ) → id ≢ 0 → (not (id == 0) && nat_lt one most) ≡ false → most ≤ one
not_more id one most some h = let t = unlike id 0 some in let f = rw t at h in grind (arith, nat_tests)

and-false : (b : Bool) → (b && false) ≡ false
and-false true = refl
and-false false = refl

not_left : (kids : List Link) (taken : List Bool) (id k : ℕ) → id_at kids k ≢ id → is_left kids taken id k ≡ false
not_left kids taken id k ne = rw (unlike (id_at kids k) id ne) (and-false (not (is_marked taken k)))

-- the test without one place
abbrev pub apart : (ℕ → Bool) → ℕ → ℕ → Bool
apart f a k = f k && not (k == a)

apart_other : (f : ℕ → Bool) (a k : ℕ) → k ≢ a → apart f a k ≡ f k
apart_other f a k ne = grind (arith, nat_tests, common_steps)

apart_own : (f : ℕ → Bool) (a : ℕ) → apart f a a ≡ false
apart_own f a = grind (arith, nat_tests, common_steps)

apart_last : (f : ℕ → Bool) (n : ℕ) → count_below (apart f n) (suc n) + cond (f n) 1 0 ≡ count_below f (suc n)
apart_last f n =
    let rest : count_below (apart f n) n ≡ count_below f n = count_below-alike (apart f n) f n (λ k l. apart_other f n k (omega arith)) in
    let before : count_below (apart f n) (suc n) ≡ count_below f n = rw (apart_own f n) (rest_of (count_below (apart f n) n) ∙ rest) in
    let whole : count_below f (suc n) ≡ cond (f n) 1 0 + count_below f n = refl in
    rw (before, whole) (plus_comm (count_below f n) (cond (f n) 1 0))
  where
    rest_of : (x : ℕ) → 0 + x ≡ x
    rest_of x = omega arith

    plus_comm : (x y : ℕ) → x + y ≡ y + x
    plus_comm x y = omega arith

pub count_below-apart : (f : ℕ → Bool) (n a : ℕ) → a < n → count_below (apart f a) n + cond (f a) 1 0 ≡ count_below f n
count_below-apart f zero a h = absurd (omega arith)
count_below-apart f (suc n) a h = elim (cases_lt a n) [
  | inl lt ↦ let other : n ≢ a = omega arith in rw (apart_other f a n other) (omega (arith, count_below-apart f n a lt))
  | inr le ↦ let same : n ≡ a = omega arith in subst (λ x. count_below (apart f x) (suc n) + cond (f x) 1 0 ≡ count_below f (suc n)) same (apart_last f n)
]

-- a count of two has another place than a given one
another : (f : ℕ → Bool) (n k most : ℕ) → k < n → cond (f k) 1 0 ≤ most → most < count_below f n → (b : ℕ) × (b ≢ k) × (b < n) × (f b ≡ true)
another f n k most small one more =
    let some : 0 < count_below (apart f k) n = omega (arith, count_below-apart f n k small) in
    let b = count_below-some (apart f k) n some in
    let parts : (f b.0 ≡ true) × (not (b.0 == k) ≡ true) = and_parts (f b.0) (not (b.0 == k)) b.2 in
    (b.0, (λ same. let t = parts.1 in grind (arith, nat_tests)), b.1, parts.0)

left_parts : (kids : List Link) (taken : List Bool) (id k : ℕ) → is_left kids taken id k ≡ true → (is_marked taken k ≡ false) × (id_at kids k ≡ id)
left_parts kids taken id k h =
    let w = and_parts (not (is_marked taken k)) (id_at kids k == id) h in
    (let t = w.0 in not-true (is_marked taken k) t, let t = w.1 in grind (arith, nat_tests))

left_whole : (kids : List Link) (taken : List Bool) (id k : ℕ) → is_marked taken k ≡ false → id_at kids k ≡ id → is_left kids taken id k ≡ true
left_whole kids taken id k fresh same = rw fresh (grind (arith, nat_tests))

-- where two are left with an id, another than a given one is
pub another_left : (kids : List Link) (taken : List Bool) (id k : ℕ) → k < length kids → 1 < left_with kids taken id
    → (b : ℕ) × (b ≢ k) × (b < length kids) × (is_marked taken b ≡ false) × (id_at kids b ≡ id)
another_left kids taken id k small two =
    let b = another (is_left kids taken id) (length kids) k 1 small (at_most_one (is_left kids taken id k)) two in
    let parts = left_parts kids taken id b.0 b.3 in
    (b.0, b.1, b.2, parts.0, parts.1)

left_own : (kids : List Link) (taken : List Bool) (id place : ℕ) → is_marked taken place ≡ false → ◌≡◌ {A = ℕ} (cond (is_left kids taken id place) 1 0) (cond (id == id_at kids place) 1 0)
left_own kids taken id place fresh = rw fresh (ap (λ b. cond {A = ℕ} b 1 0) (swapped (id_at kids place) id))

pub waits_true : (kids : List Link) (taken : List Bool) (place id : ℕ) → place < length kids → is_marked taken place ≡ false → waits_for kids taken (id_at kids place) id ≡ true
    → (b : ℕ) × (b ≢ place) × (b < length kids) × (is_marked taken b ≡ false) × (id_at kids b ≡ id)
unfolding waits_for
waits_true kids taken place id small fresh h =
    let w = and_parts (not (id == 0)) (nat_lt (cond (id == id_at kids place) 1 0) (left_with kids taken id)) h in
    let more : cond (id == id_at kids place) 1 0 < left_with kids taken id = (let t = w.1 in grind (arith, nat_tests)) in
    let own : cond (is_left kids taken id place) 1 0 ≤ cond (id == id_at kids place) 1 0 = omega (arith, left_own kids taken id place fresh) in
    let b = another (is_left kids taken id) (length kids) place (cond (id == id_at kids place) 1 0) small own more in
    let parts = left_parts kids taken id b.0 b.3 in
    (b.0, b.1, b.2, parts.0, parts.1)

pub waits_some_id : (kids : List Link) (taken : List Bool) (own id : ℕ) → waits_for kids taken own id ≡ true → id ≢ 0
unfolding waits_for
waits_some_id kids taken own id h = λ zero.
    let w = and_parts (not (id == 0)) (nat_lt (cond (id == own) 1 0) (left_with kids taken id)) h in
    let t = w.0 in grind (arith, nat_tests)

pub waits_false : (kids : List Link) (taken : List Bool) (place id b : ℕ) → place < length kids → is_marked taken place ≡ false → waits_for kids taken (id_at kids place) id ≡ false
    → id ≢ 0 → b ≢ place → b < length kids → id_at kids b ≡ id → is_marked taken b ≡ true
unfolding waits_for
waits_false kids taken place id b small fresh h some ne inside same =
    let few : left_with kids taken id ≤ cond (id == id_at kids place) 1 0 = not_more id (cond (id == id_at kids place) 1 0) (left_with kids taken id) some h in
    let none : count_below (apart (is_left kids taken id) place) (length kids) ≡ 0
    = omega (arith, count_below-apart (is_left kids taken id) (length kids) place small, left_own kids taken id place fresh) in
    let false_at = count_below-zero (apart (is_left kids taken id) place) (length kids) b none inside in
    elim (cases_Bool (is_marked taken b)) [
      | inl t ↦ t
      | inr f ↦ let left = left_whole kids taken id b f same in let e = sym (apart_other (is_left kids taken id) place b ne) in absurd (let bad : true ≡ false = sym left ∙ e ∙ false_at in cc)
    ]

-- if no child has an id, no child waits for one
pub waits_none : (kids : List Link) (taken : List Bool) (own id : ℕ) → last_with_id kids id ≡ None → waits_for kids taken own id ≡ false
unfolding waits_for
waits_none kids taken own id none = elim (cases_Bool (id == 0)) [
  | inl t ↦ rw t refl
  | inr f ↦
      let some : id ≢ 0 = (λ zero. grind (arith, nat_tests)) in
      let empty : left_with kids taken id ≡ 0 = count_below-none (is_left kids taken id) (length kids) (λ k h. not_left kids taken id k (none_is kids id k none some h)) in
      rw empty (grind (arith, nat_tests))
]

pub waits_some : (kids : List Link) (taken : List Bool) (left : List ℕ) (own id last : ℕ) → last_with_id kids id ≡ Some last → AreCounts kids taken left
    → nat_lt (cond (id == own) 1 0) (get_or left last 0) ≡ waits_for kids taken own id
unfolding waits_for
waits_some kids taken left own id last found counts =
    let is = last_is kids id last found in
    let here : last_with_id kids (id_at kids last) ≡ Some last = rw is.has found in
    let count : get_or left last 0 ≡ left_with kids taken id = counts.each last here ∙ ap (left_with kids taken) is.has in
    let some : (id == 0) ≡ false = (let t = is.some in grind (arith, nat_tests)) in
    rw (some, count) refl

-- the counts once one more is taken

taken_other : (taken : List Bool) (place k : ℕ) → k ≢ place → is_marked (set taken place true) k ≡ is_marked taken k
taken_other taken place k ne = get_or-set_other taken place k true false ne

taken_own : (taken : List Bool) (place : ℕ) → place < length taken → is_marked (set taken place true) place ≡ true
taken_own taken place h = get_or-set_same taken place true false h

is_left-taken : (kids : List Link) (taken : List Bool) (place id k : ℕ) → place < length taken → is_left kids (set taken place true) id k ≡ apart (is_left kids taken id) place k
is_left-taken kids taken place id k h = elim (cases_eq k place) [
  | inl same ↦ rw (same, taken_own taken place h, apart_own (is_left kids taken id) place) refl
  | inr ne ↦ rw (taken_other taken place k ne, apart_other (is_left kids taken id) place k ne) refl
]

pub left_with-taken : (kids : List Link) (taken : List Bool) (place id : ℕ) → length taken ≡ length kids → place < length kids → is_marked taken place ≡ false
    → left_with kids (set taken place true) id + cond (id == id_at kids place) 1 0 ≡ left_with kids taken id
left_with-taken kids taken place id size h fresh =
    let alike : left_with kids (set taken place true) id ≡ count_below (apart (is_left kids taken id) place) (length kids)
    = count_below-alike (is_left kids (set taken place true) id) (apart (is_left kids taken id) place) (length kids) (λ k l. is_left-taken kids taken place id k (omega arith)) in
    omega (arith, alike, count_below-apart (is_left kids taken id) (length kids) place h, left_own kids taken id place fresh)

pub AreCounts-none : (kids : List Link) (taken : List Bool) (left : List ℕ) (place : ℕ) → length taken ≡ length kids → place < length kids → is_marked taken place ≡ false
    → last_with_id kids (id_at kids place) ≡ None → AreCounts kids taken left → AreCounts kids (set taken place true) left
AreCounts-none kids taken left place size h fresh none counts = record {
  size = counts.size;
  each = λ q last.
      let other : (id_at kids q == id_at kids place) ≡ false = unlike (id_at kids q) (id_at kids place) (λ same. let bad = rw same at last in let no : None ≡ Some q = sym none ∙ bad in cc) in
      let e = left_with-taken kids taken place (id_at kids q) size h fresh in
      let kept = rw other at e in
      omega (arith, counts.each q last);
}

pub AreCounts-some : (kids : List Link) (taken : List Bool) (left : List ℕ) (place last : ℕ) → length taken ≡ length kids → place < length kids → is_marked taken place ≡ false
    → last_with_id kids (id_at kids place) ≡ Some last → AreCounts kids taken left → AreCounts kids (set taken place true) (set left last (get_or left last 0 - 1))
AreCounts-some kids taken left place last size h fresh found counts =
    let is = last_is kids (id_at kids place) last found in
    let within : last < length left = omega (arith, is.inside, counts.size) in
    record {
      size = length-set left last (get_or left last 0 - 1) ∙ counts.size;
      each = λ q here. elim (cases_eq q last) [
        | inl same ↦
            let one : (id_at kids last == id_at kids place) ≡ true = alike (id_at kids last) (id_at kids place) is.has in
            let e = left_with-taken kids taken place (id_at kids last) size h fresh in
            let kept = rw one at e in
            let was = counts.each last (rw same at here) in
            rw (same, get_or-set_same left last (get_or left last 0 - 1) 0 within) (omega arith)
        | inr ne ↦
            let other : (id_at kids q == id_at kids place) ≡ false
            = unlike (id_at kids q) (id_at kids place) (λ same. let it = rw same at here in ne (let both_are : Some q ≡ Some last = sym it ∙ found in cc)) in
            let e = left_with-taken kids taken place (id_at kids q) size h fresh in
            let kept = rw other at e in
            rw (get_or-set_other left last q (get_or left last 0 - 1) 0 ne) (omega (arith, counts.each q here))
      ];
    }

-- a child that is not taken is counted
pub counted : (kids : List Link) (taken : List Bool) (left : List ℕ) (place last : ℕ) → length taken ≡ length kids → place < length kids → is_marked taken place ≡ false
    → last_with_id kids (id_at kids place) ≡ Some last → AreCounts kids taken left → 0 < get_or left last 0
counted kids taken left place last size h fresh found counts =
    let is = last_is kids (id_at kids place) last found in
    let one : (id_at kids last == id_at kids place) ≡ true = alike (id_at kids last) (id_at kids place) is.has in
    let e = left_with-taken kids taken place (id_at kids last) size h fresh in
    let kept = rw one at e in
    let was = counts.each last (rw is.has found) in
    omega arith

-- counting the children below a number

count_below-next : (f : ℕ → Bool) (n : ℕ) → count_below f (n + 1) ≡ cond (f n) 1 0 + count_below f n
count_below-next f n = rw add-one refl

pub zeros : (n k : ℕ) → ◌≡◌ {A = ℕ} (get_or (replicate n 0) k 0) 0
zeros n k = elim (cases_lt k n) [
  | inl lt ↦ get_or-replicate n k 0 0 lt
  | inr le ↦ get_or_past (replicate n 0) k 0 (omega (arith, length-replicate {A = ℕ} n 0))
]

pub unmarked : (n k : ℕ) → is_marked (replicate n false) k ≡ false
unmarked n k = elim (cases_lt k n) [
  | inl lt ↦ get_or-replicate n k false false lt
  | inr le ↦ get_or_past (replicate n false) k false (omega (arith, length-replicate n false))
]

pub CountsBelow-none : (kids : List Link) → CountsBelow kids 0 (replicate (length kids) 0)
CountsBelow-none kids = record { size = length-replicate {A = ℕ} (length kids) 0; each = λ q last. zeros (length kids) q }

pub CountsBelow-same : (kids : List Link) (place : ℕ) (left : List ℕ) → last_with_id kids (id_at kids place) ≡ None → CountsBelow kids place left → CountsBelow kids (place + 1) left
CountsBelow-same kids place left none counts = record {
  size = counts.size;
  each = λ q last.
      let other : (id_at kids place == id_at kids q) ≡ false = unlike (id_at kids place) (id_at kids q) (λ same. let bad = rw (← same) at last in let no : None ≡ Some q = sym none ∙ bad in cc) in
      counts.each q last ∙ sym (count_below-next (λ k. id_at kids k == id_at kids q) place ∙ rw other (plus_none (count_below (λ k. id_at kids k == id_at kids q) place)));
}
  where
    plus_none : (x : ℕ) → 0 + x ≡ x
    plus_none x = omega arith

pub CountsBelow-more : (kids : List Link) (place last : ℕ) (left : List ℕ) → last_with_id kids (id_at kids place) ≡ Some last → CountsBelow kids place left
    → CountsBelow kids (place + 1) (set left last (get_or left last 0 + 1))
CountsBelow-more kids place last left found counts =
    let is = last_is kids (id_at kids place) last found in
    let within : last < length left = omega (arith, is.inside, counts.size) in
    record {
      size = length-set left last (get_or left last 0 + 1) ∙ counts.size;
      each = λ q here. elim (cases_eq q last) [
        | inl same ↦
            let one : (id_at kids place == id_at kids last) ≡ true = alike (id_at kids place) (id_at kids last) (sym is.has) in
            let was = counts.each last (rw same at here) in
            let next = count_below-next (λ k. id_at kids k == id_at kids last) place in
            let grown = rw one at next in
            rw (same, get_or-set_same left last (get_or left last 0 + 1) 0 within) (omega arith)
        | inr ne ↦
            let other : (id_at kids place == id_at kids q) ≡ false
            = unlike (id_at kids place) (id_at kids q) (λ same. let it = rw (← same) at here in ne (let both_are : Some q ≡ Some last = sym it ∙ found in cc)) in
            let next = count_below-next (λ k. id_at kids k == id_at kids q) place in
            let kept = rw other at next in
            rw (get_or-set_other left last q (get_or left last 0 + 1) 0 ne) (omega (arith, counts.each q here))
      ];
    }

-- a count of some below a number is no greater
pub few_below : (kids : List Link) (place last : ℕ) (left : List ℕ) → last_with_id kids (id_at kids place) ≡ Some last → CountsBelow kids place left → get_or left last 0 ≤ place
few_below kids place last left found counts =
    let is = last_is kids (id_at kids place) last found in
    let was = counts.each last (rw is.has found) in
    omega (arith, was, count_below-most (λ k. id_at kids k == id_at kids last) place)

-- if no child is taken, the counts are those of all
pub AreCounts-all : (kids : List Link) (taken : List Bool) (left : List ℕ) → ((k : ℕ) → is_marked taken k ≡ false) → CountsBelow kids (length kids) left → AreCounts kids taken left
AreCounts-all kids taken left none counts = record {
  size = counts.size;
  each = λ q last. counts.each q last ∙ count_below-alike (λ k. id_at kids k == id_at kids q) (is_left kids taken (id_at kids q)) (length kids) (λ k h. rw (none k) refl);
}

-- a child is counted by the last one with its id

pub last_few : (kids : List Link) (place : ℕ) (last : Option ℕ) (left : List ℕ) → place < length kids → length kids ≤ max_views → last ≡ last_with_id kids (id_at kids place) → CountsBelow kids place left
    → IfSome last (λ q. get_or left q 0 < max_views)
last_few kids place None left h few e counts = tt
last_few kids place (Some q) left h few e counts = omega (arith, few_below kids place q left (sym e) counts)

pub CountsBelow-up : (kids : List Link) (place : ℕ) (last : Option ℕ) (left : List ℕ) → last ≡ last_with_id kids (id_at kids place) → CountsBelow kids place left → CountsBelow kids (place + 1) (counted_up last left)
CountsBelow-up kids place None left e counts = CountsBelow-same kids place left (sym e) counts
CountsBelow-up kids place (Some q) left e counts = CountsBelow-more kids place q left (sym e) counts

-- whether a child waits is whether more than itself are left
pub waits_for-more : (kids : List Link) (taken : List Bool) (left : List ℕ) (own id : ℕ) (last : Option ℕ) → last ≡ last_with_id kids id → AreCounts kids taken left
    → has_more last (cond (id == own) 1 0) left ≡ waits_for kids taken own id
waits_for-more kids taken left own id None e counts = sym (waits_none kids taken own id (sym e))
waits_for-more kids taken left own id (Some q) e counts = waits_some kids taken left own id q (sym e) counts
