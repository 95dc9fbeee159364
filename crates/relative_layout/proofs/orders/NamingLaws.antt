-- Ids that children have and name.
use Rattle.std.proofs.Common.{◌≡◌, ◌≢◌, ◌⊎◌, ℕ, zero, suc, ◌+◌, ◌<◌, ◌≤◌, Bool, true, false, cond, ◌&&◌, not, List, [], ◌∷◌, ◌++◌, length, get_or, set, Option, Some, None, refl, sym, ap, ◌∙◌, arith, inl, inr, length-append, get_or-set_same, get_or-set_other}
use Rattle.std.proofs.Math.ListN.{length-set}
use Rattle.std.specs.Prelude.{IfSome, replicate, Vec}
use Rattle.std.specs.declared.alloc.Global.{Global}
use Rattle.std.proofs.lemmas.Bool.{and_parts, cases_lt}
use Rattle.std.proofs.lemmas.List.{get_or_push, get_or_append_left, get_or-replicate, get_or_past, length-replicate, get_or-map, length-map, map-append, map-set, replicate_more}
use Rattle.std.specs.Prelude.{◌==◌, if◌then◌else◌}
use Rattle.std.specs.List.{list_any}
use Rattle.std.proofs.lemmas.Grind.{common_steps}
use Rattle.std.proofs.lemmas.Bool.Decides.{nat_tests}
use Rattle.relative_layout.specs.ordering.Naming.{AreNamers, Has, NamesBack, NamesId, id_at, link_at, lists_of, padded_ids, row_at, with_last, with_place}
use Rattle.view_model.specs.declared.facts.Rules.{Rules}
use Rattle.view_model.specs.declared.relative.Axis.{Axis}
use Rattle.view_model.specs.declared.relative.Axis.TheVariants.{Horizontal, Vertical}
use Rattle.view_model.specs.declared.relative.Link.{Link}
use Rattle.view_model.specs.SiblingRules.{last_below, last_with_id, leads, names, no_link}

-- the last of the children below a number with an id
abbrev pub last_among : List Link → ℕ → ℕ → Option ℕ
last_among kids id below = if id == 0 then None else last_below (λ place. id_at kids place == id) below

pub last_among-next : (kids : List Link) (id below : ℕ) → last_among kids id (below + 1) ≡ with_last (id_at kids below) below (last_among kids id below) id
unfolding with_last
last_among-next kids id below = grind (arith, common_steps, nat_tests)

last_case : (test : ℕ → Bool) (n j : ℕ) (b : Bool) → test n ≡ b → cond b (Some n) (last_below test n) ≡ Some j → ((test j ≡ true) × (j < suc n)) ⊎ (last_below test n ≡ Some j)
last_case test n j true t h = let same : n ≡ j = cc in inl (rw same at t, omega arith)
last_case test n j false t h = inr h

last_below_passes : (test : ℕ → Bool) (n j : ℕ) → last_below test n ≡ Some j → (test j ≡ true) × (j < n)
last_below_passes test zero j h = cc
last_below_passes test (suc n) j h = elim (last_case test n j (test n) refl h) [ inl w ↦ w | inr w ↦ let p = last_below_passes test n j w in (p.0, omega arith) ]

none_case : (test : ℕ → Bool) (n j : ℕ) (b : Bool) → test n ≡ b → cond b (Some n) (last_below test n) ≡ None → (test n ≡ false) × (last_below test n ≡ None)
none_case test n j true t h = absurd (cc)
none_case test n j false t h = (t, h)

last_below_none : (test : ℕ → Bool) (n j : ℕ) → last_below test n ≡ None → j < n → test j ≡ false
last_below_none test zero j h l = absurd (omega arith)
last_below_none test (suc n) j h l =
    let w = none_case test n j (test n) refl h in
    elim (cases_lt j n) [ inl lt ↦ last_below_none test n j w.1 lt | inr le ↦ let same : j ≡ n = omega arith in rw same w.0 ]

-- the last child with an id: it is there and has it, and is the last with its own
pub record IsLast (kids : List Link) (id last : ℕ) : Type 0 where
  pub inside : last < length kids
  pub has : id_at kids last ≡ id
  pub some : id ≢ 0

last_id : (kids : List Link) (id last : ℕ) (b : Bool) → (id == 0) ≡ b → cond b None (last_below (λ place. id_at kids place == id) (length kids)) ≡ Some last → IsLast kids id last
last_id kids id last true t h = absurd (cc)
last_id kids id last false t h =
    let p = last_below_passes (λ place. id_at kids place == id) (length kids) last h in
    record { inside = p.1; has = grind (arith, nat_tests, p.0); some = λ zero. grind (arith, nat_tests) }

pub last_is : (kids : List Link) (id last : ℕ) → last_with_id kids id ≡ Some last → IsLast kids id last
last_is kids id last h = last_id kids id last (id == 0) refl h

-- if an id has no last child, no child has it
no_last : (kids : List Link) (id place : ℕ) (b : Bool) → (id == 0) ≡ b → cond b None (last_below (λ place. id_at kids place == id) (length kids)) ≡ None → id ≢ 0 → place < length kids → id_at kids place ≢ id
no_last kids id place true t h some l = λ same. some (grind (arith, nat_tests))
no_last kids id place false t h some l = λ same. let f = last_below_none (λ place. id_at kids place == id) (length kids) place h l in grind (arith, nat_tests)

pub none_is : (kids : List Link) (id place : ℕ) → last_with_id kids id ≡ None → id ≢ 0 → place < length kids → id_at kids place ≢ id
none_is kids id place h some l = no_last kids id place (id == 0) refl h some l

-- the lists of children that name an id, of which there are some now

row-set_same : (rows : List (List ℕ)) (at : ℕ) (row : List ℕ) → at < length rows → row_at (set rows at row) at ≡ row
row-set_same rows at row h = get_or-set_same rows at row [] h

row-set_other : (rows : List (List ℕ)) (at q : ℕ) (row : List ℕ) → q ≢ at → row_at (set rows at row) q ≡ row_at rows q
row-set_other rows at q row h = get_or-set_other rows at q row [] h

-- a place of a list with one more at its end is an old one or the last
pub pushed : (xs : List ℕ) (a p : ℕ) → p < length (xs ++ a ∷ []) → ((p < length xs) × (get_or (xs ++ a ∷ []) p 0 ≡ get_or xs p 0)) ⊎ ((p ≡ length xs) × (get_or (xs ++ a ∷ []) p 0 ≡ a))
pushed xs a p h = elim (cases_lt p (length xs)) [
  | inl lt ↦ inl (lt, get_or_append_left xs (a ∷ []) 0 p lt)
  | inr le ↦ let last : length xs ≡ p = omega (arith, length-append xs (a ∷ [])) in inr (sym last, get_or_push xs a 0 p last)
]

pub Has-left : (xs ys : List ℕ) (a : ℕ) → Has xs a → Has (xs ++ ys) a
Has-left xs ys a h = (h.0, omega (arith, h.1, length-append xs ys), get_or_append_left xs ys 0 h.0 h.1 ∙ h.2)

pub Has-last : (xs : List ℕ) (a : ℕ) → Has (xs ++ a ∷ []) a
Has-last xs a = (length xs, omega (arith, length-append xs (a ∷ [])), get_or_push xs a 0 (length xs) refl)

-- what a row has in lists of which one has grown
row_cases : (rows : List (List ℕ)) (at a q : ℕ) → at < length rows
    → ((q ≡ at) × (row_at (set rows at (row_at rows at ++ a ∷ [])) q ≡ row_at rows q ++ a ∷ [])) ⊎ ((q ≢ at) × (row_at (set rows at (row_at rows at ++ a ∷ [])) q ≡ row_at rows q))
row_cases rows at a q h = elim (cases_lt q at) [
  | inl lt ↦ let other : q ≢ at = omega arith in inr (other, row-set_other rows at q (row_at rows at ++ a ∷ []) other)
  | inr le ↦ elim (cases_lt at q) [
    | inl lt ↦ let other : q ≢ at = omega arith in inr (other, row-set_other rows at q (row_at rows at ++ a ∷ []) other)
    | inr ge ↦ let same : q ≡ at = omega arith in inl (same, rw same (row-set_same rows at (row_at rows at ++ a ∷ []) h))
  ]
]

pub row-grows : (rows : List (List ℕ)) (at a q c : ℕ) → at < length rows → Has (row_at rows q) c → Has (row_at (set rows at (row_at rows at ++ a ∷ [])) q) c
row-grows rows at a q c h has = elim (row_cases rows at a q h) [
  | inl w ↦ rw w.1 (Has-left (row_at rows q) (a ∷ []) c has)
  | inr w ↦ rw w.1 has
]

pub row-added : (rows : List (List ℕ)) (at a : ℕ) → at < length rows → Has (row_at (set rows at (row_at rows at ++ a ∷ [])) at) a
row-added rows at a h = rw (row-set_same rows at (row_at rows at ++ a ∷ []) h) (Has-last (row_at rows at) a)

pub AreNamers-add : (axis : Axis) (kids : List Link) (below at place : ℕ) (rows : List (List ℕ)) → at < length kids → place < length kids → NamesId axis kids at place
    → AreNamers axis kids below rows → AreNamers axis kids below (set rows at (row_at rows at ++ place ∷ []))
AreNamers-add axis kids below at place rows small fits names are =
    let inside : at < length rows = omega (arith, are.size) in
    record {
      size = length-set rows at (row_at rows at ++ place ∷ []) ∙ are.size;
      inside = λ q p h. elim (row_cases rows at place q inside) [
        | inl w ↦ elim (pushed (row_at rows q) place p (rw w.1 at h)) [ inl v ↦ rw (w.1, v.1) (are.inside q p v.0) | inr v ↦ rw (w.1, v.1) fits ]
        | inr w ↦ rw w.1 (are.inside q p (rw w.1 at h))
      ];
      sound = λ q p h. elim (row_cases rows at place q inside) [
        | inl w ↦ elim (pushed (row_at rows q) place p (rw w.1 at h)) [ inl v ↦ rw (w.1, v.1) (are.sound q p v.0) | inr v ↦ rw (w.1, v.1) (rw w.0 names) ]
        | inr w ↦ rw w.1 (are.sound q p (rw w.1 at h))
      ];
      whole = λ q a small last named. row-grows rows at place q a inside (are.whole q a small last named);
    }

-- nothing is in empty lists
no_row : (count q p : ℕ) → p < length (row_at (replicate count []) q) → ⊥
no_row count q p h = elim (cases_lt q count) [
  | inl lt ↦ let none : row_at (replicate count []) q ≡ [] = get_or-replicate {A = List ℕ} count q [] [] lt in let bad = rw none at h in omega arith
  | inr le ↦ let past : count ≡ length (replicate {A = List ℕ} count []) = sym (length-replicate {A = List ℕ} count []) in let none : row_at (replicate count []) q ≡ [] = get_or_past (replicate {A = List ℕ} count []) q [] (omega arith) in let bad = rw none at h in omega arith
]

pub AreNamers-none : (axis : Axis) (kids : List Link) → AreNamers axis kids 0 (replicate (length kids) [])
AreNamers-none axis kids = record {
  size = length-replicate _ _;
  inside = λ q p h. absurd (no_row (length kids) q p h);
  sound = λ q p h. absurd (no_row (length kids) q p h);
  whole = λ q a small last named. absurd (omega arith);
}

zero_no_more : (id : ℕ) → (0 == suc id) ≡ false
zero_no_more id = grind (arith, nat_tests)

-- the ids that rules name are those that they have for the verbs of the axis
names-padded : (axis : Axis) (rules : Rules) (id : ℕ) → names axis rules id ≡ (not (id == 0) && list_any (λ named. named == id) (padded_ids axis rules))
unfolding names
names-padded Horizontal rules id = refl
names-padded Vertical rules zero = refl
names-padded Vertical rules (suc id) = rw (zero_no_more id) refl

any-at : (f : ℕ → Bool) (xs : List ℕ) (k : ℕ) → k < length xs → f (get_or xs k 0) ≡ true → list_any f xs ≡ true
any-at f [] k l h = absurd (omega arith)
any-at f (x ∷ xs) zero l h = rw h refl
any-at f (x ∷ xs) (suc k) l h = grind (arith, common_steps, any-at f xs k (omega arith) h)

any_case : (f : ℕ → Bool) (x : ℕ) (xs : List ℕ) (b : Bool) → f x ≡ b → list_any f (x ∷ xs) ≡ true → (f x ≡ true) ⊎ (list_any f xs ≡ true)
any_case f x xs true e h = inl e
any_case f x xs false e h = inr (grind (arith, common_steps))

any-some : (f : ℕ → Bool) (xs : List ℕ) → list_any f xs ≡ true → (k : ℕ) × (k < length xs) × (f (get_or xs k 0) ≡ true)
any-some f [] h = absurd (cc)
any-some f (x ∷ xs) h = elim (any_case f x xs (f x) refl h) [
  | inl e ↦ (0, omega arith, e)
  | inr e ↦ let k = any-some f xs e in (suc k.0, omega (arith, k.1), k.2)
]

padded-length : (axis : Axis) (rules : Rules) → length (padded_ids axis rules) ≡ 8
padded-length Horizontal rules = refl
padded-length Vertical rules = refl

pub names-at : (axis : Axis) (rules : Rules) (k : ℕ) → k < 8 → get_or (padded_ids axis rules) k 0 ≢ 0 → names axis rules (get_or (padded_ids axis rules) k 0) ≡ true
names-at axis rules k small some =
    let id : ℕ = get_or (padded_ids axis rules) k 0 in
    let same : (id == id) ≡ true = grind (arith, nat_tests) in
    let any = any-at (λ named. named == id) (padded_ids axis rules) k (omega (arith, padded-length axis rules)) same in
    names-padded axis rules id ∙ rw any (grind (arith, nat_tests))

pub names-some : (axis : Axis) (rules : Rules) (id : ℕ) → names axis rules id ≡ true → (k : ℕ) × (k < 8) × (get_or (padded_ids axis rules) k 0 ≡ id) × (id ≢ 0)
names-some axis rules id h =
    let e : (not (id == 0) && list_any (λ named. named == id) (padded_ids axis rules)) ≡ true = sym (names-padded axis rules id) ∙ h in
    let both : (not (id == 0) ≡ true) × (list_any (λ named. named == id) (padded_ids axis rules) ≡ true) = grind (arith, common_steps) in
    let k = any-some (λ named. named == id) (padded_ids axis rules) both.1 in
    (k.0, omega (arith, k.1, padded-length axis rules), grind (arith, nat_tests, k.2), λ zero. grind (arith, nat_tests, both.0))

pub AreNamers-next : (axis : Axis) (kids : List Link) (place : ℕ) (rows : List (List ℕ)) → AreNamers axis kids place rows
    → ((k q : ℕ) → k < 8 → last_with_id kids (id_at kids q) ≡ Some q → id_at kids q ≡ get_or (padded_ids axis (link_at kids place).rules) k 0 → Has (row_at rows q) place)
    → AreNamers axis kids (place + 1) rows
AreNamers-next axis kids place rows are added = record {
  size = are.size;
  inside = are.inside;
  sound = are.sound;
  whole = λ q a small last named. elim (cases_lt a place) [
    | inl lt ↦ are.whole q a lt last named
    | inr le ↦
        let same : a ≡ place = omega arith in
        let k = names-some axis (link_at kids place).rules (id_at kids q) (rw same at named) in
        rw same (added k.0 q k.1 last (sym k.2))
  ];
}

pub lists_of-push : (rows : List (Vec ℕ Global)) (row : Vec ℕ Global) (count : ℕ) → lists_of rows ≡ replicate count [] → row.items ≡ [] → lists_of (rows ++ row ∷ []) ≡ replicate (count + 1) []
lists_of-push rows row count e none = rw (map-append, e, none) (replicate_more count [])

pub length-lists_of : (rows : List (Vec ℕ Global)) → length (lists_of rows) ≡ length rows
length-lists_of rows = simp length-map

pub lists_of-set : (rows : List (Vec ℕ Global)) (at place : ℕ) (old new : Vec ℕ Global) → at < length rows → old ≡ get_or rows at old → new.items ≡ old.items ++ place ∷ []
    → lists_of (set rows at new) ≡ set (lists_of rows) at (row_at (lists_of rows) at ++ place ∷ [])
lists_of-set rows at place old new h was is =
    let items : Vec ℕ Global → List ℕ = λ row. row.items in
    let row : old.items ≡ row_at (lists_of rows) at = ap items was ∙ sym (get_or-map items rows at old [] h) in
    map-set items rows at new ∙ ap (set (lists_of rows) at) (is ∙ ap (λ xs. xs ++ place ∷ []) row)

pub leads_whole : (axis : Axis) (kids : List Link) (a b : ℕ) → a ≢ b → names axis (link_at kids a).rules (id_at kids b) ≡ true → leads axis kids a b ≡ true
unfolding leads
leads_whole axis kids a b ne named = rw named (grind (arith, nat_tests))

pub leads_parts : (axis : Axis) (kids : List Link) (a b : ℕ) → leads axis kids a b ≡ true → (a ≢ b) × (names axis (link_at kids a).rules (id_at kids b) ≡ true)
unfolding leads
leads_parts axis kids a b h =
    let w = and_parts (not (a == b)) (names axis (link_at kids a).rules (id_at kids b)) h in
    (λ same. let t = w.0 in grind (arith, nat_tests), w.1)

pub named_some : (axis : Axis) (rules : Rules) (id : ℕ) → names axis rules id ≡ true → id ≢ 0
named_some axis rules id h = (names-some axis rules id h).3

pub leads_inside : (axis : Axis) (kids : List Link) (a b : ℕ) → leads axis kids a b ≡ true → b < length kids
leads_inside axis kids a b h = elim (cases_lt b (length kids)) [
  | inl lt ↦ lt
  | inr le ↦
      let past : link_at kids b ≡ no_link = get_or_past kids b no_link le in
      let named = (leads_parts axis kids a b h).1 in
      absurd (named_some axis (link_at kids a).rules (id_at kids b) named (ap (λ (kid : Link). kid.id) past))
]

-- a child that leads to another is there: no child has the id 0
leads_from_case : (axis : Axis) (b : ℕ) → names axis no_link.rules b ≡ false
unfolding names
leads_from_case Horizontal b = grind (arith, nat_tests)
leads_from_case Vertical b = grind (arith, nat_tests)

pub leads_from : (axis : Axis) (kids : List Link) (a b : ℕ) → leads axis kids a b ≡ true → a < length kids
leads_from axis kids a b h = elim (cases_lt a (length kids)) [
  | inl lt ↦ lt
  | inr le ↦
      let past : link_at kids a ≡ no_link = get_or_past kids a no_link le in
      let named = (leads_parts axis kids a b h).1 in
      let none : names axis (link_at kids a).rules (id_at kids b) ≡ false = ap (λ (kid : Link). names axis kid.rules (id_at kids b)) past ∙ leads_from_case axis (id_at kids b) in
      absurd (cc)
]

-- lists in which a child was added to that of the last one with an id
pub record AddsName (axis : Axis) (kids : List Link) (place id : ℕ) (old new : List (List ℕ)) : Type 0 where
  pub rows : AreNamers axis kids place new
  pub grows : (q a : ℕ) → Has (row_at old q) a → Has (row_at new q) a
  pub added : (q : ℕ) → last_with_id kids (id_at kids q) ≡ Some q → id_at kids q ≡ id → Has (row_at new q) place

pub AddsName-with_place : (axis : Axis) (kids : List Link) (place id : ℕ) (last : Option ℕ) (rows : List (List ℕ)) → place < length kids → last ≡ last_with_id kids id
    → (id ≢ 0 → names axis (link_at kids place).rules id ≡ true) → AreNamers axis kids place rows → AddsName axis kids place id rows (with_place last place rows)
AddsName-with_place axis kids place id None rows small found named are = record {
  rows = are;
  grows = λ q a has. has;
  added = λ q last same. absurd (let here = rw same at last in let bad : None ≡ Some q = found ∙ here in cc);
}
AddsName-with_place axis kids place id (Some last) rows small found named are =
    let is = last_is kids id last (sym found) in
    let inside : last < length rows = omega (arith, is.inside, are.size) in
    record {
      rows = AreNamers-add axis kids place last place rows is.inside small (rw is.has (named is.some)) are;
      grows = λ q a has. row-grows rows last place q a inside has;
      added = λ q here same.
          let at = rw same at here in
          let it : q ≡ last = (let both_are : Some q ≡ Some last = sym at ∙ sym found in cc) in
          rw it (row-added rows last place inside);
    }

pub last_in_rows : (kids : List Link) (id count : ℕ) (last : Option ℕ) → count ≡ length kids → last ≡ last_with_id kids id → IfSome last (λ q. q < count)
last_in_rows kids id count None size e = tt
last_in_rows kids id count (Some q) size e = let is = last_is kids id q (sym e) in omega (arith, is.inside)

-- no place after the last that passes a test passes it
last_case_of : (test : ℕ → Bool) (n j : ℕ) (b : Bool) → test n ≡ b → cond b (Some n) (last_below test n) ≡ Some j → (n ≡ j) ⊎ ((test n ≡ false) × (last_below test n ≡ Some j))
last_case_of test n j true t h = let same : n ≡ j = cc in inl same
last_case_of test n j false t h = inr (t, h)

last_below-most : (test : ℕ → Bool) (n i j : ℕ) → last_below test n ≡ Some j → i < n → test i ≡ true → i ≤ j
last_below-most test zero i j h l p = absurd (omega arith)
last_below-most test (suc n) i j h l p = elim (last_case_of test n j (test n) refl h) [
  | inl same ↦ omega arith
  | inr w ↦ elim (cases_lt i n) [
    | inl lt ↦ last_below-most test n i j w.1 lt p
    | inr le ↦
        let same : i ≡ n = omega arith in
        let bad : false ≡ true = sym w.0 ∙ ap test (sym same) ∙ p in
        absurd (cc)
  ]
]

last_most_case : (kids : List Link) (id place last : ℕ) (b : Bool) → (id == 0) ≡ b → cond b None (last_below (λ place. id_at kids place == id) (length kids)) ≡ Some last
    → place < length kids → (id_at kids place == id) ≡ true → place ≤ last
last_most_case kids id place last true t h l e = absurd (cc)
last_most_case kids id place last false t h l e = last_below-most (λ place. id_at kids place == id) (length kids) place last h l e

id_same : (a : ℕ) → (a == a) ≡ true
id_same a = grind (arith, nat_tests)

-- a child is the last with its id, or comes before it
last_most : (kids : List Link) (place : ℕ) (last : Option ℕ) (end : ℕ) → last ≡ last_with_id kids (id_at kids place) → place < length kids → id_at kids place ≢ 0 → IfSome last (λ last. last < end) → place < end
last_most kids place None end e l some before = absurd (none_is kids (id_at kids place) place (sym e) some l refl)
last_most kids place (Some last) end e l some before =
    let most = last_most_case kids (id_at kids place) place last (id_at kids place == 0) refl (sym e) l (id_same (id_at kids place)) in
    omega arith

-- a child that names only children before it leads only to those
pub leads_before : (axis : Axis) (kids : List Link) → ((place : ℕ) → place < length kids → NamesBack axis kids place) → (a b : ℕ) → leads axis kids a b ≡ true → b < a
leads_before axis kids back a b led =
    let parts = leads_parts axis kids a b led in
    let k = names-some axis (link_at kids a).rules (id_at kids b) parts.1 in
    let before = back a (leads_from axis kids a b led) k.0 k.1 in
    let at_id : IfSome (last_with_id kids (id_at kids b)) (λ last. last < a) = rw k.2 at before in
    last_most kids b (last_with_id kids (id_at kids b)) a refl (leads_inside axis kids a b led) k.3 at_id
