-- What is read as a field or an attribute is one, and what is one is read.
use Rattle.std.proofs.Common.{◌≡◌, ℕ, zero, suc, ◌+◌, ◌*◌, ◌<◌, ◌≤◌, true, ltb, List, [], ◌∷◌, ◌++◌, length, take, get_or, Some, Ok, refl, sym, ap, subst, ◌∙◌, arith, inl, inr, length-append}
use Rattle.std.specs.Prelude.{slice_get}
use Rattle.std.proofs.lemmas.Bool.{eq-eqb, ne_eqb, cases_eq, cases_lt, lt-ltb, ltb-true}
use Rattle.std.proofs.lemmas.List.{get_or_append_left, get_or_push, take_more, take_all}
use Rattle.std.proofs.lemmas.Option.{slice_get-get_or, slice_get_within, get_or_from_slice_get}
use Rattle.axml_chunks.specs.Faults.{bad_reference}
use Rattle.axml_chunks.specs.Numbers.{number32}
use Rattle.axml_chunks.specs.Steps.{◌>>=◌, upto}
use Rattle.axml_chunks.proofs.Readings.{done, ok_is, bind_ok, passed}
use Rattle.axml_reader.specs.declared.doc.Attr.{Attr}
use Rattle.axml_reader.specs.Fields.{is_reference, reference_at, name_at, word_at, attr_at, attr_after, attrs_upto}
use Rattle.axml_reader.specs.Relation.{IsReference, IsReferenceAt, IsNameAt, IsAttr, AreAttrs}

refers_by_test : (count n : ℕ) → is_reference count n ≡ true → IsReference count n
refers_by_test count n e =
    elim (cases_eq n 4294967295) [
      | inl same ↦ inl same
      | inr other ↦ inr (ltb-true n count (rw (ne_eqb n 4294967295 other) at e))
    ]

pub test_by_reference : (count n : ℕ) → IsReference count n → is_reference count n ≡ true
test_by_reference count n (inl none) = rw (eq-eqb n 4294967295 none) refl
test_by_reference count n (inr below) =
    elim (cases_eq n 4294967295) [
      | inl same ↦ rw (eq-eqb n 4294967295 same) refl
      | inr other ↦ rw (ne_eqb n 4294967295 other) (lt-ltb n count below)
    ]

pub reference_found : (bytes : List ℕ) (count place n : ℕ) → reference_at bytes count place ≡ Ok n → IsReferenceAt bytes count place n
unfolding reference_at
reference_found bytes count place n e =
    let x = number32 bytes place in
    let p = passed (is_reference count x) (bad_reference place) x n e in
    record { is = sym p.1; refers = subst (λ (m : ℕ). IsReference count m) p.1 (refers_by_test count x p.0) }

pub reference_again : (bytes : List ℕ) (count place n : ℕ) → IsReferenceAt bytes count place n → reference_at bytes count place ≡ Ok n
unfolding reference_at
reference_again bytes count place n is = rw (← is.is, test_by_reference count n is.refers) refl

pub name_found : (bytes : List ℕ) (count place n : ℕ) → name_at bytes count place ≡ Ok n → IsNameAt bytes count place n
unfolding name_at
name_found bytes count place n e =
    let x = number32 bytes place in
    let p = passed (ltb x count) (bad_reference place) x n e in
    record { is = sym p.1; below = subst (λ (m : ℕ). m < count) p.1 (ltb-true x count p.0) }

pub name_again : (bytes : List ℕ) (count place n : ℕ) → IsNameAt bytes count place n → name_at bytes count place ≡ Ok n
unfolding name_at
name_again bytes count place n is = rw (← is.is, lt-ltb n count is.below) refl

word_found : (bytes : List ℕ) (count place n : ℕ) → word_at bytes count place ≡ Ok n → (n ≡ number32 bytes (place + 4)) × (get_or bytes (place + 3) 0 ≡ 3 → n < count)
unfolding word_at
word_found bytes count place n e =
    elim (cases_eq (get_or bytes (place + 3) 0) 3) [
      | inl string ↦
          (let t = name_found bytes count (place + 4) n (rw (eq-eqb (get_or bytes (place + 3) 0) 3 string) at e) in
          (t.is, λ _. t.below))
      | inr other ↦
          (let t = rw (ne_eqb (get_or bytes (place + 3) 0) 3 other) at e in
          (sym (ok_is (number32 bytes (place + 4)) n t), λ string. absurd (other string)))
    ]

word_again : (bytes : List ℕ) (count place n : ℕ) → n ≡ number32 bytes (place + 4) → (get_or bytes (place + 3) 0 ≡ 3 → n < count) → word_at bytes count place ≡ Ok n
unfolding word_at
word_again bytes count place n e below =
    elim (cases_eq (get_or bytes (place + 3) 0) 3) [
      | inl string ↦ rw (eq-eqb (get_or bytes (place + 3) 0) 3 string) (name_again bytes count (place + 4) n (record { is = e; below = below string }))
      | inr other ↦ rw (ne_eqb (get_or bytes (place + 3) 0) 3 other, e) refl
    ]

pub attr_found : (bytes : List ℕ) (count place : ℕ) (attr : Attr) → attr_at bytes count place ≡ Ok attr → IsAttr bytes count place attr
unfolding attr_at
attr_found bytes count place attr e =
    let kind = get_or bytes (place + 15) 0 in
    let a = bind_ok (reference_at bytes count place) (λ ns. name_at bytes count (place + 4) >>= λ name. reference_at bytes count (place + 8) >>= λ raw. word_at bytes count (place + 12) >>= λ word. Ok (record { ns = ns; name = name; raw = raw; kind = kind; word = word })) attr e in
    let b = bind_ok (name_at bytes count (place + 4)) (λ name. reference_at bytes count (place + 8) >>= λ raw. word_at bytes count (place + 12) >>= λ word. Ok (record { ns = a.0; name = name; raw = raw; kind = kind; word = word })) attr a.2 in
    let r = bind_ok (reference_at bytes count (place + 8)) (λ raw. word_at bytes count (place + 12) >>= λ word. Ok (record { ns = a.0; name = b.0; raw = raw; kind = kind; word = word })) attr b.2 in
    let w = bind_ok (word_at bytes count (place + 12)) (λ word. Ok (record { ns = a.0; name = b.0; raw = r.0; kind = kind; word = word })) attr r.2 in
    let made : Attr = record { ns = a.0; name = b.0; raw = r.0; kind = kind; word = w.0 } in
    let word = word_found bytes count (place + 12) w.0 w.1 in
    let p3 : place + 12 + 3 ≡ place + 15 = omega arith in
    let p4 : place + 12 + 4 ≡ place + 16 = omega arith in
    subst (λ (x : Attr). IsAttr bytes count place x) (ok_is made attr w.2)
    (record {
      ns = reference_found bytes count place a.0 a.1;
      name = name_found bytes count (place + 4) b.0 b.1;
      raw = reference_found bytes count (place + 8) r.0 r.1;
      kind_is = refl;
      word_is = rw p4 at word.0;
      string = rw p3 at word.1;
    })

pub attr_again : (bytes : List ℕ) (count place : ℕ) (attr : Attr) → IsAttr bytes count place attr → attr_at bytes count place ≡ Ok attr
unfolding attr_at
attr_again bytes count place attr is =
    let p3 : place + 12 + 3 ≡ place + 15 = omega arith in
    let p4 : place + 12 + 4 ≡ place + 16 = omega arith in
    let word : word_at bytes count (place + 12) ≡ Ok attr.word = word_again bytes count (place + 12) attr.word (rw p4 is.word_is) (rw (p3, ← is.kind_is) is.string) in
    rw (reference_again bytes count place attr.ns is.ns, name_again bytes count (place + 4) attr.name is.name, reference_again bytes count (place + 8) attr.raw is.raw, word, ← is.kind_is) refl

-- a fact of each item, with one item more
one_more : (P : ℕ → Attr → Type 0) (xs : List Attr) (x : Attr) (n : ℕ) → length xs ≡ n → P n x → ((k : ℕ) (a : Attr) → slice_get xs k ≡ Some a → P k a)
    → (k : ℕ) (a : Attr) → slice_get (xs ++ x ∷ []) k ≡ Some a → P k a
one_more P xs x n len here below k a there =
    let within : k < length (xs ++ x ∷ []) = slice_get_within (xs ++ x ∷ []) k a there in
    let is : get_or (xs ++ x ∷ []) k a ≡ a = get_or_from_slice_get (xs ++ x ∷ []) k a a there in
    elim (cases_lt k n) [
      | inl less ↦
          (let lt : k < length xs = omega (arith, less, len) in
          below k a (slice_get-get_or xs k a lt ∙ ap (λ (v : Attr). Some v) (sym (get_or_append_left xs (x ∷ []) a k lt) ∙ is)))
      | inr more ↦
          (let last : length xs ≡ k = omega (arith, more, len, within, length-append xs (x ∷ [])) in
          let same : x ≡ a = sym (get_or_push xs x a k last) ∙ is in
          subst (λ (v : Attr). P k v) same (subst (λ (j : ℕ). P j x) (sym len ∙ last) here))
    ]

pub attrs_found : (bytes : List ℕ) (count place step n : ℕ) (attrs : List Attr) → attrs_upto bytes count place step [] n ≡ Ok attrs → AreAttrs bytes count place step n attrs
unfolding upto
attrs_found bytes count place step zero attrs e =
    subst (λ (x : List Attr). AreAttrs bytes count place step 0 x) (ok_is [] attrs e) (record { count_is = refl; each = λ k a there. absurd (let within : k < 0 = slice_get_within [] k a there in omega (arith, within)) })
attrs_found bytes count place step (suc n) attrs e =
    let a = bind_ok (attrs_upto bytes count place step [] n) (λ so_far. attr_after bytes count place step so_far n) attrs e in
    let b = bind_ok (attr_at bytes count (place + n * step)) (λ attr. Ok (a.0 ++ attr ∷ [])) attrs a.2 in
    let before = attrs_found bytes count place step n a.0 a.1 in
    subst (λ (x : List Attr). AreAttrs bytes count place step (suc n) x) (ok_is (a.0 ++ b.0 ∷ []) attrs b.2) (record {
      count_is = omega (arith, before.count_is, length-append a.0 (b.0 ∷ []));
      each = one_more (λ k attr. IsAttr bytes count (place + k * step) attr) a.0 b.0 n before.count_is (attr_found bytes count (place + n * step) b.0 b.1) before.each;
    })

abbrev no_attr : Attr
no_attr = record { ns = 0; name = 0; raw = 0; kind = 0; word = 0 }

first_again : (bytes : List ℕ) (count place step n : ℕ) (attrs : List Attr) → AreAttrs bytes count place step n attrs → (m : ℕ) → m ≤ length attrs → attrs_upto bytes count place step [] m ≡ Ok (take m attrs)
unfolding upto
first_again bytes count place step n attrs are zero within = refl
first_again bytes count place step n attrs are (suc m) within =
    let lt : m < length attrs = omega (arith, within) in
    let one : suc m ≡ m + 1 = omega arith in
    let here : attr_at bytes count (place + m * step) ≡ Ok (get_or attrs m no_attr) = attr_again bytes count (place + m * step) (get_or attrs m no_attr) (are.each m (get_or attrs m no_attr) (slice_get-get_or attrs m no_attr lt)) in
    rw (first_again bytes count place step n attrs are m (omega (arith, within)), here, one, take_more attrs m no_attr lt) refl

pub attrs_again : (bytes : List ℕ) (count place step n : ℕ) (attrs : List Attr) → AreAttrs bytes count place step n attrs → attrs_upto bytes count place step [] n ≡ Ok attrs
attrs_again bytes count place step n attrs are =
    ap (λ (m : ℕ). attrs_upto bytes count place step [] m) (sym are.count_is)
    ∙ first_again bytes count place step n attrs are (length attrs) (omega arith)
    ∙ ap (λ (l : List Attr). done l) (take_all (length attrs) attrs (omega arith))
