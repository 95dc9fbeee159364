-- Bytes that are read are those of the state that was read, and no others.
use Rattle.std.proofs.Common.{◌≡◌, ℕ, zero, suc, ◌+◌, ◌-◌, ◌<◌, ◌≤◌, Bool, true, false, cond, eqb, ltb, List, [], ◌∷◌, ◌++◌, length, get_or, take, drop, not, ◌||◌, ◌&&◌, Result, Ok, Err, IfOk, refl, sym, ◌∙◌, ap, subst, arith, inl, inr, slice_index, ◌⊎◌, append_assoc}
use Rattle.std.proofs.Math.Seq.{drop-cons}
use Rattle.std.proofs.lemmas.Bool.{and_parts, cases_Bool, cases_lt, eq-eqb, ltb-false, ltb-true}
use Rattle.std.proofs.lemmas.Bool.Decides.{nat_tests}
use Rattle.std.proofs.lemmas.List.{drop-drop, get_or-drop, get_or-take, get_or_past, length-drop, length-take, nil_from_length, take-append-drop}
use Rattle.std.proofs.lemmas.List.Concat.{flat_map-cons}
use Rattle.std.proofs.lemmas.Nat.{le_bytes_2, le_bytes_4}
use Rattle.std.proofs.lemmas.Str.{IsUtf8-from_is_utf8, encodes-chars, scalars-chars}
use Rattle.std.specs.Int.{from_le_bytes, w16, w32}
use Rattle.std.specs.List.{flat_map}
use Rattle.std.specs.Prelude.{chars, encode_utf8_all}
use Rattle.std.specs.Str.{is_utf8}
use lib.Utf8.{scalars}
use Rattle.byteorder.specs.Endian.{little_bytes, little_number}
use Rattle.byteorder.specs.Numbers.{little_from-lt, little_from-take}
use Rattle.saved_state.proofs.StateLaws.{ahead, read_end}
use Rattle.saved_state.specs.Answers.{ReadAs}
use Rattle.saved_state.specs.State.{◌>>=◌, IsState, IsValue, IsValueOf, RisesFrom, StateEntry, decoded, encoded_as, entries_of, entry_bytes, entry_of, entry_size, has_kind, head_of, id_of, kind_of, offset_of, text_of, value_bytes, value_of, value_size, words_of}
use Rattle.view_model.specs.declared.fault.Fault.{Fault}
use Rattle.saved_state.specs.declared.value.Value.{Value}
use Rattle.saved_state.specs.declared.value.Value.TheVariants.{Offset, Text}

-- a list of bytes
abbrev pub AreBytes : List ℕ → Type 0
AreBytes bytes = (i : ℕ) → get_or bytes i 0 < 256

bytes_after : (n : ℕ) (bytes : List ℕ) → AreBytes bytes → AreBytes (drop n bytes)
bytes_after n bytes fit i = rw get_or-drop (fit (n + i))

bytes_before : (n : ℕ) (bytes : List ℕ) → AreBytes bytes → AreBytes (take n bytes)
bytes_before n bytes fit i = elim (cases_lt i n) [
  | inl lower ↦ rw (get_or-take n bytes i 0 lower) (fit i)
  | inr upper ↦ rw (get_or_past (take n bytes) i 0 (omega (arith, length-take n bytes))) (omega arith)
]

abbrev done : {A : Type 0} → A → Result A ℕ
done x = Ok x

ok_is : {A : Type 0} (x y : A) → done x ≡ done y → x ≡ y
ok_is x y e = cc

-- the value of a step that did not fail
bind_ok : {A B : Type 0} (r : Result A ℕ) (f : A → Result B ℕ) (y : B) → (r >>= f) ≡ Ok y → (x : A) × (r ≡ Ok x) × (f x ≡ Ok y)
bind_ok (Ok x) f y e = (x, refl, e)
bind_ok (Err place) f y e = absurd cc

-- a test for a fault that did not hold
guard_ok : {A : Type 0} (b : Bool) (place : ℕ) (r : Result A ℕ) (y : A) → cond b (Err place) r ≡ Ok y → (b ≡ false) × (r ≡ Ok y)
guard_ok true place r y e = absurd cc
guard_ok false place r y e = (refl, e)

or_false : (a b : Bool) → (a || b) ≡ false → (a ≡ false) × (b ≡ false)
or_false true b e = absurd (let n : true ≡ false = e in cc)
or_false false b e = (refl, e)

not_false : (b : Bool) → not b ≡ false → b ≡ true
not_false true e = refl
not_false false e = absurd (let n : true ≡ false = e in cc)

eqb_is : (m n : ℕ) → eqb m n ≡ true → m ≡ n
eqb_is m n e = grind (arith, nat_tests)

-- a number is written as the bytes from which it was read
number_2 : (bytes : List ℕ) → AreBytes bytes → 2 ≤ length bytes → bytes ≡ little_bytes 2 (little_number 2 bytes) ++ drop 2 bytes
number_2 bytes fit there =
    let same : little_number 2 bytes ≡ from_le_bytes w16 (take 2 bytes) = sym (little_from-take 0 2 2 bytes (omega arith)) ∙ omega arith in
    let back = le_bytes_2 (take 2 bytes) (little_number 2 bytes) (omega (arith, length-take 2 bytes)) (bytes_before 2 bytes fit) same in
    sym (take-append-drop 2 bytes) ∙ ap (λ (front : List ℕ). front ++ drop 2 bytes) (sym back)

number_4 : (bytes : List ℕ) → AreBytes bytes → 4 ≤ length bytes → bytes ≡ little_bytes 4 (little_number 4 bytes) ++ drop 4 bytes
number_4 bytes fit there =
    let same : little_number 4 bytes ≡ from_le_bytes w32 (take 4 bytes) = sym (little_from-take 0 4 4 bytes (omega arith)) ∙ omega arith in
    let back = le_bytes_4 (take 4 bytes) (little_number 4 bytes) (omega (arith, length-take 4 bytes)) (bytes_before 4 bytes fit) same in
    sym (take-append-drop 4 bytes) ∙ ap (λ (front : List ℕ). front ++ drop 4 bytes) (sym back)

-- what a field of bytes is that was read, and the bytes after it

record IsId (before id : ℕ) (bytes : List ℕ) : Type 0 where
  above : before < id
  fits : id < 4294967296
  cells : bytes ≡ little_bytes 4 id ++ drop 4 bytes

id_found : (before place id : ℕ) (bytes : List ℕ) → AreBytes bytes → id_of before place bytes ≡ Ok id → IsId before id bytes
unfolding id_of
id_found before place id bytes fit is =
    let short = guard_ok (ltb (length bytes) 4) place _ id is in
    let above = guard_ok (not (ltb before (little_number 4 bytes))) place _ id short.1 in
    let rises : before < little_number 4 bytes = ltb-true before (little_number 4 bytes) (not_false (ltb before (little_number 4 bytes)) above.0) in
    let few : little_number 4 bytes < 4294967296 = little_from-lt 0 4 bytes fit in
    subst (λ (id : ℕ). IsId before id bytes) (ok_is (little_number 4 bytes) id above.1)
    (record { above = rises; fits = few; cells = number_4 bytes fit (ltb-false (length bytes) 4 short.0) })

kind_found : (version place kind : ℕ) (bytes : List ℕ) → kind_of version place bytes ≡ Ok kind → (has_kind version kind ≡ true) × (bytes ≡ kind ∷ drop 1 bytes)
unfolding kind_of
kind_found version place kind bytes is =
    let tests = guard_ok (ltb (length bytes) 1 || not (has_kind version (slice_index bytes 0))) place _ kind is in
    let both = or_false (ltb (length bytes) 1) (not (has_kind version (slice_index bytes 0))) tests.0 in
    let there : 0 < length bytes = let long = ltb-false (length bytes) 1 both.0 in omega arith in
    subst (λ (kind : ℕ). (has_kind version kind ≡ true) × (bytes ≡ kind ∷ drop 1 bytes)) (ok_is (slice_index bytes 0) kind tests.1)
    (not_false (has_kind version (slice_index bytes 0)) both.1, drop-cons bytes 0 0 there)

offset_found : (place offset : ℕ) (bytes : List ℕ) → AreBytes bytes → offset_of place bytes ≡ Ok offset → (offset ≤ 16777215) × (bytes ≡ little_bytes 4 offset ++ drop 4 bytes)
unfolding offset_of
offset_found place offset bytes fit is =
    let short = guard_ok (ltb (length bytes) 4) place _ offset is in
    let few = guard_ok (ltb 16777215 (little_number 4 bytes)) place _ offset short.1 in
    subst (λ (offset : ℕ). (offset ≤ 16777215) × (bytes ≡ little_bytes 4 offset ++ drop 4 bytes)) (ok_is (little_number 4 bytes) offset few.1)
    (ltb-false 16777215 (little_number 4 bytes) few.0, number_4 bytes fit (ltb-false (length bytes) 4 short.0))

record IsWords (count : ℕ) (text bytes : List ℕ) : Type 0 where
  valid : scalars text ≡ true
  count_is : length (encode_utf8_all text) ≡ count
  cells : bytes ≡ encode_utf8_all text ++ drop count bytes

words_found : (count place : ℕ) (text bytes : List ℕ) → words_of count place bytes ≡ Ok text → IsWords count text bytes
unfolding words_of
words_found count place text bytes is =
    let tests = guard_ok (ltb (length bytes) count || not (is_utf8 (take count bytes))) place _ text is in
    let both = or_false (ltb (length bytes) count) (not (is_utf8 (take count bytes))) tests.0 in
    let there : count ≤ length bytes = ltb-false (length bytes) count both.0 in
    let utf8 = IsUtf8-from_is_utf8 (take count bytes) (not_false (is_utf8 (take count bytes)) both.1) in
    let back : encode_utf8_all (chars (take count bytes)) ≡ take count bytes = encodes-chars (take count bytes) utf8 in
    subst (λ (text : List ℕ). IsWords count text bytes) (ok_is (chars (take count bytes)) text tests.1)
    (record {
      valid = scalars-chars (take count bytes) utf8;
      count_is = ap length back ∙ omega (arith, length-take count bytes);
      cells = sym (take-append-drop count bytes) ∙ ap (λ (front : List ℕ). front ++ drop count bytes) (sym back);
    })

record IsFound (text bytes : List ℕ) : Type 0 where
  fits : IsValue (Text text)
  cells : bytes ≡ (little_bytes 2 (length (encode_utf8_all text)) ++ encode_utf8_all text) ++ drop (2 + length (encode_utf8_all text)) bytes

text_found : (place : ℕ) (text bytes : List ℕ) → AreBytes bytes → text_of place bytes ≡ Ok text → IsFound text bytes
unfolding text_of
text_found place text bytes fit is =
    let short = guard_ok (ltb (length bytes) 2) place _ text is in
    let count = little_number 2 bytes in
    let words = words_found count (place + 2) text (drop 2 bytes) short.1 in
    let few : count < 65536 = little_from-lt 0 2 bytes fit in
    let tail : drop 2 bytes ≡ encode_utf8_all text ++ drop (2 + length (encode_utf8_all text)) bytes =
    words.cells
    ∙ ap (λ (n : ℕ). encode_utf8_all text ++ drop n (drop 2 bytes)) (sym words.count_is)
    ∙ ap (λ (rest : List ℕ). encode_utf8_all text ++ rest) (drop-drop (length (encode_utf8_all text)) 2 bytes) in
    record {
      fits = (words.valid, let same = words.count_is in omega arith);
      cells =
          number_2 bytes fit (ltb-false (length bytes) 2 short.0)
          ∙ ap (λ (rest : List ℕ). little_bytes 2 count ++ rest) tail
          ∙ ap (λ (n : ℕ). little_bytes 2 n ++ (encode_utf8_all text ++ drop (2 + length (encode_utf8_all text)) bytes)) (sym words.count_is)
          ∙ sym (append_assoc (little_bytes 2 (length (encode_utf8_all text))) (encode_utf8_all text) (drop (2 + length (encode_utf8_all text)) bytes));
    }

-- the kind of a value, and the value
module _ (version place : ℕ) (bytes : List ℕ) (fit : AreBytes bytes) where
  record IsPart (kind : ℕ) (value : Value) : Type 0 where
    fits : IsValueOf version value
    cells : kind ∷ bytes ≡ value_bytes value ++ drop (value_size value) bytes

  value_found : (kind : ℕ) (value : Value) → has_kind version kind ≡ true → value_of kind place bytes ≡ Ok value → IsPart kind value
  value_found kind value has is = elim (cases_Bool (eqb kind 1)) [
    | inl one ↦
        let same : kind ≡ 1 = eqb_is kind 1 one in
        let read = bind_ok (offset_of place bytes) (λ (offset : ℕ). Ok (Offset offset)) value (rw one at is) in
        let found = offset_found place read.0 bytes fit read.1 in
        subst (IsPart kind) (ok_is (Offset read.0) value read.2)
        (record { fits = found.0; cells = ap (λ (kind : ℕ). kind ∷ bytes) same ∙ ap (λ (rest : List ℕ). 1 ∷ rest) found.1 })
    | inr other ↦
        let text_kind : (not (eqb version 1) && eqb kind 2) ≡ true = rw other at has in
        let both = and_parts (not (eqb version 1)) (eqb kind 2) text_kind in
        let same : kind ≡ 2 = eqb_is kind 2 both.1 in
        let read = bind_ok (text_of place bytes) (λ (text : List ℕ). Ok (Text text)) value (rw other at is) in
        let found = text_found place read.0 bytes fit read.1 in
        subst (IsPart kind) (ok_is (Text read.0) value read.2)
        (record {
          fits = (λ first. absurd (let t = both.0 in let e = eq-eqb version 1 first in let n : not true ≡ true = rw e at t in let m : false ≡ true = n in cc), found.fits);
          cells = ap (λ (kind : ℕ). kind ∷ bytes) same ∙ ap (λ (rest : List ℕ). 2 ∷ rest) found.cells;
        })
  ]

record IsEntryOf (version before : ℕ) (entry : StateEntry) (bytes : List ℕ) : Type 0 where
  above : before < entry.0
  fits : entry.0 < 4294967296
  value : IsValueOf version entry.1
  cells : bytes ≡ entry_bytes entry ++ drop (entry_size entry.1) bytes

-- the bytes of an entry are its id, and its kind with its value
joined : (id : ℕ) (value : Value) (bytes : List ℕ) → bytes ≡ little_bytes 4 id ++ (value_bytes value ++ drop (value_size value) (drop 5 bytes))
    → bytes ≡ entry_bytes (id, value) ++ drop (entry_size value) bytes
joined id (Offset offset) bytes is = is ∙ ap (λ (rest : List ℕ). little_bytes 4 id ++ (value_bytes (Offset offset) ++ rest)) (drop-drop 4 5 bytes)
joined id (Text text) bytes is =
    is
    ∙ ap (λ (rest : List ℕ). little_bytes 4 id ++ (value_bytes (Text text) ++ rest))
    (drop-drop (2 + length (encode_utf8_all text)) 5 bytes ∙ ap (λ (n : ℕ). drop n bytes) (let e : 5 + (2 + length (encode_utf8_all text)) ≡ 7 + length (encode_utf8_all text) = omega arith in e))
    ∙ sym (append_assoc (little_bytes 4 id) (value_bytes (Text text)) (drop (7 + length (encode_utf8_all text)) bytes))

entry_found : (version before place : ℕ) (entry : StateEntry) (bytes : List ℕ) → AreBytes bytes → entry_of version before place bytes ≡ Ok entry → IsEntryOf version before entry bytes
unfolding entry_of
entry_found version before place entry bytes fit is =
    let id = bind_ok (id_of before place bytes) _ entry is in
    let kind = bind_ok (kind_of version (place + 4) (drop 4 bytes)) _ entry id.2 in
    let value = bind_ok (value_of kind.0 (place + 5) (drop 5 bytes)) _ entry kind.2 in
    let first = id_found before place id.0 bytes fit id.1 in
    let second = kind_found version (place + 4) kind.0 (drop 4 bytes) kind.1 in
    let third = value_found version (place + 5) (drop 5 bytes) (bytes_after 5 bytes fit) kind.0 value.0 second.0 value.1 in
    let rest : drop 4 bytes ≡ value_bytes value.0 ++ drop (value_size value.0) (drop 5 bytes) =
    second.1 ∙ ap (λ (rest : List ℕ). kind.0 ∷ rest) (drop-drop 1 4 bytes) ∙ third.cells in
    subst (λ (entry : StateEntry). IsEntryOf version before entry bytes) (ok_is (id.0, value.0) entry value.2)
    (record {
      above = first.above;
      fits = first.fits;
      value = third.fits;
      cells = joined id.0 value.0 bytes (first.cells ∙ ap (λ (rest : List ℕ). little_bytes 4 id.0 ++ rest) rest);
    })

record AreEntries (version before n : ℕ) (entries : List StateEntry) (bytes : List ℕ) : Type 0 where
  rises : RisesFrom version before entries
  count : length entries ≡ n
  cells : bytes ≡ flat_map entry_bytes entries

entries_found : (version n before place : ℕ) (entries : List StateEntry) (bytes : List ℕ) → AreBytes bytes → entries_of version n before place bytes ≡ Ok entries
    → AreEntries version before n entries bytes
entries_found version zero before place entries bytes fit is =
    let end = guard_ok (ltb 0 (length bytes)) place (Ok []) entries is in
    let none : length bytes ≡ 0 = let e = ltb-false 0 (length bytes) end.0 in omega arith in
    subst (λ (made : List StateEntry). AreEntries version before 0 made bytes) (ok_is [] entries end.1) (record { rises = tt; count = refl; cells = nil_from_length bytes none })
entries_found version (suc n) before place entries bytes fit is =
    let first = bind_ok (entry_of version before place bytes) _ entries is in
    let size = entry_size first.0.1 in
    let rest = bind_ok (entries_of version n first.0.0 (place + size) (drop size bytes)) _ entries first.2 in
    let own = entry_found version before place first.0 bytes fit first.1 in
    let more = entries_found version n first.0.0 (place + size) rest.0 (drop size bytes) (bytes_after size bytes fit) rest.1 in
    let cells : bytes ≡ entry_bytes first.0 ++ flat_map entry_bytes rest.0 = own.cells ∙ ap (λ (list : List ℕ). entry_bytes first.0 ++ list) more.cells in
    subst (λ (made : List StateEntry). AreEntries version before (suc n) made bytes) (ok_is (first.0 ∷ rest.0) entries rest.2)
    (record { rises = (own.above, own.fits, own.value, more.rises); count = ap suc more.count; cells = rw flat_map-cons cells })

record IsStateHead (bytes : List ℕ) (version count : ℕ) : Type 0 where
  known : (version ≡ 1) ⊎ (version ≡ 2)
  version_is : version ≡ slice_index bytes 2
  few : count < 65536
  cells : bytes ≡ 86 ∷ 83 ∷ version ∷ (little_bytes 2 count ++ drop 5 bytes)

-- the bytes are those of the head of their version and count, and what follows
head_cells : (bytes : List ℕ) → AreBytes bytes → 5 ≤ length bytes → slice_index bytes 0 ≡ 86 → slice_index bytes 1 ≡ 83
    → bytes ≡ 86 ∷ 83 ∷ slice_index bytes 2 ∷ (little_bytes 2 (little_number 2 (drop 3 bytes)) ++ drop 5 bytes)
head_cells bytes fit there v s =
    let long : 2 ≤ length (drop 3 bytes) = omega (arith, length-drop 3 bytes) in
    let first : bytes ≡ 86 ∷ drop 1 bytes = drop-cons bytes 0 0 (omega arith) ∙ ap (λ (byte : ℕ). byte ∷ drop 1 bytes) v in
    let second : drop 1 bytes ≡ 83 ∷ drop 2 bytes = drop-cons bytes 1 0 (omega arith) ∙ ap (λ (byte : ℕ). byte ∷ drop 2 bytes) s in
    let third : drop 2 bytes ≡ slice_index bytes 2 ∷ drop 3 bytes = drop-cons bytes 2 0 (omega arith) in
    let counted : drop 3 bytes ≡ little_bytes 2 (little_number 2 (drop 3 bytes)) ++ drop 5 bytes =
    number_2 (drop 3 bytes) (bytes_after 3 bytes fit) long
    ∙ ap (λ (rest : List ℕ). little_bytes 2 (little_number 2 (drop 3 bytes)) ++ rest) (drop-drop 2 3 bytes) in
    first
    ∙ ap (λ (rest : List ℕ). 86 ∷ rest) second
    ∙ ap (λ (rest : List ℕ). 86 ∷ 83 ∷ rest) third
    ∙ ap (λ (rest : List ℕ). 86 ∷ 83 ∷ slice_index bytes 2 ∷ rest) counted

head_found : (bytes : List ℕ) (head : ℕ × ℕ) → AreBytes bytes → head_of bytes ≡ Ok head → IsStateHead bytes head.0 head.1
unfolding head_of
head_found bytes head fit is =
    let v = slice_index bytes 2 in
    let letters = guard_ok (ltb (length bytes) 2 || not (eqb (slice_index bytes 0) 86) || not (eqb (slice_index bytes 1) 83)) 0 _ head is in
    let version = guard_ok (ltb (length bytes) 3 || not (eqb v 1 || eqb v 2)) 2 _ head letters.1 in
    let whole = guard_ok (ltb (length bytes) 5) 3 _ head version.1 in
    let known : (v ≡ 1) ⊎ (v ≡ 2) = either v (not_false (eqb v 1 || eqb v 2) (or_false (ltb (length bytes) 3) (not (eqb v 1 || eqb v 2)) version.0).1) in
    subst (λ (head : ℕ × ℕ). IsStateHead bytes head.0 head.1) (ok_is (v, little_number 2 (drop 3 bytes)) head whole.1)
    (record {
      known = known;
      version_is = refl;
      few = little_from-lt 0 2 (drop 3 bytes) (bytes_after 3 bytes fit);
      cells = head_cells bytes fit (ltb-false (length bytes) 5 whole.0) (grind (arith, nat_tests, letters.0)) (grind (arith, nat_tests, letters.0));
    })
  where
    either : (v : ℕ) → (eqb v 1 || eqb v 2) ≡ true → (v ≡ 1) ⊎ (v ≡ 2)
    either v e = elim (cases_Bool (eqb v 1)) [
      | inl one ↦ inl (eqb_is v 1 one)
      | inr other ↦ inr (let two : eqb v 2 ≡ true = rw other at e in eqb_is v 2 two)
    ]

-- bytes that are read are those of the state that was read
pub decoded_found : (bytes : List ℕ) (entries : List StateEntry) → AreBytes bytes → decoded bytes ≡ Ok entries
    → IsState (slice_index bytes 2) entries × (bytes ≡ encoded_as (slice_index bytes 2) entries)
unfolding decoded
decoded_found bytes entries fit is =
    let read = bind_ok (head_of bytes) (λ (head : ℕ × ℕ). entries_of head.0 head.1 0 5 (drop 5 bytes)) entries is in
    let head = head_found bytes read.0 fit read.1 in
    let found = entries_found read.0.0 read.0.1 0 5 entries (drop 5 bytes) (bytes_after 5 bytes fit) read.2 in
    subst (λ (version : ℕ). IsState version entries × (bytes ≡ encoded_as version entries)) head.version_is (
      record { known = head.known; rises = found.rises; few = let a = found.count in let b = head.few in omega arith },
      head.cells
          ∙ ap (λ (rest : List ℕ). 86 ∷ 83 ∷ read.0.0 ∷ (little_bytes 2 read.0.1 ++ rest)) found.cells
          ∙ ap (λ (count : ℕ). 86 ∷ 83 ∷ read.0.0 ∷ (little_bytes 2 count ++ flat_map entry_bytes entries)) (sym found.count),
    )

-- a state of the first version is one of the second
rises_later : (version before : ℕ) (entries : List StateEntry) → RisesFrom version before entries → RisesFrom 2 before entries
rises_later version before [] rises = tt
rises_later version before (entry ∷ entries) rises = (rises.0, rises.1, later entry.1 rises.2, rises_later version entry.0 entries rises.3)
  where
    later : (value : Value) → IsValueOf version value → IsValueOf 2 value
    later (Offset offset) fits = fits
    later (Text text) fits = (λ same. absurd (omega arith), fits.1)

state_found : (version n place : ℕ) (entries : List StateEntry) (bytes : List ℕ) → AreBytes bytes → n < 65536 → entries_of version n 0 place bytes ≡ Ok entries → IsState 2 entries
state_found version n place entries bytes fit few is =
    let found = entries_found version n 0 place entries bytes fit is in
    record { known = inr refl; rises = rises_later version 0 entries found.rises; few = let a = found.count in omega arith }

-- once all entries are read
pub state_read : (version count before place counter : ℕ) (bytes : List ℕ) (done : List StateEntry) → AreBytes bytes → count < 65536 → count ≤ counter → length bytes ≤ place
    → ahead done (entries_of version (count - counter) before place (drop place bytes)) ≡ entries_of version count 0 5 (drop 5 bytes) → IsState 2 done
state_read version count before place counter bytes done fit few none over rest =
    state_found version count 5 done (drop 5 bytes) (bytes_after 5 bytes fit) few (sym rest ∙ read_end version done before place bytes count counter none over)

-- what was read, as it is returned
pub found_of : (bytes : List ℕ) (result : Result (List StateEntry) Fault) → AreBytes bytes → ReadAs (decoded bytes) result
    → IfOk result (λ (entries : List StateEntry). IsState (slice_index bytes 2) entries × (bytes ≡ encoded_as (slice_index bytes 2) entries))
found_of bytes (Ok made) fit is = decoded_found bytes made fit is
found_of bytes (Err fault) fit is = tt
