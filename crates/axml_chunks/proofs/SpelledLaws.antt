-- The string that is read at a place is the one there, and the one there is read.
use Rattle.std.proofs.Common.{◌≡◌, ℕ, ◌+◌, ◌-◌, ◌*◌, ◌<◌, ◌≤◌, Bool, true, false, cond, ltb, eqb, List, [], ◌∷◌, length, drop, get_or, Option, Some, None, refl, sym, ap, subst, ◌∙◌, arith, inl, inr, length-take, length-drop}
use Rattle.std.specs.Prelude.{not, map, is_some, unwrap_or, slice_get, slice_range}
use Rattle.std.specs.List.{list_any}
use Rattle.std.specs.Str.{is_utf8, IsUtf8, encode_utf8_all}
use Rattle.std.specs.Char.Utf16.{utf16_chars, utf16_lossy_chars, has_unpaired_surrogate}
use Rattle.std.proofs.lemmas.Bool.{cases_lt, lt-ltb, le-ltb, ltb-true, ltb-false, eqb-true}
use Rattle.std.proofs.lemmas.Option.{slice_get-get_or, slice_get_within, get_or_from_slice_get}
use Rattle.std.proofs.lemmas.Str.{is_utf8-from_IsUtf8, IsUtf8-from_is_utf8}
use Rattle.axml_chunks.specs.Numbers.{number16}
use Rattle.axml_chunks.specs.Pool.{string_at}
use Rattle.axml_chunks.specs.Spelled.{IsByteLength, IsUtf8String, IsUnitLength, IsUtf16String, IsString}
use Rattle.axml_chunks.specs.Strings.{◌>>=◌, utf8_length, utf16_length, text_of_bytes, ended_bytes, utf8_text, units_at, text_of_units, ended_units, utf16_text}

some_is : {A : Type 0} (x y : A) → ◌≡◌ {A = Option A} (Some x) (Some y) → x ≡ y
some_is x y e = cc

then_some : {A B : Type 0} (o : Option A) (f : A → Option B) (y : B) → (o >>= f) ≡ Some y → (x : A) × (o ≡ Some x) × (f x ≡ Some y)
then_some (Some x) f y e = (x, refl, e)
then_some None f y e = absurd cc

-- a test for a fault that did not hold
unless_some : {A : Type 0} (b : Bool) (x : Option A) (y : A) → cond b None x ≡ Some y → (b ≡ false) × (x ≡ Some y)
unless_some true x y e = absurd cc
unless_some false x y e = (refl, e)

no_not : (a : Bool) → not a ≡ false → a ≡ true
no_not true e = refl
no_not false e = absurd cc

-- the byte at a place of the chunk
byte_there : (chunk : List ℕ) (i : ℕ) → i < length chunk → slice_get chunk i ≡ Some (get_or chunk i 0)
byte_there chunk i lt = slice_get-get_or chunk i 0 lt

abbrev one : ℕ → Option ℕ
one n = Some n

-- lengths in bytes

byte_length_found : (chunk : List ℕ) (i : ℕ) (r : ℕ × ℕ) → utf8_length chunk i ≡ Some r → IsByteLength chunk i r.0 r.1
unfolding utf8_length
byte_length_found chunk i r e =
    let first = get_or chunk i 0 in
    let long : Option (ℕ × ℕ) = cond (not (ltb (i + 1) (length chunk))) None (Some ((first - 128) * 256 + get_or chunk (i + 1) 0, i + 2)) in
    let a = unless_some (not (ltb i (length chunk))) (cond (ltb first 128) (Some (first, i + 1)) long) r e in
    let lt : i < length chunk = ltb-true i (length chunk) (no_not (ltb i (length chunk)) a.0) in
    elim (cases_lt first 128) [
      | inl low ↦
          (let same : (first, i + 1) ≡ r = some_is (first, i + 1) r (rw (lt-ltb first 128 low) at a.1) in
          subst (λ (p : ℕ × ℕ). IsByteLength chunk i p.0 p.1) same (inl (record { byte_is = byte_there chunk i lt; low = low; after_is = refl })))
      | inr high ↦
          (let b = unless_some (not (ltb (i + 1) (length chunk))) (Some ((first - 128) * 256 + get_or chunk (i + 1) 0, i + 2)) r (rw (le-ltb first 128 high) at a.1) in
          let next : i + 1 < length chunk = ltb-true (i + 1) (length chunk) (no_not (ltb (i + 1) (length chunk)) b.0) in
          let split : first ≡ 128 + (first - 128) = omega (arith, high) in
          subst (λ (p : ℕ × ℕ). IsByteLength chunk i p.0 p.1) (some_is ((first - 128) * 256 + get_or chunk (i + 1) 0, i + 2) r b.1)
          (inr (record { high = first - 128; low = get_or chunk (i + 1) 0; first_is = byte_there chunk i lt ∙ ap (λ (n : ℕ). one n) split; second_is = byte_there chunk (i + 1) next; n_is = refl; after_is = refl })))
    ]

byte_length_again : (chunk : List ℕ) (i n following : ℕ) → IsByteLength chunk i n following → utf8_length chunk i ≡ Some (n, following)
unfolding utf8_length
byte_length_again chunk i n following (inl is) =
    let lt : i < length chunk = slice_get_within chunk i n is.byte_is in
    let byte : get_or chunk i 0 ≡ n = get_or_from_slice_get chunk i n 0 is.byte_is in
    rw (lt-ltb i (length chunk) lt, byte, lt-ltb n 128 is.low, is.after_is) refl
byte_length_again chunk i n following (inr is) =
    let lt : i < length chunk = slice_get_within chunk i (128 + is.high) is.first_is in
    let next : i + 1 < length chunk = slice_get_within chunk (i + 1) is.low is.second_is in
    let first : get_or chunk i 0 ≡ 128 + is.high = get_or_from_slice_get chunk i (128 + is.high) 0 is.first_is in
    let second : get_or chunk (i + 1) 0 ≡ is.low = get_or_from_slice_get chunk (i + 1) is.low 0 is.second_is in
    let above : 128 ≤ 128 + is.high = omega arith in
    let back : 128 + is.high - 128 ≡ is.high = omega arith in
    rw (lt-ltb i (length chunk) lt, first, le-ltb (128 + is.high) 128 above, lt-ltb (i + 1) (length chunk) next, second, back, is.n_is, is.after_is) refl

-- bytes that are a text

by_test : (v : Bool) (bytes text : List ℕ) → is_utf8 bytes ≡ v → cond v (Some bytes) None ≡ Some text → (bytes ≡ text) × IsUtf8 text
by_test true bytes text v e = (let same = some_is bytes text e in (same, subst (λ (b : List ℕ). IsUtf8 b) same (IsUtf8-from_is_utf8 bytes v)))
by_test false bytes text v e = absurd cc

text_found : (bytes text : List ℕ) → text_of_bytes bytes ≡ Some text → (bytes ≡ text) × IsUtf8 text
unfolding text_of_bytes
text_found bytes text e = by_test (is_utf8 bytes) bytes text refl e

-- strings in UTF-8

length_of_range : (chunk : List ℕ) (i n : ℕ) → i + n ≤ length chunk → length (slice_range chunk i (i + n)) ≡ n
length_of_range chunk i n fits = omega (arith, fits, length-take (i + n - i) (drop i chunk), length-drop i chunk)

bytes_found : (chunk : List ℕ) (i : ℕ) (text : List ℕ) (units len : ℕ × ℕ) → IsByteLength chunk i units.0 units.1 → IsByteLength chunk units.1 len.0 len.1 → ended_bytes chunk len.1 len.0 ≡ Some text → IsUtf8String chunk i text
unfolding ended_bytes
bytes_found chunk i text units len units_is len_is e =
    let end = len.1 + len.0 in
    let zero = get_or chunk end 0 in
    let bytes = slice_range chunk len.1 end in
    let a = unless_some (not (ltb end (length chunk))) (cond (not (eqb zero 0)) None (text_of_bytes bytes)) text e in
    let lt : end < length chunk = ltb-true end (length chunk) (no_not (ltb end (length chunk)) a.0) in
    let b = unless_some (not (eqb zero 0)) (text_of_bytes bytes) text a.1 in
    let is_zero : zero ≡ 0 = eqb-true zero 0 (no_not (eqb zero 0) b.0) in
    let t = text_found bytes text b.1 in
    let within : len.1 + len.0 ≤ length chunk = omega (arith, lt) in
    let n : len.0 ≡ length text = sym (length_of_range chunk len.1 len.0 within) ∙ ap (λ (l : List ℕ). length l) t.0 in
    record {
      units = units.0;
      length_place = units.1;
      place = len.1;
      units_is = units_is;
      length_is = subst (λ (m : ℕ). IsByteLength chunk units.1 m len.1) n len_is;
      zero_is = subst (λ (m : ℕ). slice_get chunk (len.1 + m) ≡ Some 0) n (byte_there chunk end lt ∙ ap (λ (z : ℕ). one z) is_zero);
      bytes_are = subst (λ (m : ℕ). slice_range chunk len.1 (len.1 + m) ≡ text) n t.0;
      is_text = t.1;
    }

utf8_found : (chunk : List ℕ) (i : ℕ) (text : List ℕ) → utf8_text chunk i ≡ Some text → IsUtf8String chunk i text
unfolding utf8_text
utf8_found chunk i text e =
    let a = then_some (utf8_length chunk i) (λ units. utf8_length chunk units.1 >>= λ len. ended_bytes chunk len.1 len.0) text e in
    let b = then_some (utf8_length chunk a.0.1) (λ len. ended_bytes chunk len.1 len.0) text a.2 in
    bytes_found chunk i text a.0 b.0 (byte_length_found chunk i a.0 a.1) (byte_length_found chunk a.0.1 b.0 b.1) b.2

utf8_again : (chunk : List ℕ) (i : ℕ) (text : List ℕ) → IsUtf8String chunk i text → utf8_text chunk i ≡ Some text
unfolding utf8_text ended_bytes text_of_bytes
utf8_again chunk i text is =
    let end = is.place + length text in
    let lt : end < length chunk = slice_get_within chunk end 0 is.zero_is in
    let zero : get_or chunk end 0 ≡ 0 = get_or_from_slice_get chunk end 0 0 is.zero_is in
    rw (byte_length_again chunk i is.units is.length_place is.units_is, byte_length_again chunk is.length_place (length text) is.place is.length_is, lt-ltb end (length chunk) lt, zero, is.bytes_are, is_utf8-from_IsUtf8 text is.is_text) refl

-- lengths in units

unit_length_found : (chunk : List ℕ) (i : ℕ) (r : ℕ × ℕ) → utf16_length chunk i ≡ Some r → IsUnitLength chunk i r.0 r.1
unfolding utf16_length
unit_length_found chunk i r e =
    let first = number16 chunk i in
    let last : ℕ × ℕ = ((first - 32768) * 65536 + number16 chunk (i + 2), i + 4) in
    let long : Option (ℕ × ℕ) = cond (ltb (length chunk) (i + 4)) None (Some last) in
    let a = unless_some (ltb (length chunk) (i + 2)) (cond (ltb first 32768) (Some (first, i + 2)) long) r e in
    let fits : i + 2 ≤ length chunk = ltb-false (length chunk) (i + 2) a.0 in
    elim (cases_lt first 32768) [
      | inl low ↦
          (let same : (first, i + 2) ≡ r = some_is (first, i + 2) r (rw (lt-ltb first 32768 low) at a.1) in
          subst (λ (p : ℕ × ℕ). IsUnitLength chunk i p.0 p.1) same (inl (record { fits = fits; unit_is = refl; low = low; after_is = refl })))
      | inr high ↦
          (let b = unless_some (ltb (length chunk) (i + 4)) (Some last) r (rw (le-ltb first 32768 high) at a.1) in
          let split : first ≡ 32768 + (first - 32768) = omega (arith, high) in
          subst (λ (p : ℕ × ℕ). IsUnitLength chunk i p.0 p.1) (some_is last r b.1)
          (inr (record { high = first - 32768; fits = ltb-false (length chunk) (i + 4) b.0; first_is = split; n_is = refl; after_is = refl })))
    ]

unit_length_again : (chunk : List ℕ) (i n following : ℕ) → IsUnitLength chunk i n following → utf16_length chunk i ≡ Some (n, following)
unfolding utf16_length
unit_length_again chunk i n following (inl is) = rw (le-ltb (length chunk) (i + 2) is.fits, ← is.unit_is, lt-ltb n 32768 is.low, is.after_is) refl
unit_length_again chunk i n following (inr is) =
    let room : i + 2 ≤ length chunk = omega (arith, is.fits) in
    let above : 32768 ≤ 32768 + is.high = omega arith in
    let back : 32768 + is.high - 32768 ≡ is.high = omega arith in
    rw (le-ltb (length chunk) (i + 2) room, is.first_is, le-ltb (32768 + is.high) 32768 above, le-ltb (length chunk) (i + 4) is.fits, back, is.n_is, is.after_is) refl

-- strings in UTF-16

all_some : (os : List (Option ℕ)) → list_any (λ o. not (is_some o)) os ≡ false → os ≡ map (λ c. one c) (map (λ o. unwrap_or o 0xFFFD) os)
all_some [] e = refl
all_some (None ∷ os) e = absurd cc
all_some (Some c ∷ os) e = ap (λ (l : List (Option ℕ)). Some c ∷ l) (all_some os e)

no_none : (cs : List ℕ) → list_any (λ o. not (is_some o)) (map (λ c. one c) cs) ≡ false
no_none [] = refl
no_none (c ∷ cs) = no_none cs

unwrapped : (cs : List ℕ) → map (λ o. unwrap_or o 0xFFFD) (map (λ c. one c) cs) ≡ cs
unwrapped [] = refl
unwrapped (c ∷ cs) = ap (λ (l : List ℕ). c ∷ l) (unwrapped cs)

units_found : (chunk : List ℕ) (i : ℕ) (text : List ℕ) (len : ℕ × ℕ) → IsUnitLength chunk i len.0 len.1 → ended_units chunk len.1 len.0 ≡ Some text → IsUtf16String chunk i text
unfolding ended_units text_of_units
units_found chunk i text len len_is e =
    let end = len.1 + 2 * len.0 in
    let units = units_at chunk len.1 len.0 in
    let last : Option (List ℕ) = cond (has_unpaired_surrogate units) None (Some (encode_utf8_all (utf16_lossy_chars units))) in
    let a = unless_some (ltb (length chunk) (end + 2)) (cond (not (eqb (number16 chunk end) 0)) None last) text e in
    let b = unless_some (not (eqb (number16 chunk end) 0)) last text a.1 in
    let d = unless_some (has_unpaired_surrogate units) (Some (encode_utf8_all (utf16_lossy_chars units))) text b.1 in
    record {
      count = len.0;
      place = len.1;
      chars = utf16_lossy_chars units;
      length_is = len_is;
      fits = ltb-false (length chunk) (end + 2) a.0;
      zero_is = eqb-true (number16 chunk end) 0 (no_not (eqb (number16 chunk end) 0) b.0);
      units_spell = all_some (utf16_chars units) d.0;
      text_is = sym (some_is (encode_utf8_all (utf16_lossy_chars units)) text d.1);
    }

utf16_found : (chunk : List ℕ) (i : ℕ) (text : List ℕ) → utf16_text chunk i ≡ Some text → IsUtf16String chunk i text
unfolding utf16_text
utf16_found chunk i text e =
    let a = then_some (utf16_length chunk i) (λ len. ended_units chunk len.1 len.0) text e in
    units_found chunk i text a.0 (unit_length_found chunk i a.0 a.1) a.2

utf16_again : (chunk : List ℕ) (i : ℕ) (text : List ℕ) → IsUtf16String chunk i text → utf16_text chunk i ≡ Some text
unfolding utf16_text ended_units text_of_units
utf16_again chunk i text is =
    let end = is.place + 2 * is.count in
    let units = units_at chunk is.place is.count in
    let paired : has_unpaired_surrogate units ≡ false = ap (λ (os : List (Option ℕ)). list_any (λ o. not (is_some o)) os) is.units_spell ∙ no_none is.chars in
    let chars : utf16_lossy_chars units ≡ is.chars = ap (λ (os : List (Option ℕ)). map (λ o. unwrap_or o 0xFFFD) os) is.units_spell ∙ unwrapped is.chars in
    rw (unit_length_again chunk i is.count is.place is.length_is, le-ltb (length chunk) (end + 2) is.fits, is.zero_is, paired, chars, is.text_is) refl

pub string_found : (utf8 : Bool) (chunk : List ℕ) (i : ℕ) (text : List ℕ) → string_at utf8 chunk i ≡ Some text → IsString utf8 chunk i text
unfolding string_at
string_found true chunk i text e = utf8_found chunk i text e
string_found false chunk i text e = utf16_found chunk i text e

pub string_again : (utf8 : Bool) (chunk : List ℕ) (i : ℕ) (text : List ℕ) → IsString utf8 chunk i text → string_at utf8 chunk i ≡ Some text
unfolding string_at
string_again true chunk i text is = utf8_again chunk i text is
string_again false chunk i text is = utf16_again chunk i text is
