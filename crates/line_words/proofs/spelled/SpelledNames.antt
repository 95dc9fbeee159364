-- How a line names a view, read from its text.
use Rattle.std.proofs.Common.{◌≡◌, ℕ, suc, zero, ◌+◌, ◌*◌, ◌/◌, ◌%◌, ◌<◌, ◌≤◌, ◌^◌, true, false, pow-suc, refl, ap, ◌∙◌, inl, inr, List, [], ◌∷◌, length, arith}
use Rattle.std.specs.Prelude.{◌==◌, ◌&&◌, nat_lt, nat_le, fold, codes, Option, Some, None, Ok, IfSome}
use Rattle.std.specs.Char.{is_ascii_graphic, is_ascii_hexdigit}
use Rattle.std.specs.Fmt.{decimal, digits, digits_onto, digit_glyph}
use Rattle.std.specs.List.{list_all}
use Rattle.std.proofs.lemmas.Bool.{cases_Bool}
use Rattle.std.proofs.lemmas.Bool.Decides.{nat_tests}
use Rattle.std.proofs.lemmas.Fmt.{digits_is_IsNumeral}
use Rattle.line_words.specs.words.Names.{begins_with, hex_digit_of, hex_of, hex_value, id_of, name_of, parent_of}
use Rattle.line_words.specs.Spelled.{HasText, name_text, parent_text}
use Rattle.line_words.specs.words.Words.{map_ok}
use Rattle.line_words.specs.declared.words.naming.Name.{Name}
use Rattle.line_words.specs.declared.words.naming.Name.TheVariants.{Number, Id}
use Rattle.line_words.proofs.texts.BothLaws.{and-left, and-right}
use Rattle.line_words.proofs.spelled.SpelledNumbers.{and-no, decimal_word, natural_of-decimal}
use Rattle.line_words.proofs.spelled.SpelledWords.{IsWord, word_by}

hex_graphic : (b : ℕ) → is_ascii_hexdigit b ≡ true → is_ascii_graphic b ≡ true
hex_graphic b h = grind (arith, nat_tests)

pub all_graphic : (ds : List ℕ) → list_all is_ascii_hexdigit ds ≡ true → list_all is_ascii_graphic ds ≡ true
all_graphic [] h = refl
all_graphic (b ∷ bs) h = rw (hex_graphic b (and-left (is_ascii_hexdigit b) (list_all is_ascii_hexdigit bs) h)) (all_graphic bs (and-right (is_ascii_hexdigit b) (list_all is_ascii_hexdigit bs) h))

pub glyph_digit : (d : ℕ) → d < 16 → is_ascii_hexdigit (digit_glyph false d) ≡ true
glyph_digit d h = grind (arith, nat_tests)

pub glyph_value : (d : ℕ) → d < 16 → hex_digit_of (digit_glyph false d) ≡ d
unfolding hex_digit_of
glyph_value d h = grind (arith, nat_tests)

abbrev hex_from : ℕ → List ℕ → ℕ
hex_from n ds = fold (λ n d. 16 * n + hex_digit_of d) n ds

-- the last digits of a number, and then others
record HexOnto (k n : ℕ) (acc ds : List ℕ) : Type 0 where
  digits : list_all is_ascii_hexdigit ds ≡ list_all is_ascii_hexdigit acc
  value : hex_from 0 ds ≡ hex_from n acc
  long : length acc ≤ length ds
  short : (j : ℕ) → 0 < j → n < 16 ^ j → length ds ≤ j + length acc

pub shorter : (k n : ℕ) → n < 16 ^ suc k → n / 16 < 16 ^ k
shorter k n h = let e : 16 ^ suc k ≡ 16 ^ k * 16 = pow-suc 16 k in omega (arith, e, h)

-- one digit less has a bound that is lower by one
shorter_by : (j n rest whole : ℕ) → 0 < j → n < 16 ^ j → 0 < n / 16 → ((i : ℕ) → 0 < i → n / 16 < 16 ^ i → whole ≤ i + suc rest) → whole ≤ j + rest
shorter_by zero n rest whole some below more short = absurd (omega (arith, some))
shorter_by (suc zero) n rest whole some below more short = absurd (let e : 16 ^ 1 ≡ 16 = refl in omega (arith, e, below, more))
shorter_by (suc (suc i)) n rest whole some below more short = omega (arith, short (suc i) (omega arith) (shorter (suc i) n below))

hex_onto : (k n : ℕ) (acc : List ℕ) → n < 16 ^ k → HexOnto k n acc (digits_onto k 16 false n acc)
hex_onto zero n acc h = record {
  digits = refl;
  value = ap (λ n. hex_from n acc) (let e : 0 ≡ n = omega (arith, h) in e);
  long = omega arith;
  short = λ j some below. omega arith;
}
hex_onto (suc k) n acc h =
    let d = n % 16 in
    let small : n % 16 < 16 = omega arith in
    let more : List ℕ = digit_glyph false (n % 16) ∷ acc in
    let glyph = glyph_digit (n % 16) small in
    let value = glyph_value (n % 16) small in
    elim (cases_Bool (n / 16 == 0)) [
      | inl e ↦ rw e (
          let last : n / 16 ≡ 0 = grind (arith, nat_tests) in
          let same : 16 * 0 + n % 16 ≡ n = omega (arith, last) in
          record {
            digits = ap (λ b. b && list_all is_ascii_hexdigit acc) glyph;
            value = ap (λ v. hex_from (16 * 0 + v) acc) value ∙ ap (λ n. hex_from n acc) same;
            long = omega arith;
            short = λ j some below. omega (arith, some);
          })
      | inr e ↦ rw e (
          let fewer : n / 16 < 16 ^ k = shorter k n h in
          let same : 16 * (n / 16) + n % 16 ≡ n = omega arith in
          let rest = hex_onto k (n / 16) more fewer in
          record {
            digits = rest.digits ∙ ap (λ b. b && list_all is_ascii_hexdigit acc) glyph;
            value = rest.value ∙ ap (λ v. hex_from (16 * (n / 16) + v) acc) value ∙ ap (λ n. hex_from n acc) same;
            long = omega (arith, rest.long);
            short = λ j some below. shorter_by j n (length acc) (length (digits_onto k 16 false (n / 16) more)) some below (grind (arith, nat_tests)) (λ i some below. rest.short i some below);
          })
    ]

record HexText (n : ℕ) (ds : List ℕ) : Type 0 where
  digits : list_all is_ascii_hexdigit ds ≡ true
  value : hex_value ds ≡ n
  some : 0 < length ds
  short : length ds ≤ 8

hex_some : (n : ℕ) → n < 2 ^ 32 → 0 < length (digits 16 false n)
hex_some n h = (digits_is_IsNumeral 16 false (omega arith) (omega arith) n (omega (arith, h))).0.0

hex_text : (n : ℕ) → n < 2 ^ 32 → HexText n (digits 16 false n)
unfolding digits
hex_text n h =
    let all = hex_onto 64 n [] (omega (arith, h)) in
    record { digits = all.digits; value = all.value; some = hex_some n h; short = all.short 8 (omega arith) (omega (arith, h)) }

hex_of-digits : (n : ℕ) → n < 2 ^ 32 → hex_of (digits 16 false n) ≡ Some n
unfolding hex_of
hex_of-digits n h =
    let t = hex_text n h in
    let some : nat_lt 0 (length (digits 16 false n)) ≡ true = grind (arith, nat_tests) in
    let short : nat_le (length (digits 16 false n)) 8 ≡ true = grind (arith, nat_tests) in
    rw (some, short, t.digits) (ap Some t.value)

-- a mark before a word
begins_with-cons : (b : ℕ) (bs : List ℕ) → begins_with b (b ∷ bs) ≡ true
begins_with-cons b bs = grind (arith, nat_tests)

marked_word : (b : ℕ) (bs : List ℕ) → is_ascii_graphic b ≡ true → list_all is_ascii_graphic bs ≡ true → IsWord (b ∷ bs)
marked_word b bs h k = record { some = omega arith; graphic = rw h k }

pub id_of-text : (id : ℕ) → id < 2 ^ 32 → id_of (name_text (Id id)) ≡ Ok id
unfolding id_of
id_of-text id h = rw (begins_with-cons 64 (digits 16 false id), hex_of-digits id h) refl

pub name_of-text : (name : Name) → HasText name → name_of (name_text name) ≡ Ok name
unfolding name_of
name_of-text (Number n) h = rw (begins_with-cons 118 (decimal n), natural_of-decimal n h) refl
name_of-text (Id id) h = let e : begins_with 118 (64 ∷ digits 16 false id) ≡ false = and-no _ _ refl in rw (e, id_of-text id h) refl

pub name_word : (name : Name) → HasText name → IsWord (name_text name)
name_word (Number n) h = marked_word 118 (decimal n) refl (decimal_word n h).graphic
name_word (Id id) h = marked_word 64 (digits 16 false id) refl (all_graphic (digits 16 false id) (hex_text id h).digits)

pub parent_of-text : (parent : Option Name) → IfSome parent HasText → parent_of (parent_text parent) ≡ Ok parent
unfolding parent_of
parent_of-text None h = refl
parent_of-text (Some (Number n)) h = ap (map_ok Some) (name_of-text (Number n) h)
parent_of-text (Some (Id id)) h = ap (map_ok Some) (name_of-text (Id id) h)

pub parent_word : (parent : Option Name) → IfSome parent HasText → IsWord (parent_text parent)
parent_word None h = word_by (codes "root") refl
parent_word (Some name) h = name_word name h
