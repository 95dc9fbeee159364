-- The words from which numbers, views, colours and the words of tables are read.
use Rattle.std.proofs.Common.{◌≡◌, ℕ, suc, zero, ◌<◌, ◌≤◌, ◌^◌, Bool, true, refl, ap, sym, ◌∙◌, inl, inr, List, [], ◌∷◌, length, drop, arith}
use Rattle.std.specs.Prelude.{◌==◌, ◌&&◌, ◌||◌, not, nat_lt, nat_le, slice_index, codes, IfOk, Option, Some, None}
use Rattle.std.specs.Char.{is_ascii_digit, is_ascii_hexdigit}
use Rattle.std.specs.Fmt.{decimal, signed_decimal}
use Rattle.std.specs.List.{list_all}
use Rattle.std.proofs.lemmas.Bool.{cases_Bool}
use Rattle.std.proofs.lemmas.Bool.Decides.{nat_tests}
use Rattle.std.proofs.lemmas.Fmt.{decimal-digits_value}
use Rattle.std.proofs.lemmas.Str.Parse.{digits_value_short}
use Rattle.geom_core.specs.declared.color.Argb.{Argb}
use Rattle.line_words.specs.words.Colors.{color_of, last_color}
use Rattle.line_words.specs.words.FileNames.{file_name_in, file_name_of, is_file_name}
use Rattle.line_words.specs.words.Names.{begins_with, hex_of, hex_value, id_in, id_of, known, name_in, name_of, parent_in, parent_of}
use Rattle.line_words.specs.words.Numbers.{digits_value, integer_in, integer_of, is_natural, natural_of, negative, positive}
use Rattle.line_words.specs.Spelled.{on_text}
use Rattle.line_words.specs.words.Words.{end_of, literal_in, on_of, word_in}
use Rattle.line_words.specs.Written.{IsColorWord, IsHexWord, IsNameWord, IsParentWord}
use Rattle.line_words.specs.declared.words.naming.Name.{Name}
use Rattle.line_words.specs.declared.words.naming.Name.TheVariants.{Number, Id}
use Rattle.line_words.proofs.texts.BothLaws.{and-left, and-right}
use Rattle.line_words.proofs.texts.OkLaws.{if_either, if_known, if_map_with, if_test, if_then_with, if_word}
use Rattle.line_words.proofs.spelled.SpelledNumbers.{own}

-- numbers
one_or : (n first : ℕ) → (n == 1 || not (first == 48)) ≡ true → first ≡ 48 → n ≡ 1
one_or n first h e = grind (arith, nat_tests)

-- the number of digits, of which there are at most ten
record IsNumber (word : List ℕ) (n : ℕ) : Type 0 where
  text : word ≡ decimal n
  short : n < 10 ^ 10

is_number : (word : List ℕ) → is_natural word ≡ true → IsNumber word (digits_value word)
is_number word h =
    let front = nat_lt 0 (length word) && nat_le (length word) 10 in
    let first = and-right (front && list_all is_ascii_digit word) (length word == 1 || not (slice_index word 0 == 48)) h in
    let all = and-left (front && list_all is_ascii_digit word) (length word == 1 || not (slice_index word 0 == 48)) h in
    let digits = and-right front (list_all is_ascii_digit word) all in
    let long = and-left front (list_all is_ascii_digit word) all in
    let less = and-left (nat_lt 0 (length word)) (nat_le (length word) 10) long in
    let most = and-right (nat_lt 0 (length word)) (nat_le (length word) 10) long in
    let some : 0 < length word = grind (arith, nat_tests, less) in
    let few : length word ≤ 10 = grind (arith, nat_tests, most) in
    let below = digits_value_short own word 10 digits few in
    record {
      text = sym (decimal-digits_value own word digits some (one_or (length word) (slice_index word 0) first) (omega (arith, below)));
      short = below;
    }

number_of-back : (word : List ℕ) (n : ℕ) → natural_of word ≡ Some n → IsNumber word n
unfolding natural_of
number_of-back word n e = elim (cases_Bool (is_natural word)) [
  | inl is ↦ (let v : Some (digits_value word) ≡ Some n = rw is at e in let w : digits_value word ≡ n = cc in rw w at (is_number word is))
  | inr other ↦ absurd (let v : None ≡ Some n = rw other at e in cc)
]

natural_of-back : (word : List ℕ) (n : ℕ) → natural_of word ≡ Some n → word ≡ decimal n
natural_of-back word n e = (number_of-back word n e).text

negative-written : (o : Option ℕ) (ds : List ℕ) → ((n : ℕ) → o ≡ Some n → ds ≡ decimal n) → IfOk (negative o) (λ z. 45 ∷ ds ≡ signed_decimal z)
negative-written None ds h = tt
negative-written (Some zero) ds h = tt
negative-written (Some (suc n)) ds h = ap (λ ds. 45 ∷ ds) (h (suc n) refl)

positive-written : (o : Option ℕ) (ds : List ℕ) → ((n : ℕ) → o ≡ Some n → ds ≡ decimal n) → IfOk (positive o) (λ z. ds ≡ signed_decimal z)
positive-written None ds h = tt
positive-written (Some n) ds h = h n refl

begins-mark : (mark : ℕ) (word : List ℕ) → begins_with mark word ≡ true → word ≡ mark ∷ drop 1 word
begins-mark mark [] h = absurd (cc)
begins-mark mark (b ∷ bs) h = let e : b ≡ mark = grind (arith, nat_tests) in ap (λ b. b ∷ bs) e

pub integer_of-written : (word : List ℕ) → IfOk (integer_of word) (λ z. word ≡ signed_decimal z)
unfolding integer_of
integer_of-written word = elim (cases_Bool (begins_with 45 word)) [
  | inl minus ↦ rw minus (rw (begins-mark 45 word minus) (negative-written (natural_of (drop 1 word)) (drop 1 word) (natural_of-back (drop 1 word))))
  | inr other ↦ rw other (positive-written (natural_of word) word (natural_of-back word))
]

-- words of lines, one after another
pub record FirstWord (P : List ℕ → Type 0) (ws rest : List (List ℕ)) : Type 0 where
  pub word : List ℕ
  pub are : ws ≡ word ∷ rest
  pub fits : P word

pub starts : (P : List ℕ → Type 0) (word : List ℕ) (rest : List (List ℕ)) → P word → FirstWord P (word ∷ rest) rest
starts P word rest h = record { word = word; are = refl; fits = h }

pub word_in-written : (ws : List (List ℕ)) → IfOk (word_in ws) (λ r. ws ≡ r.0 ∷ r.1)
word_in-written [] = tt
word_in-written (word ∷ ws) = refl

pub end_of-written : (ws : List (List ℕ)) → IfOk (end_of ws) (λ _. ws ≡ [])
end_of-written [] = refl
end_of-written (word ∷ ws) = tt

pub literal_in-written : (name : List ℕ) (ws : List (List ℕ)) → IfOk (literal_in name ws) (λ rest. ws ≡ name ∷ rest)
literal_in-written name [] = tt
literal_in-written name (word ∷ ws) = if_word (λ rest. word ∷ ws ≡ name ∷ rest) word name _ _ (λ e. ap (λ word. word ∷ ws) e) tt

pub integer_in-written : (ws : List (List ℕ)) → IfOk (integer_in ws) (λ r. ws ≡ signed_decimal r.0 ∷ r.1)
integer_in-written [] = tt
integer_in-written (word ∷ ws) =
    if_then_with (λ z. word ≡ signed_decimal z) (λ r. word ∷ ws ≡ signed_decimal r.0 ∷ r.1) (integer_of word) _ (integer_of-written word) (λ z e. ap (λ word. word ∷ ws) e)

pub file_name_in-written : (ws : List (List ℕ)) → IfOk (file_name_in ws) (λ r. ws ≡ r.0 ∷ r.1)
file_name_in-written [] = tt
file_name_in-written (word ∷ ws) =
    if_then_with (λ name. word ≡ name) (λ r. word ∷ ws ≡ r.0 ∷ r.1) (file_name_of word) _ (if_either (λ name. word ≡ name) (is_file_name word) _ _ refl tt)
    (λ name e. ap (λ word. word ∷ ws) e)

-- marks and hexadecimal digits
hex_of-back : (mark n : ℕ) (word : List ℕ) → begins_with mark word ≡ true → hex_of (drop 1 word) ≡ Some n → IsHexWord mark n word
unfolding hex_of
hex_of-back mark n word begins e =
    let ds = drop 1 word in
    elim (cases_Bool (nat_lt 0 (length ds) && nat_le (length ds) 8 && list_all is_ascii_hexdigit ds)) [
      | inl is ↦ (
          let long = and-left (nat_lt 0 (length ds) && nat_le (length ds) 8) (list_all is_ascii_hexdigit ds) is in
          let less = and-left (nat_lt 0 (length ds)) (nat_le (length ds) 8) long in
          let most = and-right (nat_lt 0 (length ds)) (nat_le (length ds) 8) long in
          let v : Some (hex_value ds) ≡ Some n = rw is at e in
          record {
            digits = ds;
            marked = begins-mark mark word begins;
            some = grind (arith, nat_tests, less);
            short = grind (arith, nat_tests, most);
            hex = and-right (nat_lt 0 (length ds) && nat_le (length ds) 8) (list_all is_ascii_hexdigit ds) is;
            value = cc;
          })
      | inr other ↦ absurd (let v : None ≡ Some n = rw other at e in cc)
    ]

pub id_of-written : (word : List ℕ) → IfOk (id_of word) (λ id. IsHexWord 64 id word)
unfolding id_of
id_of-written word =
    let P = λ (id : ℕ). IsHexWord 64 id word in
    if_test P (begins_with 64 word) _ _ (λ begins. if_known P (hex_of (drop 1 word)) (λ id e. hex_of-back 64 id word begins e)) tt

pub id_in-written : (ws : List (List ℕ)) → IfOk (id_in ws) (λ r. FirstWord (IsHexWord 64 r.0) ws r.1)
id_in-written [] = tt
id_in-written (word ∷ ws) =
    if_then_with (λ id. IsHexWord 64 id word) (λ r. FirstWord (IsHexWord 64 r.0) (word ∷ ws) r.1) (id_of word) _ (id_of-written word) (λ id h. starts (IsHexWord 64 id) word ws h)

pub name_of-written : (word : List ℕ) → IfOk (name_of word) (λ name. IsNameWord name word)
unfolding name_of
name_of-written word =
    let P = λ (name : Name). IsNameWord name word in
    let Q = λ (n : ℕ). IsNameWord (Number n) word in
    if_test P (begins_with 118 word) _ _
    (λ begins. if_map_with Q P Number (known (natural_of (drop 1 word)))
    (if_known Q (natural_of (drop 1 word)) (λ n e. ((number_of-back (drop 1 word) n e).short, begins-mark 118 word begins ∙ ap (λ ds. 118 ∷ ds) (natural_of-back (drop 1 word) n e)))) (λ n h. h))
    (if_map_with (λ id. IsHexWord 64 id word) P Id (id_of word) (id_of-written word) (λ id h. h))

pub name_in-written : (ws : List (List ℕ)) → IfOk (name_in ws) (λ r. FirstWord (IsNameWord r.0) ws r.1)
name_in-written [] = tt
name_in-written (word ∷ ws) =
    if_then_with (λ (name : Name). IsNameWord name word) (λ r. FirstWord (IsNameWord r.0) (word ∷ ws) r.1) (name_of word) _ (name_of-written word)
    (λ name h. starts (IsNameWord name) word ws h)

parent_of-written : (word : List ℕ) → IfOk (parent_of word) (λ parent. IsParentWord parent word)
unfolding parent_of
parent_of-written word =
    let P = λ (parent : Option Name). IsParentWord parent word in
    if_word P word (codes "root") _ _ (λ e. e) (if_map_with (λ (name : Name). IsNameWord name word) P Some (name_of word) (name_of-written word) (λ name h. h))

pub parent_in-written : (ws : List (List ℕ)) → IfOk (parent_in ws) (λ r. FirstWord (IsParentWord r.0) ws r.1)
parent_in-written [] = tt
parent_in-written (word ∷ ws) =
    if_then_with (λ (parent : Option Name). IsParentWord parent word) (λ r. FirstWord (IsParentWord r.0) (word ∷ ws) r.1) (parent_of word) _ (parent_of-written word)
    (λ parent h. starts (IsParentWord parent) word ws h)

color_of-written : (word : List ℕ) → IfOk (color_of word) (λ color. IsColorWord color word)
unfolding color_of
color_of-written word =
    let P = λ (color : Argb). IsColorWord color word in
    if_test P (begins_with 35 word && length word == 9) _ _
    (λ is. if_map_with (λ n. IsHexWord 35 n word) P (λ n. record { 0 = n }) (known (hex_of (drop 1 word)))
    (if_known (λ n. IsHexWord 35 n word) (hex_of (drop 1 word)) (λ n e. hex_of-back 35 n word (and-left (begins_with 35 word) _ is) e))
    (λ n h. (h, let long = and-right (begins_with 35 word) _ is in grind (arith, nat_tests)))) tt

pub last_color-written : (ws : List (List ℕ)) → IfOk (last_color ws) (λ color. FirstWord (IsColorWord color) ws [])
unfolding last_color
last_color-written [] = tt
last_color-written (word ∷ ws) =
    let P = λ (color : Argb). FirstWord (IsColorWord color) (word ∷ ws) [] in
    if_then_with (λ (color : Argb). IsColorWord color word) P (color_of word) _ (color_of-written word) (λ color h.
    if_then_with (λ _. ws ≡ []) P (end_of ws) _ (end_of-written ws) (λ _ end. record { word = word; are = ap (λ ws. word ∷ ws) end; fits = h }))

-- tables
pub on_of-written : (word : List ℕ) → IfOk (on_of word) (λ on. word ≡ on_text on)
unfolding on_of
on_of-written word =
    let P = λ (on : Bool). word ≡ on_text on in
    if_word P word (codes "yes") _ _ (λ e. e) (if_word P word (codes "no") _ _ (λ e. e) tt)
