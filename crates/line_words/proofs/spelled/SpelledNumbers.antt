-- Numbers, read from their texts.
use Rattle.std.proofs.Common.{◌≡◌, ◌≢◌, ℕ, suc, zero, ◌+◌, ◌*◌, ◌-◌, ◌<◌, ◌≤◌, ◌^◌, Bool, true, false, refl, ap, List, [], ◌∷◌, length, arith, rules}
use Rattle.std.specs.Prelude.{◌==◌, ◌&&◌, ◌||◌, not, nat_lt, nat_le, ℤ, pos, negsuc, ◌≤ℤ◌, slice_index, fold, Some, Ok}
use Rattle.std.specs.Char.{is_ascii_digit, is_ascii_graphic}
use Rattle.std.specs.Fmt.{decimal, signed_decimal}
use Rattle.std.specs.Int.{IsInRange}
use Rattle.std.specs.List.{list_all}
use Rattle.std.proofs.lemmas.Bool.Decides.{nat_tests}
use Rattle.std.proofs.lemmas.Fmt.{decimal_digit, decimal_nonempty, digits_decimal, digits_value-decimal, first_decimal, length-decimal-le}
use Rattle.std.proofs.lemmas.Int.{ints}
use Rattle.std.proofs.lemmas.Str.Parse.{IsNumeralModel, numerals_by_fold, not_in_digits}
use Rattle.line_words.specs.words.Numbers.{IsWithin, integer_of, is_natural, natural_of, natural_within, pair_of, within_of}
use Rattle.line_words.proofs.texts.BothLaws.{and-left, and-right}
use Rattle.line_words.proofs.spelled.SpelledWords.{IsWord}

abbrev pub digits_from : ℕ → List ℕ → ℕ
digits_from n ds = fold (λ n d. 10 * n + (d - 48)) n ds

pub own : IsNumeralModel (λ ds. list_all is_ascii_digit ds ≡ true) (digits_from 0)
own = numerals_by_fold _ (search rules) digits_from (search rules)

digit_graphic : (b : ℕ) → is_ascii_digit b ≡ true → is_ascii_graphic b ≡ true
digit_graphic b h = grind (arith, nat_tests)

pub digits_graphic : (ds : List ℕ) → list_all is_ascii_digit ds ≡ true → list_all is_ascii_graphic ds ≡ true
digits_graphic [] h = refl
digits_graphic (b ∷ bs) h =
    rw (digit_graphic b (and-left (is_ascii_digit b) (list_all is_ascii_digit bs) h)) (digits_graphic bs (and-right (is_ascii_digit b) (list_all is_ascii_digit bs) h))

-- a number of at most ten digits
small : (n : ℕ) → n < 10 ^ 10 → n < 2 ^ 64
small n h = omega (arith, h)

decimal_digits : (n : ℕ) → n < 10 ^ 10 → list_all is_ascii_digit (decimal n) ≡ true
decimal_digits n h = digits_decimal own n (small n h)

pub decimal_word : (n : ℕ) → n < 10 ^ 10 → IsWord (decimal n)
decimal_word n h = record { some = decimal_nonempty n (small n h); graphic = digits_graphic (decimal n) (decimal_digits n h) }

-- no byte of a number is another than a digit
pub decimal_first : (n b : ℕ) → n < 10 ^ 10 → ¬ (IsInRange 48 57 b) → slice_index (decimal n) 0 ≢ b
decimal_first n b h other = not_in_digits own (decimal n) b (decimal_digits n h) other 0 (decimal_nonempty n (small n h))

pub and-no : (a b : Bool) → b ≡ false → (a && b) ≡ false
and-no true b h = h
and-no false b h = refl

pub differs : (a b : ℕ) → a ≢ b → (a == b) ≡ false
differs a b h = grind (arith, nat_tests)

or-true : (a : Bool) → (a || true) ≡ true
or-true true = refl
or-true false = refl

leads : (n : ℕ) → n < 10 ^ 10 → (length (decimal n) == 1 || not (slice_index (decimal n) 0 == 48)) ≡ true
leads zero h = ap (λ ds. length ds == 1 || not (slice_index ds 0 == 48)) (decimal_digit 0 (omega arith))
leads (suc n) h =
    let f = first_decimal (suc n) (omega arith) (small (suc n) h) in
    let e : (slice_index (decimal (suc n)) 0 == 48) ≡ false = grind (arith, nat_tests) in
    rw e (or-true (length (decimal (suc n)) == 1))

is_natural-decimal : (n : ℕ) → n < 10 ^ 10 → is_natural (decimal n) ≡ true
is_natural-decimal n h =
    let some : nat_lt 0 (length (decimal n)) ≡ true = let k = decimal_nonempty n (small n h) in grind (arith, nat_tests) in
    let short : nat_le (length (decimal n)) 10 ≡ true = let k = length-decimal-le 10 n (omega arith) h (small n h) in grind (arith, nat_tests) in
    rw (some, short, decimal_digits n h, leads n h) refl

pub natural_of-decimal : (n : ℕ) → n < 10 ^ 10 → natural_of (decimal n) ≡ Some n
unfolding natural_of
natural_of-decimal n h = rw (is_natural-decimal n h) (ap Some (digits_value-decimal own n (small n h)))

-- a number of at most ten digits, with a sign or without one
abbrev pub IsShort : ℤ → Type 0
IsShort (pos n) = n < 10 ^ 10
IsShort (negsuc n) = n + 1 < 10 ^ 10

pub integer_of-signed : (z : ℤ) → IsShort z → integer_of (signed_decimal z) ≡ Ok z
unfolding integer_of
integer_of-signed (pos n) h =
    let other = decimal_first n 45 h (λ r. absurd (omega (arith, r.0))) in
    let e : (nat_lt 0 (length (decimal n)) && slice_index (decimal n) 0 == 45) ≡ false = and-no _ _ (differs _ 45 other) in
    rw (e, natural_of-decimal n h) refl
integer_of-signed (negsuc n) h =
    let k : suc n < 10 ^ 10 = omega (arith, h) in
    let e : nat_lt 0 (length (signed_decimal (negsuc n))) ≡ true = grind (arith, nat_tests) in
    rw (e, natural_of-decimal (suc n) k) refl

pub signed_word : (z : ℤ) → IsShort z → IsWord (signed_decimal z)
signed_word (pos n) h = decimal_word n h
signed_word (negsuc n) h =
    let k : suc n < 10 ^ 10 = omega (arith, h) in
    let w = decimal_word (suc n) k in
    record { some = omega arith; graphic = w.graphic }

pub within_of-within : (low high n : ℤ) → IsWithin low high n → within_of low high n ≡ Ok n
unfolding within_of
within_of-within low high n h = grind (arith, ints)

-- the bounds of a line are short
pub short_within : (low high : ℕ) (z : ℤ) → negsuc low ≤ℤ z → z ≤ℤ pos high → low < 2 ^ 31 → high < 2 ^ 31 → IsShort z
short_within low high (pos n) h k l m = omega (arith, ints, k, m)
short_within low high (negsuc n) h k l m = omega (arith, ints, h, l)

pub pair_of-signed : (low high a b : ℤ) → IsShort a → IsShort b → IsWithin low high a → IsWithin low high b → pair_of low high (signed_decimal a ∷ signed_decimal b ∷ []) ≡ Ok (a, b)
unfolding pair_of
pair_of-signed low high a b ha hb wa wb = rw (integer_of-signed a ha, integer_of-signed b hb, within_of-within low high a wa, within_of-within low high b wb) refl

pub natural_within-within : (low high n : ℕ) → low ≤ n → n ≤ high → natural_within low high (pos n) ≡ Ok n
unfolding natural_within
natural_within-within low high n h k = grind (arith, nat_tests)
