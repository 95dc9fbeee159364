-- Colours, read from their texts.
use Rattle.std.proofs.Common.{◌≡◌, ℕ, suc, zero, ◌+◌, ◌*◌, ◌/◌, ◌%◌, ◌<◌, ◌^◌, true, false, refl, ◌∙◌, List, [], ◌∷◌, length, length-append, arith}
use Rattle.std.specs.Prelude.{◌==◌, nat_lt, Ok}
use Rattle.std.specs.Char.{is_ascii_hexdigit}
use Rattle.std.specs.Fmt.{digit_glyph}
use Rattle.std.specs.List.{list_all}
use Rattle.std.proofs.lemmas.Bool.Decides.{nat_tests}
use Rattle.std.proofs.lemmas.List.Sums.{fold-append}
use Rattle.std.proofs.lemmas.List.Folds.{list_all-append}
use Rattle.geom_core.specs.declared.color.Argb.{Argb}
use Rattle.line_words.specs.words.Colors.{color_of, last_color}
use Rattle.line_words.specs.words.Names.{hex_digit_of, hex_of, hex_value}
use Rattle.line_words.specs.Spelled.{color_text, hex_places}
use Rattle.line_words.proofs.spelled.SpelledNames.{all_graphic, glyph_digit, glyph_value, shorter}
use Rattle.line_words.proofs.spelled.SpelledWords.{IsWord}

places_value : (k n : ℕ) → n < 16 ^ k → hex_value (hex_places k n) ≡ n
places_value zero n h = omega (arith, h)
places_value (suc k) n h =
    let front : hex_value (hex_places k (n / 16)) ≡ n / 16 = places_value k (n / 16) (shorter k n h) in
    fold-append (λ n d. 16 * n + hex_digit_of d) 0 (hex_places k (n / 16)) (digit_glyph false (n % 16) ∷ [])
    ∙ omega (arith, front, glyph_value (n % 16) (omega arith))

places_length : (k n : ℕ) → length (hex_places k n) ≡ k
places_length zero n = refl
places_length (suc k) n = omega (arith, length-append (hex_places k (n / 16)) (digit_glyph false (n % 16) ∷ []), places_length k (n / 16))

places_digits : (k n : ℕ) → list_all is_ascii_hexdigit (hex_places k n) ≡ true
places_digits zero n = refl
places_digits (suc k) n =
    list_all-append is_ascii_hexdigit (hex_places k (n / 16)) (digit_glyph false (n % 16) ∷ []) ∙ rw (places_digits k (n / 16), glyph_digit (n % 16) (omega arith)) refl

color_of-digits : (ds : List ℕ) (n : ℕ) → length ds ≡ 8 → list_all is_ascii_hexdigit ds ≡ true → hex_value ds ≡ n → color_of (35 ∷ ds) ≡ Ok (record { 0 = n })
unfolding color_of hex_of
color_of-digits ds n long digits value =
    let color : nat_lt 0 (length (35 ∷ ds)) ≡ true = grind (arith, nat_tests) in
    let nine : (length (35 ∷ ds) == 9) ≡ true = grind (arith, nat_tests) in
    rw (color, nine, long, digits, value) refl

pub color_of-text : (color : Argb) → color.0 < 2 ^ 32 → color_of (color_text color) ≡ Ok color
color_of-text color h = color_of-digits (hex_places 8 color.0) color.0 (places_length 8 color.0) (places_digits 8 color.0) (places_value 8 color.0 (omega (arith, h)))

pub color_word : (color : Argb) → IsWord (color_text color)
color_word color = record { some = omega arith; graphic = all_graphic (hex_places 8 color.0) (places_digits 8 color.0) }

pub last_color-text : (color : Argb) → color.0 < 2 ^ 32 → last_color (color_text color ∷ []) ≡ Ok color
unfolding last_color
last_color-text color h = rw (color_of-text color h) refl
