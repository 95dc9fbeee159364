-- Hexadecimal digits in lower case.
use Rattle.std.specs.Prelude.{ℕ, ◌-◌, ◌/◌, ◌%◌, ◌^◌, List, [], ◌∷◌, drop}
use Rattle.std.specs.Char.{digit_char}

-- the eight digits of a number, the highest first
unfoldable pub eight_digits : ℕ → List ℕ
eight_digits n =
    digit_char (n / 16 ^ 7 % 16) ∷ digit_char (n / 16 ^ 6 % 16) ∷ digit_char (n / 16 ^ 5 % 16)
    ∷ digit_char (n / 16 ^ 4 % 16)
    ∷ digit_char (n / 16 ^ 3 % 16) ∷ digit_char (n / 16 ^ 2 % 16) ∷ digit_char (n / 16 % 16) ∷ digit_char (n % 16) ∷ []

-- its n lowest digits, at most eight
unfoldable pub hex_text : ℕ → ℕ → List ℕ
hex_text n digits = drop (8 - digits) (eight_digits n)
