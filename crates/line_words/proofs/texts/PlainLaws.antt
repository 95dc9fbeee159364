-- Lines of ASCII.
use Rattle.std.proofs.Common.{◌≡◌, ℕ, ◌+◌, ◌<◌, ◌≤◌, true, List, length, drop, get_or, arith}
use Rattle.std.specs.Prelude.{◌&&◌}
use Rattle.std.specs.Char.{is_ascii}
use Rattle.std.specs.List.{list_all}
use Rattle.std.specs.Str.{is_utf8}
use Rattle.std.proofs.lemmas.Bool.{ltb-true}
use Rattle.std.proofs.lemmas.List.{at_drop_more}
use Rattle.std.proofs.lemmas.List.Elements.{All-weaker}
use Rattle.std.proofs.lemmas.List.Sums.{AllPass-from_list_all}
use Rattle.std.proofs.lemmas.Str.{IsUtf8-from_ascii, is_utf8-from_IsUtf8}
use Rattle.std.proofs.lemmas.Str.Ascii.{IsAscii-from_all}

-- a line of ASCII is valid UTF-8
pub utf8_of_ascii : (bytes : List ℕ) → list_all is_ascii bytes ≡ true → is_utf8 bytes ≡ true
utf8_of_ascii bytes h =
    is_utf8-from_IsUtf8 bytes (IsUtf8-from_ascii bytes (IsAscii-from_all bytes
    (All-weaker (λ b. is_ascii b ≡ true) _ (λ b. ltb-true b 128) bytes (AllPass-from_list_all is_ascii bytes h))))

ascii_by_one : (xs : List ℕ) (i : ℕ) → i < length xs → list_all is_ascii (drop i xs) ≡ (is_ascii (get_or xs i 0) && list_all is_ascii (drop (i + 1) xs))
ascii_by_one xs i within = at_drop_more (list_all is_ascii) xs i 0 within

-- the first four bytes, and what comes after them
pub ascii_of_four : (xs : List ℕ) → 4 ≤ length xs → list_all is_ascii xs ≡ (((is_ascii (get_or xs 0 0) && is_ascii (get_or xs 1 0)) && (is_ascii (get_or xs 2 0) && is_ascii (get_or xs 3 0))) && list_all is_ascii (drop 4 xs))
ascii_of_four xs within =
    let first = ascii_by_one xs 0 (omega arith) in
    let second = ascii_by_one xs 1 (omega arith) in
    let third = ascii_by_one xs 2 (omega arith) in
    let fourth = ascii_by_one xs 3 (omega arith) in
    grind arith
