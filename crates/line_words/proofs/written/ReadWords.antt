-- Words of lines, read as what they write.
use Rattle.std.proofs.Common.{◌≡◌, ℕ, ◌+◌, ◌*◌, ◌/◌, ◌<◌, ◌≤◌, true, false, refl, ap, inl, inr, List, [], ◌∷◌, length, drop, arith}
use Rattle.std.specs.Prelude.{◌==◌, nat_lt, nat_le, pos, codes, Option, Some, None, Ok}
use Rattle.std.specs.Char.{is_ascii_hexdigit}
use Rattle.std.specs.List.{list_all}
use Rattle.std.specs.Str.{bytes_eq}
use Rattle.std.proofs.lemmas.Bool.Decides.{nat_tests}
use Rattle.geom_core.specs.declared.color.Argb.{Argb}
use Rattle.view_model.specs.Numbers.{max_weight}
use Rattle.line_words.specs.words.Colors.{color_of, last_color}
use Rattle.line_words.specs.words.Names.{begins_with, hex_of, hex_value, id_of, name_of, parent_of}
use Rattle.line_words.specs.words.Weights.{last_number, weight_of}
use Rattle.line_words.specs.Written.{AreWeightWords, IsColorWord, IsHexWord, IsNameWord, IsParentWord}
use Rattle.line_words.specs.declared.words.naming.Name.{Name}
use Rattle.line_words.specs.declared.words.naming.Name.TheVariants.{Number, Id}
use Rattle.line_words.specs.Numbers.{max_parts, max_whole}
use Rattle.line_words.proofs.spelled.SpelledWeights.{digits_short, weight_of-words, whole_short}
use Rattle.line_words.proofs.spelled.SpelledNames.{name_of-text}
use Rattle.line_words.proofs.spelled.SpelledNumbers.{and-no, integer_of-signed, natural_within-within}

-- marks and hexadecimal digits
begins_cons : (mark : ℕ) (ds : List ℕ) → begins_with mark (mark ∷ ds) ≡ true
begins_cons mark ds = grind (arith, nat_tests)

hex_digits : (ds : List ℕ) (n : ℕ) → 0 < length ds → length ds ≤ 8 → list_all is_ascii_hexdigit ds ≡ true → hex_value ds ≡ n → hex_of ds ≡ Some n
unfolding hex_of
hex_digits ds n some short hex value =
    let a : nat_lt 0 (length ds) ≡ true = grind (arith, nat_tests) in
    let b : nat_le (length ds) 8 ≡ true = grind (arith, nat_tests) in
    rw (a, b, hex) (ap Some value)

pub id_of-read : (id : ℕ) (word : List ℕ) → IsHexWord 64 id word → id_of word ≡ Ok id
unfolding id_of
id_of-read id word h = rw h.marked (rw (begins_cons 64 h.digits, hex_digits h.digits id h.some h.short h.hex h.value) refl)

name_of-id : (id : ℕ) (word : List ℕ) (ds : List ℕ) → word ≡ 64 ∷ ds → id_of word ≡ Ok id → name_of word ≡ Ok (Id id)
unfolding name_of
name_of-id id word ds e h =
    let other : begins_with 118 word ≡ false = rw e (and-no _ _ refl) in
    rw (other, h) refl

pub name_of-read : (name : Name) (word : List ℕ) → IsNameWord name word → name_of word ≡ Ok name
name_of-read (Number n) word h = rw h.1 (name_of-text (Number n) h.0)
name_of-read (Id id) word h = name_of-id id word h.digits h.marked (id_of-read id word h)

parent_of-name : (name : Name) (word : List ℕ) → bytes_eq word (codes "root") ≡ false → name_of word ≡ Ok name → parent_of word ≡ Ok (Some name)
unfolding parent_of
parent_of-name name word other h = rw (other, h) refl

pub parent_of-read : (parent : Option Name) (word : List ℕ) → IsParentWord parent word → parent_of word ≡ Ok parent
unfolding parent_of
parent_of-read None word h = rw h refl
parent_of-read (Some (Number n)) word h = parent_of-name (Number n) word (rw h.1 refl) (name_of-read (Number n) word h)
parent_of-read (Some (Id id)) word h = parent_of-name (Id id) word (rw h.marked refl) (name_of-read (Id id) word h)

color_of-read : (color : Argb) (word : List ℕ) → IsColorWord color word → color_of word ≡ Ok color
unfolding color_of
color_of-read color word (h, long) =
    let nine : (length word == 9) ≡ true = grind (arith, nat_tests) in
    let begins : begins_with 35 word ≡ true = rw h.marked (begins_cons 35 h.digits) in
    let value : hex_of (drop 1 word) ≡ Some color.0 = rw h.marked (hex_digits h.digits color.0 h.some h.short h.hex h.value) in
    rw (begins, nine, value) refl

pub last_color-read : (color : Argb) (word : List ℕ) → IsColorWord color word → last_color (word ∷ []) ≡ Ok color
unfolding last_color
last_color-read color word h = rw (color_of-read color word h) refl

-- weights
pub weight_of-read : (weight : ℕ) (ws : List (List ℕ)) → weight ≤ max_weight → AreWeightWords weight ws → weight_of ws ≡ Ok weight
unfolding weight_of last_number
weight_of-read weight ws most (inl are) = rw are (weight_of-words weight most)
weight_of-read weight ws most (inr (whole, are)) =
    let high = whole_short weight most in
    let same : weight / 256 * 256 + 0 ≡ weight = omega (arith, whole) in
    rw (are, integer_of-signed (pos (weight / 256)) (digits_short _ high), natural_within-within 0 max_whole (weight / 256) (omega arith) high, natural_within-within 0 max_parts 0 (omega arith) (omega arith), same)
    (natural_within-within 0 max_weight weight (omega arith) most)
