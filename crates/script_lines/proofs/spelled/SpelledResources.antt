-- Lines that give a resource its value, read from their texts.
use Rattle.std.proofs.Common.{◌≡◌, ℕ, ◌+◌, ◌*◌, ◌-◌, ◌/◌, ◌%◌, ◌<◌, ◌^◌, true, false, refl, ◌∙◌, List, [], ◌∷◌, ◌++◌, length, arith}
use Rattle.std.specs.Prelude.{◌==◌, nat_lt, ℤ, pos, negsuc, codes, Ok}
use Rattle.std.specs.Fmt.{signed_decimal}
use Rattle.std.specs.List.{join_with_byte}
use Rattle.std.specs.Str.{is_utf8}
use Rattle.std.proofs.lemmas.Bool.Decides.{nat_tests}
use Rattle.std.proofs.lemmas.Int.{ints}
use Rattle.std.proofs.lemmas.Str.{IsUtf8-from_is_utf8, is_utf8-from_IsUtf8}
use Rattle.view_model.specs.Dimensions.{mantissa}
use Rattle.script_lines.specs.reading.Commands.{command_by, command_in, command_of}
use Rattle.script_lines.specs.declared.verbs.Verb.TheVariants as verb
use Rattle.line_words.specs.words.Escapes.{escaped_text_of, rest_of}
use Rattle.line_words.specs.words.Numbers.{IsWithin}
use Rattle.script_lines.specs.commands.PlainCommands.{PlainGiven, Color, Dimen, Text, Res}
use Rattle.script_lines.specs.reading.Resources.{IsGivenInBounds, dimen_given, dimen_word, given_by, given_of, res_of, resource_id, unit_number, unit_of}
use Rattle.script_lines.specs.commands.Spelled.{GivenHasLine, given_words, unit_text}
use Rattle.line_words.specs.Spelled.{hex_places, name_text}
use Rattle.line_words.specs.words.Colors.{last_color}
use Rattle.line_words.specs.words.Words.{text_of}
use Rattle.line_words.specs.declared.words.naming.Name.TheVariants.{Id}
use Rattle.script_lines.specs.declared.reading.resources.LengthUnit.{LengthUnit}
use Rattle.script_lines.specs.declared.reading.resources.LengthUnit.TheVariants.{Px, Dp, Sp, Pt, In, Mm}
use Rattle.script_lines.specs.Numbers.{max_mantissa, min_mantissa}
use Rattle.script_lines.proofs.readings.VerbLaws.{verb_named-word}
use Rattle.line_words.proofs.spelled.SpelledColors.{color_of-text, color_word}
use Rattle.line_words.proofs.spelled.SpelledNames.{id_of-text, name_word}
use Rattle.line_words.proofs.spelled.SpelledNumbers.{differs, integer_of-signed, short_within, signed_word, within_of-within}
use Rattle.line_words.proofs.spelled.SpelledWords.{AreWords, IsWord, after_word-before, after_word-space, joined_text, utf8_before, word_by, words-before, words-joined}
use Rattle.line_words.proofs.texts.WordLaws.{word_space}

-- dimensions
unit_below : (unit : LengthUnit) → unit_number unit < 6
unit_below Px = omega arith
unit_below Dp = omega arith
unit_below Sp = omega arith
unit_below Pt = omega arith
unit_below In = omega arith
unit_below Mm = omega arith

pub unit_of-number : (unit : LengthUnit) → unit_of (unit_text (unit_number unit)) ≡ Ok unit
unfolding unit_of
unit_of-number Px = refl
unit_of-number Dp = refl
unit_of-number Sp = refl
unit_of-number Pt = refl
unit_of-number In = refl
unit_of-number Mm = refl

unit_word : (unit : LengthUnit) → IsWord (unit_text (unit_number unit))
unit_word Px = word_by _ refl
unit_word Dp = word_by _ refl
unit_word Sp = word_by _ refl
unit_word Pt = word_by _ refl
unit_word In = word_by _ refl
unit_word Mm = word_by _ refl

pub dimen_word-unit : (n : ℤ) (unit : LengthUnit) → dimen_word n unit % 256 ≡ unit_number unit
unfolding dimen_word
dimen_word-unit n unit = omega (arith, unit_below unit)

pub mantissa-dimen : (n : ℤ) (unit : LengthUnit) → IsWithin min_mantissa max_mantissa n → mantissa (dimen_word n unit) ≡ n
unfolding mantissa dimen_word
mantissa-dimen (pos n) unit h =
    let less : n < 8388608 = omega (arith, ints, h.1) in
    let same : (n * 256 + unit_number unit) / 256 ≡ n = omega (arith, unit_below unit) in
    let low : nat_lt n 8388608 ≡ true = grind (arith, nat_tests) in
    rw (same, low) refl
mantissa-dimen (negsuc n) unit h =
    let less : n < 8388607 = omega (arith, ints, h.0) in
    let same : ((2 ^ 24 - 1 - n) * 256 + unit_number unit) / 256 ≡ 16777215 - n = omega (arith, unit_below unit) in
    let high : nat_lt (16777215 - n) 8388608 ≡ false = grind (arith, nat_tests) in
    let back : 16777215 - (16777215 - n) ≡ n = omega (arith, less) in
    rw (same, high, back) refl

-- what is given, after its kind
given_before : (kind rest : List ℕ) → IsWord kind → given_of (32 ∷ (kind ++ 32 ∷ rest)) ≡ given_by kind (32 ∷ rest)
unfolding given_of
given_before kind rest h =
    rw (word_space 32 (kind ++ 32 ∷ rest) refl, words-before kind rest h, after_word-space (kind ++ 32 ∷ rest), after_word-before kind rest h) refl

res_before : (id : ℕ) (rest : List ℕ) (value : PlainGiven) → 0 < id → id < 2 ^ 32 → given_of (32 ∷ rest) ≡ Ok value → res_of (32 ∷ (name_text (Id id) ++ 32 ∷ rest)) ≡ Ok (Res id value)
unfolding res_of resource_id
res_before id rest value some below given =
    let word = name_word (Id id) below in
    let no_zero : (id == 0) ≡ false = differs id 0 (λ e. omega (arith, e, some)) in
    rw (word_space 32 (name_text (Id id) ++ 32 ∷ rest) refl, words-before (name_text (Id id)) rest word, id_of-text id below, after_word-space (name_text (Id id) ++ 32 ∷ rest), after_word-before (name_text (Id id)) rest word, given, no_zero) refl

res_word : IsWord (codes "res")
res_word = word_by (codes "res") refl

-- the command of a line that gives a resource a value
joined_resource : (id : ℕ) (kind rest : List ℕ) (value : PlainGiven) → 0 < id → id < 2 ^ 32 → IsWord kind → is_utf8 rest ≡ true → given_by kind (32 ∷ rest) ≡ Ok value
    → command_of (codes "res" ++ 32 ∷ (name_text (Id id) ++ 32 ∷ (kind ++ 32 ∷ rest))) ≡ Ok (Res id value)
unfolding command_of command_in command_by
joined_resource id kind rest value some below word utf8 given =
    let more : List ℕ = name_text (Id id) ++ 32 ∷ (kind ++ 32 ∷ rest) in
    let text : is_utf8 (codes "res" ++ 32 ∷ more) ≡ true =
    is_utf8-from_IsUtf8 _ (utf8_before (codes "res") more res_word (utf8_before (name_text (Id id)) _ (name_word (Id id) below) (utf8_before kind rest word (IsUtf8-from_is_utf8 rest utf8)))) in
    rw (text, words-before (codes "res") more res_word, after_word-before (codes "res") more res_word, verb_named-word verb.Res)
    (res_before id (kind ++ 32 ∷ rest) value some below (given_before kind rest word ∙ given))

dimen_back : (id : ℕ) (n : ℤ) (unit : LengthUnit) → 0 < id → id < 2 ^ 32 → IsWithin min_mantissa max_mantissa n
    → command_of (join_with_byte 32 (codes "res" ∷ name_text (Id id) ∷ given_words (Dimen (dimen_word n unit)))) ≡ Ok (Res id (Dimen (dimen_word n unit)))
unfolding given_by dimen_given
dimen_back id n unit some below within =
    let short = short_within 8388606 8388607 n within.0 within.1 (omega arith) (omega arith) in
    let ws : List (List ℕ) = signed_decimal n ∷ unit_text (unit_number unit) ∷ [] in
    let are : AreWords ws = (signed_word n short, (unit_word unit, tt)) in
    let given : given_by (codes "dimen") (32 ∷ join_with_byte 32 ws) ≡ Ok (Dimen (dimen_word n unit)) =
    rw (word_space 32 (join_with_byte 32 ws) refl, words-joined ws are, integer_of-signed n short, unit_of-number unit, within_of-within min_mantissa max_mantissa n within) refl in
    rw (mantissa-dimen n unit within, dimen_word-unit n unit) (joined_resource id (codes "dimen") (join_with_byte 32 ws) (Dimen (dimen_word n unit)) some below (word_by (codes "dimen") refl) (joined_text ws are) given)

pub command_of-resource : (id : ℕ) (value : PlainGiven) → 0 < id → id < 2 ^ 32 → IsGivenInBounds value → GivenHasLine value
    → command_of (join_with_byte 32 (codes "res" ∷ name_text (Id id) ∷ given_words value)) ≡ Ok (Res id value)
unfolding given_by last_color dimen_given rest_of escaped_text_of text_of
command_of-resource id (Color color) some below bounds has =
    let word = color_word color in
    joined_resource id (codes "color") (35 ∷ hex_places 8 color.0) (Color color) some below (word_by (codes "color") refl) (joined_text ((35 ∷ hex_places 8 color.0) ∷ []) (word, tt))
    (rw (word_space 32 (35 ∷ hex_places 8 color.0) refl, words-joined ((35 ∷ hex_places 8 color.0) ∷ []) (word, tt), color_of-text color has) refl)
command_of-resource id (Dimen word) some below (n, unit, within, e) has = rw e (dimen_back id n unit some below within)
command_of-resource id (Text text) some below bounds has =
    let space : nat_lt 0 (length (32 ∷ text)) ≡ true = grind (arith, nat_tests) in
    joined_resource id (codes "text") text (Text text) some below (word_by (codes "text") refl) has (rw (space, bounds, has) refl)
