-- The words of a question.
use Rattle.std.proofs.Common.{◌≡◌, ℕ, Bool, true, false, refl, ap, sym, ◌∙◌, inl, inr, List, [], ◌∷◌, length, arith}
use Rattle.std.specs.Prelude.{◌==◌, ◌&&◌, nat_lt, nat_le, Option, Some, None, is_some, if◌then◌else◌, Err, ◌⊎◌, ◌≢◌}
use Rattle.std.specs.Char.{is_ascii_graphic, is_ascii_hexdigit}
use Rattle.std.specs.List.{list_all}
use Rattle.std.specs.Result.{result_ok}
use Rattle.std.specs.Str.{IsUtf8}
use Rattle.std.proofs.lemmas.Bool.{cases_Bool}
use Rattle.std.proofs.lemmas.Bool.Decides.{nat_tests}
use Rattle.std.proofs.lemmas.Str.{IsUtf8-from_ascii}
use Rattle.focus_finder.specs.declared.side.Side.{Side}
use Rattle.line_words.proofs.spelled.SpelledNumbers.{digits_graphic}
use Rattle.line_words.specs.words.Names.{begins_with, hex_of, id_of, known, name_of}
use Rattle.line_words.specs.declared.fault.LineFault.TheVariants.{Syntax}
use Rattle.line_words.specs.declared.words.naming.Name.{Name}
use Rattle.line_words.specs.declared.words.naming.Name.TheVariants.{Number, Id}
use Rattle.line_words.specs.words.Words.{map_ok}
use Rattle.line_words.specs.words.Numbers.{is_natural, natural_of}
use Rattle.line_words.proofs.texts.BothLaws.{and-left, and-right}
use Rattle.line_words.proofs.spelled.SpelledNames.{all_graphic}
use Rattle.line_words.proofs.spelled.SpelledWords.{ascii}
use Rattle.vindaesk_c.specs.Questions.{asked, can_ask}
use Rattle.whole_tool.specs.Usage.{Unknown, name_from, question_usage, side_of}

natural_graphic : (word : List ℕ) → is_some (natural_of word) ≡ true → list_all is_ascii_graphic word ≡ true
unfolding natural_of
natural_graphic word h = elim (cases_Bool (is_natural word)) [
  | inl e ↦ digits_graphic word (and-right _ _ (and-left _ _ e))
  | inr e ↦ absurd (cc (h, e))
]

hex_graphic : (word : List ℕ) → is_some (hex_of word) ≡ true → list_all is_ascii_graphic word ≡ true
unfolding hex_of
hex_graphic word h = elim (cases_Bool (nat_lt 0 (length word) && nat_le (length word) 8 && list_all is_ascii_hexdigit word)) [
  | inl e ↦ all_graphic word (and-right _ _ e)
  | inr e ↦ absurd (cc (h, e))
]

graphic_cons : (b c : ℕ) (bs : List ℕ) → (b == c) ≡ true → is_ascii_graphic c ≡ true → list_all is_ascii_graphic bs ≡ true → list_all is_ascii_graphic (b ∷ bs) ≡ true
graphic_cons b c bs same h k =
    let e : b ≡ c = grind (arith, nat_tests) in
    rw (ap is_ascii_graphic e ∙ h) k

begins_with-head : (b c : ℕ) (bs : List ℕ) → begins_with c (b ∷ bs) ≡ (b == c)
begins_with-head b c bs = grind (arith, nat_tests)

some_number : (read : Option ℕ) → is_some (result_ok (map_ok Number (known read))) ≡ true → is_some read ≡ true
some_number None h = h
some_number (Some n) h = refl

some_id : (read : Option ℕ) → is_some (result_ok (map_ok Id (known read))) ≡ true → is_some read ≡ true
some_id None h = h
some_id (Some id) h = refl

marked : (first second : Bool) (number id : Option ℕ) → is_some (result_ok (if first then map_ok Number (known number) else map_ok Id (if second then known id else Err Syntax))) ≡ true
    → ((first ≡ true) × (is_some number ≡ true)) ⊎ ((second ≡ true) × (is_some id ≡ true))
marked true second number id h = inl (refl, some_number number h)
marked false true number id h = inr (refl, some_id id h)
marked false false number id h = absurd (cc (h))

-- the word that names a view
name_graphic : (word : List ℕ) → is_some (name_from word) ≡ true → list_all is_ascii_graphic word ≡ true
unfolding name_of id_of
name_graphic [] h = refl
name_graphic (b ∷ bs) h = elim (marked (begins_with 118 (b ∷ bs)) (begins_with 64 (b ∷ bs)) (natural_of bs) (hex_of bs) h) [
  | inl (e, some) ↦ graphic_cons b 118 bs (sym (begins_with-head b 118 bs) ∙ e) refl (natural_graphic bs some)
  | inr (e, some) ↦ graphic_cons b 64 bs (sym (begins_with-head b 64 bs) ∙ e) refl (hex_graphic bs some)
]

-- a view's name is a text
pub view_text : (side view : List ℕ) → can_ask side view ≡ true → IsUtf8 view
unfolding can_ask
view_text side view h = IsUtf8-from_ascii view (ascii view (name_graphic view (and-right (is_some (side_of side)) (is_some (name_from view)) h)))

pub can_side : (side view : List ℕ) → can_ask side view ≡ true → is_some (side_of side) ≡ true
unfolding can_ask
can_side side view h = and-left (is_some (side_of side)) (is_some (name_from view)) h

-- the form of the words

some_question : (side : Option Side) (view : Option Name) → is_some side ≡ true → is_some view ≡ true → question_usage side view ≢ Unknown
some_question None view h k = λ e. cc (h)
some_question (Some side) None h k = λ e. cc (k)
some_question (Some side) (Some view) h k = λ e. cc (e)

-- words that have the form ask a question
pub asks : (side view : List ℕ) → can_ask side view ≡ true → asked side view ≢ Unknown
unfolding can_ask
asks side view h = some_question (side_of side) (name_from view) (and-left (is_some (side_of side)) (is_some (name_from view)) h) (and-right (is_some (side_of side)) (is_some (name_from view)) h)
