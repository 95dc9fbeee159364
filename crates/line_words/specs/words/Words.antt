-- The words of a line, and how readings follow one another.
use Rattle.std.specs.Prelude.{ℕ, nat_lt, Bool, true, false, not, List, [], ◌∷◌, if◌then◌else◌, length, take, drop}
use Rattle.std.specs.Prelude.{filter, codes, Result, Ok, Err, ◌≤◌, ◌==◌}
use Rattle.std.specs.List.{slice_split, prefix_len}
use Rattle.std.specs.Str.{bytes_eq, is_utf8}
use Rattle.line_words.specs.declared.fault.LineFault.{LineFault}
use Rattle.line_words.specs.declared.fault.LineFault.TheVariants.{Syntax}

-- a place in these bytes, or right after them
abbrev pub IsCut : List ℕ → ℕ → Type 0
IsCut bytes place = place ≤ length bytes

abbrev pub is_space : ℕ → Bool
is_space b = b == 32

abbrev pub in_word : ℕ → Bool
in_word b = not (is_space b)

abbrev pub is_word : List ℕ → Bool
is_word word = nat_lt 0 (length word)

-- the words of a line, separated by runs of spaces
unfoldable pub words : List ℕ → List (List ℕ)
words bytes = filter is_word (slice_split is_space bytes)

abbrev pub after_spaces : List ℕ → List ℕ
after_spaces bytes = drop (prefix_len is_space bytes) bytes

-- the first word, or the empty one if there is none
unfoldable pub first_word : List ℕ → List ℕ
first_word bytes = take (prefix_len in_word (after_spaces bytes)) (after_spaces bytes)

-- what comes after the first word
unfoldable pub after_word : List ℕ → List ℕ
after_word bytes = drop (prefix_len in_word (after_spaces bytes)) (after_spaces bytes)

-- one reading and then another: the first fault counts
infixl 10 ◌>>=◌
abbrev pub ◌>>=◌ : {A B : Type 0} → Result A LineFault → (A → Result B LineFault) → Result B LineFault
(Ok a) >>= next = next a
(Err fault) >>= next = Err fault

abbrev pub map_ok : {A B : Type 0} → (A → B) → Result A LineFault → Result B LineFault
map_ok f (Ok a) = Ok (f a)
map_ok f (Err fault) = Err fault

-- the first of the words, and the words after it
abbrev pub word_in : List (List ℕ) → Result (List ℕ × List (List ℕ)) LineFault
word_in [] = Err Syntax
word_in (word ∷ words) = Ok (word, words)

-- this word as the first of the words, and the words after it
abbrev pub literal_in : List ℕ → List (List ℕ) → Result (List (List ℕ)) LineFault
literal_in name [] = Err Syntax
literal_in name (word ∷ words) = if bytes_eq word name then Ok words else Err Syntax

-- no words
abbrev pub end_of : List (List ℕ) → Result (Unit {0}) LineFault
end_of [] = Ok tt
end_of (word ∷ words) = Err Syntax

-- bytes as a text, if they are valid UTF-8
unfoldable pub text_of : List ℕ → Result (List ℕ) LineFault
text_of bytes = if is_utf8 bytes then Ok bytes else Err Syntax

-- whether something is on
unfoldable pub on_of : List ℕ → Result Bool LineFault
on_of word =
    if bytes_eq word (codes "yes") then Ok true else (
    if bytes_eq word (codes "no") then Ok false else
    Err Syntax)
