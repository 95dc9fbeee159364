-- Texts with escapes: `\n` for a line feed, and `\\` for a backslash.
use Rattle.std.specs.Prelude.{ℕ, ◌==◌, nat_lt, Bool, true, ◌&&◌, ◌||◌, not, if◌then◌else◌, List, [], ◌∷◌, length, drop}
use Rattle.std.specs.Prelude.{Result, Err}
use Rattle.std.specs.Str.{chars}
use Rattle.line_words.specs.words.Words.{text_of}
use Rattle.line_words.specs.declared.words.escapes.Unescaped.{Unescaped}
use Rattle.line_words.specs.declared.fault.LineFault.{LineFault}
use Rattle.line_words.specs.declared.fault.LineFault.TheVariants.{Syntax}

abbrev pub is_backslash : ℕ → Bool
is_backslash b = b == 92

-- what may follow the backslash of an escape: `n` or a backslash
abbrev pub is_escaped : ℕ → Bool
is_escaped b = b == 110 || b == 92

-- each backslash that begins an escape is followed by what may follow it
abbrev pub has_escapes : List ℕ → Bool
has_escapes [] = true
has_escapes (b ∷ []) = not (is_backslash b)
has_escapes (b ∷ c ∷ text) = if is_backslash b then is_escaped c && has_escapes text else has_escapes (c ∷ text)

-- the character that an escape means, by the one after its backslash
abbrev pub meant_by : ℕ → ℕ
meant_by c = if c == 110 then 10 else c

-- the characters of a text, its escapes resolved
abbrev pub unescaped : List ℕ → List ℕ
unescaped [] = []
unescaped (c ∷ []) = c ∷ []
unescaped (c ∷ d ∷ text) = if is_backslash c then meant_by d ∷ unescaped text else c ∷ unescaped (d ∷ text)

-- characters as a line can give them: a line feed and a backslash as escapes
abbrev pub escaped : List ℕ → List ℕ
escaped [] = []
escaped (c ∷ text) =
    if c == 10 then 92 ∷ 110 ∷ escaped text else (if is_backslash c then 92 ∷ 92 ∷ escaped text else c ∷ escaped text)

-- the characters that are still to be resolved
abbrev pub left : Unescaped → List ℕ
left u = unescaped (chars u.rest.now)

-- bytes as a text, its escapes as written
unfoldable pub escaped_text_of : List ℕ → Result (List ℕ) LineFault
escaped_text_of bytes = if has_escapes bytes then text_of bytes else Err Syntax

-- the text after one space
unfoldable pub rest_of : List ℕ → Result (List ℕ) LineFault
rest_of rest = if nat_lt 0 (length rest) then escaped_text_of (drop 1 rest) else Err Syntax
