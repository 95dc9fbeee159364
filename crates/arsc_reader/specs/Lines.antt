-- The line of a resource that is asked for.
use Rattle.std.specs.Prelude.{ℕ, nat_le, ◌&&◌, ◌==◌, if◌then◌else◌, List, Option, Some, None, codes}
use Rattle.axml_chunks.specs.Pool.{StringPool}
use Rattle.axml_reader.specs.Dump.{escaped}
use Rattle.axml_reader.specs.Numbers.{string_kind}
use Rattle.text_lines.specs.Hex.{hex_text}
use Rattle.text_lines.specs.Joined.{◌⧺◌, texts_of}
use Rattle.arsc_reader.specs.declared.held.Held.{Held}
use Rattle.arsc_reader.specs.declared.held.Held.TheVariants as held
use Rattle.arsc_reader.specs.Contents.{Contents}
use Rattle.arsc_reader.specs.Numbers.{dimension_kind, first_color_kind, last_color_kind}
use Rattle.arsc_reader.specs.Table.{text_of, value_of}

-- a text in quotes, if there is one
abbrev pub quoted_text : Option (List ℕ) → List ℕ
quoted_text None = codes "none"
quoted_text (Some text) = codes "\"" ⧺ texts_of escaped text ⧺ codes "\""

-- a value of a type and a word: a colour, a dimension, a text of the table's strings, or another one
unfoldable pub plain_text : Option StringPool → ℕ → ℕ → List ℕ
plain_text pool kind word =
    if nat_le first_color_kind kind && nat_le kind last_color_kind then codes "color #" ⧺ hex_text word 8
    else (if kind == dimension_kind then codes "dimen " ⧺ hex_text word 8
    else (if kind == string_kind then codes "text " ⧺ quoted_text (text_of pool word)
    else codes "other " ⧺ hex_text kind 2 ⧺ codes " " ⧺ hex_text word 8))

-- what a resource holds
abbrev pub held_text : Option StringPool → Held → List ℕ
held_text pool held.None = codes "none"
held_text pool held.Complex = codes "complex"
held_text pool (held.Plain kind word) = plain_text pool kind word

-- the line of the resource with an id
unfoldable pub value_line : Contents → ℕ → List ℕ
value_line table id = hex_text id 8 ⧺ codes " " ⧺ held_text table.pool (value_of table.entries id) ⧺ codes "\n"

-- the lines of resources, in the order of their ids as they are asked for
abbrev pub value_lines : Contents → List ℕ → List ℕ
value_lines table ids = texts_of (value_line table) ids
