-- The text of a document: a line for the pool, each string, each id of the map, and each node and attribute.
use Rattle.std.specs.Prelude.{ℕ, ◌+◌, Bool, List, [], ◌∷◌, codes, decimal, length, slice_range, nat_lt, ◌==◌}
use Rattle.std.specs.Prelude.{if◌then◌else◌}
use Rattle.std.specs.List.{enumerate_from}
use Rattle.text_lines.specs.Hex.{hex_text}
use Rattle.text_lines.specs.Joined.{◌⧺◌, texts_of}
use Rattle.axml_chunks.specs.Pool.{StringPool}
use Rattle.axml_reader.specs.declared.doc.Attr.{Attr}
use Rattle.axml_reader.specs.declared.doc.Node.{Node}
use Rattle.axml_reader.specs.declared.doc.Node.TheVariants.{NsStart, NsEnd, Start, End, Chars}
use Rattle.axml_reader.specs.Document.{Document}
use Rattle.axml_reader.specs.Numbers.{no_string}

-- the name of string k
abbrev pub string_mark : ℕ → List ℕ
string_mark k = codes "s" ⧺ decimal k

-- a string number, or `-` if it means none
unfoldable pub string_name : ℕ → List ℕ
string_name n = if n == no_string then codes "-" else string_mark n

-- fields of a line, each after a space
abbrev pub name_field : ℕ → List ℕ
name_field n = codes " " ⧺ string_name n

abbrev pub number_field : ℕ → List ℕ
number_field n = codes " " ⧺ decimal n

abbrev pub hex_field : ℕ → ℕ → List ℕ
hex_field n digits = codes " " ⧺ hex_text n digits

-- the type and the word of a value, and the line's end
abbrev pub value_fields : ℕ → ℕ → List ℕ
value_fields kind word = hex_field kind 2 ⧺ hex_field word 8 ⧺ codes "\n"

-- a byte below a space
abbrev pub control_escape : ℕ → List ℕ
control_escape byte = codes "\\x" ⧺ hex_text byte 2

-- a byte of a string: a backslash, a quote, a newline and all below a space are escaped
unfoldable pub escaped : ℕ → List ℕ
escaped byte =
    if byte == 92 then 92 ∷ 92 ∷ []
    else (if byte == 34 then 92 ∷ 34 ∷ []
    else (if byte == 10 then codes "\\n"
    else (if nat_lt byte 32 then control_escape byte
    else byte ∷ [])))

-- the encoding of a pool's strings
unfoldable pub encoding : Bool → List ℕ
encoding utf8 = if utf8 then codes "utf8" else codes "utf16"

-- the pool's line
abbrev pub pool_line : Bool → ℕ → List ℕ
pool_line utf8 count = codes "pool " ⧺ encoding utf8 ⧺ number_field count ⧺ codes "\n"

-- a string's line
abbrev pub string_line : ℕ × List ℕ → List ℕ
string_line (k, text) = string_mark k ⧺ codes " \"" ⧺ texts_of escaped text ⧺ codes "\"\n"

-- an id's line
abbrev pub id_line : ℕ → List ℕ
id_line id = codes "map" ⧺ hex_field id 8 ⧺ codes "\n"

-- a namespace's line
abbrev pub namespace_line : List ℕ → ℕ → ℕ → List ℕ
namespace_line word prefix uri = word ⧺ name_field prefix ⧺ name_field uri ⧺ codes "\n"

-- an attribute's line
abbrev pub attr_line : Attr → List ℕ
attr_line attr =
    codes "attr" ⧺ name_field attr.ns ⧺ name_field attr.name ⧺ name_field attr.raw ⧺ value_fields attr.kind attr.word

-- the line of an element that begins
abbrev pub start_line : ℕ → ℕ → ℕ → ℕ → List ℕ
start_line line ns name count =
    codes "start" ⧺ number_field line ⧺ name_field ns ⧺ name_field name ⧺ number_field count ⧺ codes "\n"

-- the line of an element that ends
abbrev pub end_line : ℕ → ℕ → ℕ → List ℕ
end_line line ns name = codes "end" ⧺ number_field line ⧺ name_field ns ⧺ name_field name ⧺ codes "\n"

-- the line of character data
abbrev pub chars_line : ℕ → ℕ → ℕ → ℕ → List ℕ
chars_line line text kind word = codes "text" ⧺ number_field line ⧺ name_field text ⧺ value_fields kind word

-- a node's line, with those of its attributes among all
abbrev pub node_lines : List Attr → Node → List ℕ
node_lines attrs (NsStart prefix uri) = namespace_line (codes "ns") prefix uri
node_lines attrs (NsEnd prefix uri) = namespace_line (codes "endns") prefix uri
node_lines attrs (Start line ns name first n) =
    start_line line ns name n ⧺ texts_of attr_line (slice_range attrs first (first + n))
node_lines attrs (End line ns name) = end_line line ns name
node_lines attrs (Chars line text kind word) = chars_line line text kind word

abbrev pub string_lines : StringPool → List ℕ
string_lines pool = pool_line pool.utf8 (length pool.texts) ⧺ texts_of string_line (enumerate_from 0 pool.texts)

-- the whole text
abbrev pub dump_text : Document → List ℕ
dump_text doc = string_lines doc.pool ⧺ texts_of id_line doc.map ⧺ texts_of (node_lines doc.attrs) doc.nodes
