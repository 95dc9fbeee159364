-- What the tool writes of resources in a table: one line each, or why the file is refused.
use Rattle.std.specs.Prelude.{ℕ, nat_lt, Bool, true, false, if◌then◌else◌, List, length, map, Option, Some, None}
use Rattle.std.specs.Prelude.{Result, Ok, Err, string_bytes, unwrap_or}
use Rattle.std.specs.declared.alloc.Global.{Global}
use Rattle.std.specs.declared.string.String.{String}
use Rattle.arsc_reader.specs.Contents.{Contents}
use Rattle.arsc_reader.specs.Lines.{value_line, value_lines}
use Rattle.arsc_reader.specs.Table.{table_of}
use Rattle.axml_chunks.specs.declared.fault.Fault.{Fault}
use Rattle.line_words.specs.words.Names.{hex_of}
use Rattle.tool_io.specs.Fetched.{Files, file_of}
use Rattle.tool_io.specs.Fetches.{Fetch}
use Rattle.tool_replies.specs.Dump.{fault_text, refused_file_text}
use Rattle.tool_replies.specs.Numbers.{long_file, missing_file}

-- the most bytes that a table may have
abbrev pub max_table : ℕ
max_table = 16777216

-- a table is asked for with this limit
abbrev pub table_fetch : List ℕ → Fetch
table_fetch name = record { name = name; limit = max_table }

-- the id that a word is, or 0
abbrev pub resource_id : List ℕ → ℕ
resource_id word = unwrap_or (hex_of word) 0

-- the ids that words are
abbrev pub resource_ids : List (String Global) → List ℕ
resource_ids words = map (λ word. resource_id (string_bytes word)) words

-- the line of the resource whose id a word is
abbrev pub word_line : Contents → String Global → List ℕ
word_line table word = value_line table (resource_id (string_bytes word))

-- the lines of resources in what was read, or its fault
abbrev pub looked_up : List ℕ → Result Contents Fault → List ℕ
looked_up ids (Ok table) = value_lines table ids
looked_up ids (Err fault) = fault_text fault

abbrev pub is_broken : Result Contents Fault → Bool
is_broken (Ok table) = false
is_broken (Err fault) = true

-- the same of a file, if there is one
abbrev pub table_text : List ℕ → Option (List ℕ) → List ℕ
table_text ids None = refused_file_text missing_file
table_text ids (Some bytes) =
    if nat_lt max_table (length bytes) then refused_file_text long_file else looked_up ids (table_of bytes)

abbrev pub is_refused_table : Option (List ℕ) → Bool
is_refused_table None = true
is_refused_table (Some bytes) = if nat_lt max_table (length bytes) then true else is_broken (table_of bytes)

-- what is written of resources in the file of a name, and whether the file is refused
abbrev pub lookup_page : Files → List ℕ → List ℕ → List ℕ
lookup_page files name ids = table_text ids (file_of files name)

abbrev pub refuses_table : Files → List ℕ → Bool
refuses_table files name = is_refused_table (file_of files name)
