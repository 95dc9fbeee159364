-- A table from its bytes, or the first fault, and what its resources hold.
use Rattle.std.specs.Prelude.{ℕ, zero, suc, not, ◌&&◌, List, [], ◌∷◌, length, slice_get, Option, Some, None, Result, Ok}
use Rattle.std.specs.Prelude.{Err, nat_lt, ◌==◌, if◌then◌else◌}
use Rattle.axml_chunks.specs.declared.chunk.Chunk.{Chunk}
use Rattle.axml_chunks.specs.declared.fault.Fault.{Fault}
use Rattle.axml_chunks.specs.Chunks.{chunk_of}
use Rattle.axml_chunks.specs.Faults.{truncated, bad_chunk, not_table}
use Rattle.axml_chunks.specs.Numbers.{least_head, number16}
use Rattle.axml_chunks.specs.Pool.{StringPool}
use Rattle.axml_chunks.specs.Steps.{◌>>=◌}
use Rattle.arsc_reader.specs.declared.held.Entry.{Entry}
use Rattle.arsc_reader.specs.declared.held.Held.{Held}
use Rattle.arsc_reader.specs.declared.held.Held.TheVariants as held
use Rattle.arsc_reader.specs.Contents.{Contents}
use Rattle.arsc_reader.specs.Numbers.{max_references, reference_kind, table_head, table_kind}
use Rattle.arsc_reader.specs.Reading.{start, in_table, all_chunks}

-- the chunk that holds the table; what comes after it is not looked at
unfoldable pub whole_of : List ℕ → Result Chunk Fault
whole_of bytes = do
  chunk ← chunk_of bytes 0 (length bytes)
  if nat_lt chunk.head table_head then Err (bad_chunk 0) else Ok chunk

-- what the chunks of a table hold
unfoldable pub inside_of : List ℕ → Result Contents Fault
inside_of bytes = do
  whole ← whole_of bytes
  s ← all_chunks (in_table bytes) bytes whole.size whole.head start
  Ok (record { pool = s.pool; entries = s.entries })

-- the table of a file, its entries in the order of the file, or the first fault
unfoldable pub table_of : List ℕ → Result Contents Fault
table_of bytes =
    if nat_lt (length bytes) least_head then Err (truncated 0)
    else (if not (number16 bytes 0 == table_kind) then Err (not_table 0)
    else inside_of bytes)

-- what an entry holds if it has an id, and otherwise what was found before it
abbrev pub newer : Held → Entry → ℕ → Held
newer before entry id = if entry.id == id then entry.held else before

-- what the last of these entries with an id holds; without one, what was found before them
unfoldable pub latest_after : Held → List Entry → ℕ → Held
latest_after before [] id = before
latest_after before (entry ∷ rest) id = latest_after (newer before entry id) rest id

-- what the last entry with an id holds; nothing without one
abbrev pub latest : List Entry → ℕ → Held
latest entries id = latest_after held.None entries id

-- the id that a reference names; a word of 0 names none
abbrev pub named_by : Held → Option ℕ
named_by held.None = None
named_by held.Complex = None
named_by (held.Plain kind word) = if (kind == reference_kind) && not (word == 0) then Some word else None

-- what is held, or what the id that it names holds
abbrev pub through : Held → Option ℕ → (ℕ → Held) → Held
through own None next = own
through own (Some id) next = next id

-- what an id holds, through at most n references, and nothing if one more is needed
unfoldable pub followed : ℕ → List Entry → ℕ → Held
followed zero entries id = through (latest entries id) (named_by (latest entries id)) (λ word. held.None)
followed (suc n) entries id =
    through (latest entries id) (named_by (latest entries id)) (λ word. followed n entries word)

-- what the resource with an id holds
abbrev pub value_of : List Entry → ℕ → Held
value_of entries id = followed max_references entries id

-- a string of the table
abbrev pub text_of : Option StringPool → ℕ → Option (List ℕ)
text_of None word = None
text_of (Some pool) word = slice_get pool.texts word
