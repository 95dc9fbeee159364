-- A document from its bytes, or the first fault.
use Rattle.std.specs.Prelude.{ℕ, zero, suc, ◌+◌, false, not, List, [], length, Option, Some, None, Result, Ok, Err}
use Rattle.std.specs.Prelude.{nat_lt, ◌==◌, if◌then◌else◌}
use Rattle.axml_chunks.specs.declared.chunk.Chunk.{Chunk}
use Rattle.axml_chunks.specs.declared.fault.Fault.{Fault}
use Rattle.axml_chunks.specs.Chunks.{chunk_of}
use Rattle.axml_chunks.specs.Faults.{truncated, not_xml, unbalanced, no_element}
use Rattle.axml_chunks.specs.Numbers.{least_head, number16}
use Rattle.axml_chunks.specs.Pool.{StringPool}
use Rattle.axml_chunks.specs.Steps.{◌>>=◌}
use Rattle.axml_reader.specs.Brackets.{nothing_open}
use Rattle.axml_reader.specs.Document.{Document, State}
use Rattle.axml_reader.specs.Nodes.{part_at, joined}
use Rattle.axml_reader.specs.Numbers.{document_kind}

-- nothing was read yet
abbrev pub start : State
start = record { pool = None; map = []; nodes = []; attrs = []; stack = nothing_open false; starts = 0 }

-- the chunk that holds the document
unfoldable pub document_of : List ℕ → Result Chunk Fault
document_of bytes =
    if nat_lt (length bytes) least_head then Err (truncated 0)
    else (if not (number16 bytes 0 == document_kind) then Err (not_xml 0)
    else chunk_of bytes 0 (length bytes))

-- what was read with one chunk more, and the place after it
unfoldable pub one_chunk : List ℕ → ℕ → ℕ → State → Result (ℕ × State) Fault
one_chunk bytes end place s = do
  chunk ← chunk_of bytes place end
  t ← joined s (part_at bytes place chunk s)
  Ok (place + chunk.size, t)

-- what was read with the chunks from a place to the end, at most n
unfoldable pub chunks_from : ℕ → List ℕ → ℕ → ℕ → State → Result State Fault
chunks_from zero bytes end place s = Ok s
chunks_from (suc n) bytes end place s =
    if not (nat_lt place end) then Ok s
    else (one_chunk bytes end place s >>= λ next. chunks_from n bytes end next.0 next.1)

-- the document of these strings; without strings there is no element, since each has a name
abbrev pub document_with : ℕ → State → Option StringPool → Result Document Fault
document_with end s None = Err (no_element end)
document_with end s (Some pool) = Ok (record { pool = pool; map = s.map; nodes = s.nodes; attrs = s.attrs })

-- the document, if all was read up to its end
unfoldable pub finished : ℕ → State → Result Document Fault
finished end s =
    if not (length s.stack.opened == 0) then Err (unbalanced end)
    else (if not s.stack.closed then Err (no_element end)
    else document_with end s s.pool)

unfoldable pub decoded : List ℕ → Result Document Fault
decoded bytes = do
  document ← document_of bytes
  s ← chunks_from document.size bytes document.size document.head start
  finished document.size s
