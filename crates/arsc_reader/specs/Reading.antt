-- A table chunk by chunk, up to the first fault.
use Rattle.std.specs.Prelude.{ℕ, zero, suc, ◌+◌, not, List, [], Option, Some, None, is_some, Result, Ok, Err, nat_lt}
use Rattle.std.specs.Prelude.{◌==◌, if◌then◌else◌}
use Rattle.axml_chunks.specs.declared.chunk.Chunk.{Chunk}
use Rattle.axml_chunks.specs.declared.fault.Fault.{Fault}
use Rattle.axml_chunks.specs.Chunks.{chunk_of}
use Rattle.axml_chunks.specs.Faults.{bad_chunk, second_pool, too_big}
use Rattle.axml_chunks.specs.Numbers.{number32}
use Rattle.axml_chunks.specs.Pool.{StringPool, pool_of}
use Rattle.axml_chunks.specs.Steps.{◌>>=◌}
use Rattle.axml_reader.specs.Numbers.{pool_kind}
use Rattle.arsc_reader.specs.declared.held.Entry.{Entry}
use Rattle.arsc_reader.specs.declared.listing.Listing.{Listing}
use Rattle.arsc_reader.specs.Entries.{listing_of, entries_upto}
use Rattle.arsc_reader.specs.Numbers.{max_entries, max_package, package_head, package_kind, package_offset, type_kind}

-- what was read so far: the strings, the entries in the order of the file, and how many of these its types declare
pub record Found : Type 0 where
  pub pool : Option StringPool
  pub entries : List Entry
  pub count : ℕ

-- nothing was read yet
abbrev pub start : Found
start = record { pool = None; entries = []; count = 0 }

-- what was read with the entries of a type, whose chunk is at a place
unfoldable pub listed : List ℕ → ℕ → Option Listing → Found → Result Found Fault
listed bytes place None s = Ok s
listed bytes place (Some listing) s =
    if nat_lt max_entries (s.count + listing.count) then Err (too_big place)
    else
    (entries_upto bytes listing s.entries listing.count
    >>= λ entries. Ok (record { pool = s.pool; entries = entries; count = s.count + listing.count }))

unfoldable pub type_read : List ℕ → ℕ → ℕ → Chunk → Found → Result Found Fault
type_read bytes package_id place chunk s =
    listing_of bytes place package_id chunk >>= λ listing. listed bytes place listing s

-- what was read with a chunk of a package; only types are looked at
unfoldable pub in_package : List ℕ → ℕ → ℕ → Chunk → Found → Result Found Fault
in_package bytes package_id place chunk s =
    if chunk.kind == type_kind then type_read bytes package_id place chunk s else Ok s

-- what was read with one chunk more, and the place after it
unfoldable pub one_chunk : (ℕ → Chunk → Found → Result Found Fault) → List ℕ → ℕ → ℕ → Found → Result (ℕ × Found) Fault
one_chunk step bytes end place s = do
  chunk ← chunk_of bytes place end
  t ← step place chunk s
  Ok (place + chunk.size, t)

-- what was read with the chunks from a place to the end, at most n
unfoldable pub chunks_from : (ℕ → Chunk → Found → Result Found Fault) → ℕ → List ℕ → ℕ → ℕ → Found → Result Found Fault
chunks_from step zero bytes end place s = Ok s
chunks_from step (suc n) bytes end place s =
    if not (nat_lt place end) then Ok s
    else (one_chunk step bytes end place s >>= λ next. chunks_from step n bytes end next.0 next.1)

-- all of them: each takes at least one byte
abbrev pub all_chunks : (ℕ → Chunk → Found → Result Found Fault) → List ℕ → ℕ → ℕ → Found → Result Found Fault
all_chunks step bytes end place s = chunks_from step end bytes end place s

-- the id of the package whose chunk is at a place
unfoldable pub package_of : List ℕ → ℕ → Chunk → Result ℕ Fault
package_of bytes place chunk =
    if nat_lt chunk.head package_head then Err (bad_chunk place)
    else (if nat_lt max_package (number32 bytes (place + package_offset)) then Err (bad_chunk place)
    else Ok (number32 bytes (place + package_offset)))

unfoldable pub package_read : List ℕ → ℕ → Chunk → Found → Result Found Fault
package_read bytes place chunk s = do
  package_id ← package_of bytes place chunk
  all_chunks (in_package bytes package_id) bytes (place + chunk.size) (place + chunk.head) s

unfoldable pub pool_read : List ℕ → ℕ → Chunk → Found → Result Found Fault
pool_read bytes place chunk s =
    if is_some s.pool then Err (second_pool place)
    else (pool_of bytes place chunk >>= λ pool. Ok (record { pool = Some pool; entries = s.entries; count = s.count }))

-- what was read with a chunk of the table: a pool, a package, or one that is passed over
unfoldable pub in_table : List ℕ → ℕ → Chunk → Found → Result Found Fault
in_table bytes place chunk s =
    if chunk.kind == pool_kind then pool_read bytes place chunk s
    else (if chunk.kind == package_kind then package_read bytes place chunk s
    else Ok s)
