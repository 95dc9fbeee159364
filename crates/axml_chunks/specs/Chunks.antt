-- The chunk at a place of a file.
use Rattle.std.specs.Prelude.{◌≡◌, ℕ, ◌≤◌, ◌+◌, ◌-◌, ◌%◌, Bool, not, ◌||◌, List, length, Result, Ok, Err, nat_lt, ◌==◌}
use Rattle.std.specs.Prelude.{if◌then◌else◌}
use Rattle.axml_chunks.specs.declared.chunk.Chunk.{Chunk}
use Rattle.axml_chunks.specs.declared.fault.Fault.{Fault}
use Rattle.axml_chunks.specs.Faults.{truncated, bad_chunk}
use Rattle.axml_chunks.specs.Numbers.{head_offset, least_head, number16, number32, size_offset}

-- no chunk has a header of this many bytes and this size
abbrev pub is_bad_head : ℕ → ℕ → Bool
is_bad_head head size = nat_lt head least_head || not (head % 4 == 0) || not (size % 4 == 0) || nat_lt size head

-- what ends there lies in these bytes
abbrev pub EndsIn : List ℕ → ℕ → Type 0
EndsIn bytes end = end ≤ length bytes

-- the chunk at a place, which ends at `end` at the latest, or what is wrong with it
unfoldable pub chunk_of : List ℕ → ℕ → ℕ → Result Chunk Fault
chunk_of bytes place end =
    if nat_lt (end - place) least_head then Err (truncated place)
    else (if is_bad_head (number16 bytes (place + head_offset)) (number32 bytes (place + size_offset))
    then Err (bad_chunk place)
    else (if nat_lt (end - place) (number32 bytes (place + size_offset)) then Err (truncated place)
    else Ok
    (record {
      kind = number16 bytes place;
      head = number16 bytes (place + head_offset);
      size = number32 bytes (place + size_offset);
    })))

-- a chunk of these sizes lies between a place and an end
pub record IsChunk (place end : ℕ) (chunk : Chunk) : Type 0 where
  pub head : least_head ≤ chunk.head
  pub size : chunk.head ≤ chunk.size
  pub fits : place + chunk.size ≤ end

-- there is a chunk at a place of a file, which ends at `end` at the latest
pub record IsChunkAt (bytes : List ℕ) (place end : ℕ) (chunk : Chunk) : Type 0 where
  pub kind_is : chunk.kind ≡ number16 bytes place
  pub head_is : chunk.head ≡ number16 bytes (place + head_offset)
  pub size_is : chunk.size ≡ number32 bytes (place + size_offset)
  pub head_words : chunk.head % 4 ≡ 0
  pub size_words : chunk.size % 4 ≡ 0
  pub lies : IsChunk place end chunk
