-- The entries of one type of a table, each from its place.
use Rattle.std.specs.Prelude.{ℕ, zero, suc, ◌+◌, ◌-◌, ◌*◌, ◌%◌, ◌^◌, ◌≤◌, Bool, true, not, ◌||◌, ◌&&◌, List, [], ◌∷◌}
use Rattle.std.specs.Prelude.{◌++◌, slice_index, Option, Some, None, Result, Ok, Err, nat_lt, ◌==◌, if◌then◌else◌}
use Rattle.axml_chunks.specs.declared.chunk.Chunk.{Chunk}
use Rattle.axml_chunks.specs.declared.fault.Fault.{Fault}
use Rattle.axml_chunks.specs.Faults.{truncated, bad_chunk}
use Rattle.axml_chunks.specs.Numbers.{number16, number32}
use Rattle.axml_chunks.specs.Steps.{◌>>=◌, upto}
use Rattle.arsc_reader.specs.declared.held.Entry.{Entry}
use Rattle.arsc_reader.specs.declared.held.Held.{Held}
use Rattle.arsc_reader.specs.declared.held.Held.TheVariants as held
use Rattle.arsc_reader.specs.declared.listing.Listing.{Listing}
use Rattle.arsc_reader.specs.Numbers.{config_offset, count_offset, entry_flags_offset, first_offset, flags_offset}
use Rattle.arsc_reader.specs.Numbers.{kind_offset, last_entry, least_entry, no_entry, number_offset, other_forms}
use Rattle.arsc_reader.specs.Numbers.{package_ids, type_head, type_ids, value_bytes, word_offset}

-- n bytes from a place on are 0
abbrev pub are_zeros : List ℕ → ℕ → ℕ → Bool
are_zeros bytes place zero = true
are_zeros bytes place (suc n) = are_zeros bytes place n && (slice_index bytes (place + n) == 0)

-- where the entries of a type are, whose chunk is at a place, in a package of this id
abbrev pub listing_at : List ℕ → ℕ → ℕ → Chunk → Listing
listing_at bytes place package_id chunk = record {
  id = package_id * package_ids + slice_index bytes (place + number_offset) * type_ids;
  offsets = place + chunk.head;
  first = place + number32 bytes (place + first_offset);
  end = place + chunk.size;
  count = number32 bytes (place + count_offset);
}

-- the number of a type is 0, or its configuration has a size that does not fit its header
abbrev pub is_bad_type : ℕ → ℕ → ℕ → Bool
is_bad_type head number size = number == 0 || nat_lt size 4 || nat_lt (head - config_offset) size

-- the offsets of the entries, or the place of the first entry, leave a chunk of this size
abbrev pub is_outside : Chunk → ℕ → ℕ → Bool
is_outside chunk count first = nat_lt chunk.size (chunk.head + 4 * count) || nat_lt chunk.size first

-- the entries of a type; none where it has flags, or is for another configuration than the default one
unfoldable pub listing_of : List ℕ → ℕ → ℕ → Chunk → Result (Option Listing) Fault
listing_of bytes place package_id chunk =
    if nat_lt chunk.head type_head then Err (bad_chunk place)
    else (if not (slice_index bytes (place + flags_offset) == 0) then Ok None
    else
    (if is_bad_type chunk.head (slice_index bytes (place + number_offset)) (number32 bytes (place + config_offset))
    then Err (bad_chunk place)
    else (if not (are_zeros bytes (place + type_head) (number32 bytes (place + config_offset) - 4)) then Ok None
    else (if is_outside chunk (number32 bytes (place + count_offset)) (number32 bytes (place + first_offset))
    then Err (bad_chunk place)
    else Ok (Some (listing_at bytes place package_id chunk))))))

-- the offsets of the entries lie in a file of this length, and each entry has an id
pub record IsListing (len : ℕ) (listing : Listing) : Type 0 where
  pub id : listing.id + type_ids ≤ 2 ^ 32
  pub offsets : listing.offsets + 4 * listing.count ≤ listing.end
  pub first : listing.first ≤ listing.end
  pub end : listing.end ≤ len

abbrev pub IfListed : ℕ → Option Listing → Type 0
IfListed len None = Unit {0}
IfListed len (Some listing) = IsListing len listing

-- An entry begins with its size and its flags, in two bytes each, and a key. Of the flags, 1 says that it is complex.
-- Faults in an entry are reported at its offset's place, `own`.

-- the plain value of the entry at a place, which follows the entry
unfoldable pub plain_at : List ℕ → ℕ → ℕ → ℕ → Result Held Fault
plain_at bytes own end place =
    if nat_lt (number16 bytes place) least_entry || nat_lt end (place + number16 bytes place + value_bytes)
    then Err (truncated own)
    else Ok
    (held.Plain (slice_index bytes (place + number16 bytes place + kind_offset))
    (number32 bytes (place + number16 bytes place + word_offset)))

-- what the entry at a place holds
unfoldable pub entry_at : List ℕ → ℕ → ℕ → ℕ → Result Held Fault
entry_at bytes own end place =
    if nat_lt end (place + least_entry) then Err (truncated own)
    else (if not (nat_lt (number16 bytes (place + entry_flags_offset)) other_forms) then Ok held.None
    else (if number16 bytes (place + entry_flags_offset) % 2 == 1 then Ok held.Complex
    else plain_at bytes own end place))

-- what entry k holds, whose offset is in the list; the highest number there means no entry
unfoldable pub held_at : List ℕ → Listing → ℕ → Result Held Fault
held_at bytes listing k =
    if number32 bytes (listing.offsets + 4 * k) == no_entry then Ok held.None
    else entry_at bytes (listing.offsets + 4 * k) listing.end (listing.first + number32 bytes (listing.offsets + 4 * k))

-- the entries with one more, if it holds something
abbrev pub with_entry : List Entry → ℕ → Held → List Entry
with_entry entries id held.None = entries
with_entry entries id held.Complex = entries ++ record { id = id; held = held.Complex } ∷ []
with_entry entries id (held.Plain kind word) = entries ++ record { id = id; held = held.Plain kind word } ∷ []

-- the entries with entry k of a type after them; one whose number does not fit an id is passed over
unfoldable pub entry_after : List ℕ → Listing → List Entry → ℕ → Result (List Entry) Fault
entry_after bytes listing entries k =
    if nat_lt last_entry k then Ok entries
    else (held_at bytes listing k >>= λ held. Ok (with_entry entries (listing.id + k) held))

-- the first n entries of a type after others
abbrev pub entries_upto : List ℕ → Listing → List Entry → ℕ → Result (List Entry) Fault
entries_upto bytes listing entries n = upto (entry_after bytes listing) entries n
