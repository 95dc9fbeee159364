-- Saved states: offsets and texts by the ids of views, the bytes of a state, and the state of bytes.
use Rattle.std.specs.Prelude.{◌≡◌, ◌≢◌, true, ◌⊎◌, ℕ, zero, suc, ◌+◌, ◌<◌, ◌≤◌, ◌==◌, ◌||◌, ◌&&◌, Bool, not}
use Rattle.std.specs.Prelude.{if◌then◌else◌, nat_lt, List, [], ◌∷◌, ◌++◌, length, take, drop, slice_index, Result, Ok}
use Rattle.std.specs.Prelude.{Err, chars, encode_utf8_all}
use Rattle.std.specs.Str.{is_utf8}
use lib.Utf8.{scalars}
use Rattle.std.specs.List.{flat_map}
use Rattle.byteorder.specs.Endian.{little_bytes, little_number}
use Rattle.saved_state.specs.Numbers.{first_letter, first_version, head_bytes, ids_end, last_version, max_entries}
use Rattle.saved_state.specs.Numbers.{max_offset, max_text_bytes, offset_entry_bytes, offset_kind, second_letter}
use Rattle.saved_state.specs.Numbers.{text_entry_bytes, text_kind}
use Rattle.saved_state.specs.declared.value.Value.{Value}
use Rattle.saved_state.specs.declared.value.Value.TheVariants.{Offset, Text}

-- an id, and what a state has for the views that have it
abbrev pub StateEntry : Type 0
StateEntry = ℕ × Value

-- an offset is no greater than it may be, and a text, which is one of characters, no longer
abbrev pub IsValue : Value → Type 0
IsValue (Offset offset) = offset ≤ max_offset
IsValue (Text text) = (scalars text ≡ true) × (length (encode_utf8_all text) ≤ max_text_bytes)

-- the first version has no texts
abbrev pub IsValueOf : ℕ → Value → Type 0
IsValueOf version (Offset offset) = IsValue (Offset offset)
IsValueOf version (Text text) = (version ≢ first_version) × IsValue (Text text)

-- the ids of entries rise from above this one, and their values are those of a version
abbrev pub RisesFrom : ℕ → ℕ → List StateEntry → Type 0
RisesFrom version before [] = Unit {0}
RisesFrom version before (entry ∷ entries) =
    (before < entry.0) × (entry.0 < ids_end) × IsValueOf version entry.1 × RisesFrom version entry.0 entries

-- what a state of a version may be: entries by rising ids, of which none is 0
pub record IsState (version : ℕ) (entries : List StateEntry) : Type 0 where
  pub known : (version ≡ first_version) ⊎ (version ≡ last_version)
  pub rises : RisesFrom version 0 entries
  pub few : length entries ≤ max_entries

-- the kind of a value, and the value: a text with its length before it, as UTF-8
abbrev pub value_bytes : Value → List ℕ
value_bytes (Offset offset) = offset_kind ∷ little_bytes 4 offset
value_bytes (Text text) = text_kind ∷ (little_bytes 2 (length (encode_utf8_all text)) ++ encode_utf8_all text)

abbrev pub entry_bytes : StateEntry → List ℕ
entry_bytes entry = little_bytes 4 entry.0 ++ value_bytes entry.1

-- the two letters, a version, how many entries there are, and these
abbrev pub encoded_as : ℕ → List StateEntry → List ℕ
encoded_as version entries =
    first_letter ∷ second_letter ∷ version ∷ (little_bytes 2 (length entries) ++ flat_map entry_bytes entries)

-- the bytes that are written of a state
abbrev pub encoded : List StateEntry → List ℕ
encoded entries = encoded_as last_version entries

-- how many bytes a value takes after its kind
abbrev pub value_size : Value → ℕ
value_size (Offset offset) = 4
value_size (Text text) = 2 + length (encode_utf8_all text)

-- how many bytes its entry takes
abbrev pub entry_size : Value → ℕ
entry_size (Offset offset) = offset_entry_bytes
entry_size (Text text) = text_entry_bytes + length (encode_utf8_all text)

-- the next step gets what was read; the first wrong place stays
infixl 10 ◌>>=◌
abbrev pub ◌>>=◌ : {A B : Type 0} → Result A ℕ → (A → Result B ℕ) → Result B ℕ
(Ok read) >>= next = next read
(Err place) >>= next = Err place

-- the version and the number of entries by a head, or the place of its first field that is cut short or wrong
unfoldable pub head_of : List ℕ → Result (ℕ × ℕ) ℕ
head_of bytes =
    if nat_lt (length bytes) 2
    || not (slice_index bytes 0 == first_letter)
    || not (slice_index bytes 1 == second_letter)
    then Err 0
    else
    (if nat_lt (length bytes) 3 || not (slice_index bytes 2 == first_version || slice_index bytes 2 == last_version)
    then Err 2
    else (if nat_lt (length bytes) head_bytes then Err 3
    else Ok (slice_index bytes 2, little_number 2 (drop 3 bytes))))

-- the id with which these bytes begin, at this place; it is above that of the entry before
unfoldable pub id_of : ℕ → ℕ → List ℕ → Result ℕ ℕ
id_of before place rest =
    if nat_lt (length rest) 4 then Err place
    else (if not (nat_lt before (little_number 4 rest)) then Err place
    else Ok (little_number 4 rest))

-- whether entries of a version may have this kind
abbrev pub has_kind : ℕ → ℕ → Bool
has_kind version kind = kind == offset_kind || (not (version == first_version) && kind == text_kind)

-- the kind with which they begin
unfoldable pub kind_of : ℕ → ℕ → List ℕ → Result ℕ ℕ
kind_of version place rest =
    if nat_lt (length rest) 1 || not (has_kind version (slice_index rest 0)) then Err place else Ok (slice_index rest 0)

-- the offset with which they begin
unfoldable pub offset_of : ℕ → List ℕ → Result ℕ ℕ
offset_of place rest =
    if nat_lt (length rest) 4 then Err place
    else (if nat_lt max_offset (little_number 4 rest) then Err place
    else Ok (little_number 4 rest))

-- the text of the first n bytes
unfoldable pub words_of : ℕ → ℕ → List ℕ → Result (List ℕ) ℕ
words_of count place rest =
    if nat_lt (length rest) count || not (is_utf8 (take count rest)) then Err place else Ok (chars (take count rest))

-- the text whose length they begin with
unfoldable pub text_of : ℕ → List ℕ → Result (List ℕ) ℕ
text_of place rest =
    if nat_lt (length rest) 2 then Err place else words_of (little_number 2 rest) (place + 2) (drop 2 rest)

-- the value of a kind
abbrev pub value_of : ℕ → ℕ → List ℕ → Result Value ℕ
value_of kind place rest =
    if kind == offset_kind then (offset_of place rest >>= λ (offset : ℕ). Ok (Offset offset))
    else (text_of place rest >>= λ (text : List ℕ). Ok (Text text))

-- the entry of a version with which these bytes begin, at this place; its id is above that of the entry before
unfoldable pub entry_of : ℕ → ℕ → ℕ → List ℕ → Result StateEntry ℕ
entry_of version before place rest =
    id_of before place rest >>= λ (id : ℕ).
    (kind_of version (place + 4) (drop 4 rest) >>= λ (kind : ℕ).
    (value_of kind (place + 5) (drop 5 rest) >>= λ (value : Value). Ok (id, value)))

-- a number of entries, and nothing after them
abbrev pub entries_of : ℕ → ℕ → ℕ → ℕ → List ℕ → Result (List StateEntry) ℕ
entries_of version zero before place rest = if nat_lt 0 (length rest) then Err place else Ok []
entries_of version (suc n) before place rest =
    entry_of version before place rest >>= λ (entry : StateEntry).
    (entries_of version n entry.0 (place + entry_size entry.1) (drop (entry_size entry.1) rest)
    >>= λ (entries : List StateEntry). Ok (entry ∷ entries))

-- the state of bytes, or the place of the first field that is cut short or wrong, or that follows the state
unfoldable pub decoded : List ℕ → Result (List StateEntry) ℕ
decoded bytes = head_of bytes >>= λ (head : ℕ × ℕ). entries_of head.0 head.1 0 head_bytes (drop head_bytes bytes)

-- a place in these bytes, or right after them
abbrev pub IsPlaceIn : List ℕ → ℕ → Type 0
IsPlaceIn bytes place = place ≤ length bytes
