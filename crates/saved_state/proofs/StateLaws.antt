-- A state that is read entry by entry, and one that was written.
use Rattle.std.proofs.Common.{◌≡◌, ℕ, suc, ◌+◌, ◌-◌, ◌<◌, ◌≤◌, true, false, List, [], ◌∷◌, ◌++◌, length, take, drop, Result, Ok, Err, refl, sym, subst, ◌∙◌, ◌⊎◌, ap, arith, ltb, inl, inr, append_assoc, length-append, length-drop}
use Rattle.std.proofs.lemmas.Bool.{lt-ltb, le-ltb, ne_eqb}
use lib.Utf8.{scalars}
use Rattle.std.proofs.lemmas.Str.{chars-encodes, is_utf8-from_IsUtf8}
use Rattle.std.proofs.lemmas.List.{append-nil, drop-drop}
use Rattle.std.specs.Prelude.{chars, encode_utf8_all}
use Rattle.std.specs.Str.{is_utf8}
use Rattle.std.specs.List.{flat_map}
use Rattle.byteorder.specs.Endian.{little_bytes}
use Rattle.byteorder.specs.Numbers.{little_number-reads_back}
use Rattle.saved_state.specs.Answers.{FailsAs, ReadAs, is_bad_at}
use Rattle.saved_state.specs.State.{◌>>=◌, IsState, IsValueOf, RisesFrom, StateEntry, decoded, encoded_as, entries_of, entry_bytes, entry_of, entry_size, has_kind, head_of, id_of, kind_of, offset_of, text_of, words_of}
use Rattle.view_model.specs.declared.fault.Fault.{Fault}
use Rattle.view_model.specs.declared.fault.Fault.TheVariants as faults
use Rattle.saved_state.specs.declared.value.Value.TheVariants.{Offset, Text}

-- a list before another one, and the other one
take-front : (front rest : List ℕ) → take (length front) (front ++ rest) ≡ front
take-front [] rest = refl
take-front (x ∷ front) rest = ap (λ (list : List ℕ). x ∷ list) (take-front front rest)

drop-front : (front rest : List ℕ) → drop (length front) (front ++ rest) ≡ rest
drop-front [] rest = refl
drop-front (x ∷ front) rest = drop-front front rest

-- entries that were read before those that are still to be read
abbrev pub ahead : List StateEntry → Result (List StateEntry) ℕ → Result (List StateEntry) ℕ
ahead done (Ok more) = Ok (done ++ more)
ahead done (Err place) = Err place

ahead_more : (done : List StateEntry) (entry : StateEntry) (rest : Result (List StateEntry) ℕ)
    → ahead done (rest >>= λ (list : List StateEntry). Ok (entry ∷ list)) ≡ ahead (done ++ entry ∷ []) rest
ahead_more done entry (Ok more) = ap (λ (l : List StateEntry). let r : Result (List StateEntry) ℕ = Ok l in r) (sym (append_assoc done (entry ∷ []) more))
ahead_more done entry (Err place) = refl

module _ (version : ℕ) (done : List StateEntry) (before place : ℕ) (bytes : List ℕ) (count counter : ℕ) (more : counter < count) where
  -- one entry more
  pub read_more : (entry : StateEntry) → entry_of version before place (drop place bytes) ≡ Ok entry
      → ahead done (entries_of version (count - counter) before place (drop place bytes)) ≡ ahead (done ++ entry ∷ []) (entries_of version (count - (counter + 1)) entry.0 (place + entry_size entry.1) (drop (place + entry_size entry.1) bytes))
  read_more entry is =
      let next : count - counter ≡ suc (count - (counter + 1)) = omega arith in
      rw (next, is)
      (ahead_more done entry (entries_of version (count - (counter + 1)) entry.0 (place + entry_size entry.1) (drop (entry_size entry.1) (drop place bytes)))
      ∙ ap (λ (rest : List ℕ). ahead (done ++ entry ∷ []) (entries_of version (count - (counter + 1)) entry.0 (place + entry_size entry.1) rest)) (drop-drop (entry_size entry.1) place bytes))

  pub read_fault : (wrong : ℕ) → entry_of version before place (drop place bytes) ≡ Err wrong → ahead done (entries_of version (count - counter) before place (drop place bytes)) ≡ Err wrong
  read_fault wrong is =
      let next : count - counter ≡ suc (count - (counter + 1)) = omega arith in
      rw (next, is) refl

-- nothing is left to be read
pub read_end : (version : ℕ) (done : List StateEntry) (before place : ℕ) (bytes : List ℕ) (count counter : ℕ) → count ≤ counter → length bytes ≤ place
    → ahead done (entries_of version (count - counter) before place (drop place bytes)) ≡ Ok done
read_end version done before place bytes count counter none over =
    let zero_left : count - counter ≡ 0 = omega arith in
    let empty : length (drop place bytes) ≡ 0 = length-drop place bytes ∙ omega arith in
    rw (zero_left, empty) (ap (λ (l : List StateEntry). let r : Result (List StateEntry) ℕ = Ok l in r) (append-nil done))

pub read_over : (version : ℕ) (done : List StateEntry) (before place : ℕ) (bytes : List ℕ) (count counter : ℕ) → count ≤ counter → place < length bytes
    → ahead done (entries_of version (count - counter) before place (drop place bytes)) ≡ Err place
read_over version done before place bytes count counter none over =
    let zero_left : count - counter ≡ 0 = omega arith in
    let some : 0 < length (drop place bytes) = rw length-drop (omega arith) in
    rw (zero_left, lt-ltb 0 (length (drop place bytes)) some) refl

-- a fault is reported as it was, whatever was before it
pub reported_on : {A B : Type 0} (fault : Fault) (first : Result A ℕ) (all : Result B ℕ) → ((wrong : ℕ) → first ≡ Err wrong → all ≡ Err wrong) → FailsAs first fault → FailsAs all fault
reported_on (faults.Refused refusal) first all goes says = (says.0, goes says.0 says.1, says.2)
reported_on faults.NoMemory first all goes says = tt

-- a fault that reports the first wrong place
pub reported_at : {A : Type 0} (fault : Fault) (read : Result A ℕ) (place : ℕ) → read ≡ Err place → is_bad_at place fault → FailsAs read fault
reported_at (faults.Refused refusal) read place wrong bad = (place, wrong, bad)
reported_at faults.NoMemory read place wrong bad = absurd bad

pub counted : (bytes : List ℕ) (version count : ℕ) → head_of bytes ≡ Ok (version, count) → decoded bytes ≡ entries_of version count 0 5 (drop 5 bytes)
unfolding decoded
counted bytes version count is = rw is refl

-- the fields of a state that was written are read back

id_back : (before place id : ℕ) (rest : List ℕ) → before < id → id < 4294967296 → id_of before place (little_bytes 4 id ++ rest) ≡ Ok id
unfolding id_of
id_back before place id rest above fits =
    rw (le-ltb (length (little_bytes 4 id ++ rest)) 4 (omega arith), little_number-reads_back 4 id rest (omega arith), lt-ltb before id above) refl

kind_back : (version place kind : ℕ) (rest : List ℕ) → has_kind version kind ≡ true → kind_of version place (kind ∷ rest) ≡ Ok kind
unfolding kind_of
kind_back version place kind rest has = rw (le-ltb (length (kind ∷ rest)) 1 (omega arith), has) refl

offset_back : (place offset : ℕ) (rest : List ℕ) → offset ≤ 16777215 → offset_of place (little_bytes 4 offset ++ rest) ≡ Ok offset
unfolding offset_of
offset_back place offset rest few =
    rw (le-ltb (length (little_bytes 4 offset ++ rest)) 4 (omega arith), little_number-reads_back 4 offset rest (omega arith), le-ltb 16777215 offset few) refl

-- a text is what its bytes encode
module _ (text : List ℕ) (valid_text : scalars text ≡ true) where
  valid : is_utf8 (encode_utf8_all text) ≡ true
  valid = is_utf8-from_IsUtf8 (encode_utf8_all text) (text, (valid_text, refl))

  back : chars (encode_utf8_all text) ≡ text
  back = chars-encodes text valid_text

  words_back : (place : ℕ) (rest : List ℕ) → words_of (length (encode_utf8_all text)) place (encode_utf8_all text ++ rest) ≡ Ok text
  unfolding words_of
  words_back place rest =
      rw (
        le-ltb (length (encode_utf8_all text ++ rest)) (length (encode_utf8_all text)) (omega (arith, length-append (encode_utf8_all text) rest)),
        take-front (encode_utf8_all text) rest,
        valid,
        back,
      ) refl

  text_back : (place : ℕ) (rest : List ℕ) → length (encode_utf8_all text) ≤ 65535
      → text_of place (little_bytes 2 (length (encode_utf8_all text)) ++ (encode_utf8_all text ++ rest)) ≡ Ok text
  unfolding text_of
  text_back place rest few =
      let bytes = encode_utf8_all text in
      rw (
        le-ltb (length (little_bytes 2 (length bytes) ++ (bytes ++ rest))) 2 (omega arith),
        little_number-reads_back 2 (length bytes) (bytes ++ rest) (omega arith),
      ) (words_back (place + 2) rest)

entry_back : (version before place : ℕ) (entry : StateEntry) (rest : List ℕ) → before < entry.0 → entry.0 < 4294967296 → IsValueOf version entry.1
    → entry_of version before place (entry_bytes entry ++ rest) ≡ Ok entry
unfolding entry_of
entry_back version before place (id, Offset offset) rest above fits few =
    rw (id_back before place id ((1 ∷ little_bytes 4 offset) ++ rest) above fits, kind_back version (place + 4) 1 (little_bytes 4 offset ++ rest) refl, offset_back (place + 5) offset rest few) refl
entry_back version before place (id, Text text) rest above fits few =
    let bytes = encode_utf8_all text in
    let kind : has_kind version 2 ≡ true = rw (ne_eqb version 1 few.0) refl in
    rw (
      append_assoc (little_bytes 4 id) (2 ∷ (little_bytes 2 (length bytes) ++ bytes)) rest,
      id_back before place id (2 ∷ ((little_bytes 2 (length bytes) ++ bytes) ++ rest)) above fits,
      kind_back version (place + 4) 2 ((little_bytes 2 (length bytes) ++ bytes) ++ rest) kind,
      append_assoc (little_bytes 2 (length bytes)) bytes rest,
      text_back text few.1.0 (place + 5) rest few.1.1,
    ) refl

entry_rest : (entry : StateEntry) (rest : List ℕ) → drop (entry_size entry.1) (entry_bytes entry ++ rest) ≡ rest
entry_rest (id, Offset offset) rest = refl
entry_rest (id, Text text) rest = sym (drop-drop (length (encode_utf8_all text)) 7 (entry_bytes (id, Text text) ++ rest)) ∙ drop-front (encode_utf8_all text) rest

long : (version count : ℕ) (rest : List ℕ) (n : ℕ) → n ≤ 5 → ltb (length (86 ∷ 83 ∷ version ∷ (little_bytes 2 count ++ rest))) n ≡ false
long version count rest n few = le-ltb (length (86 ∷ 83 ∷ version ∷ (little_bytes 2 count ++ rest))) n (omega arith)

head_back : (version count : ℕ) (rest : List ℕ) → (version ≡ 1) ⊎ (version ≡ 2) → count < 65536 → head_of (86 ∷ 83 ∷ version ∷ (little_bytes 2 count ++ rest)) ≡ Ok (version, count)
unfolding head_of
head_back version count rest (inl one) few = rw (one, long version count rest 2 (omega arith), long version count rest 3 (omega arith), long version count rest 5 (omega arith), little_number-reads_back 2 count rest (omega arith)) refl
head_back version count rest (inr two) few = rw (two, long version count rest 2 (omega arith), long version count rest 3 (omega arith), long version count rest 5 (omega arith), little_number-reads_back 2 count rest (omega arith)) refl

entries_back : (version : ℕ) (list : List StateEntry) (before place : ℕ) → RisesFrom version before list
    → entries_of version (length list) before place (flat_map entry_bytes list) ≡ Ok list
entries_back version [] before place rises = refl
entries_back version (entry ∷ list) before place rises =
    rw (
      entry_back version before place entry (flat_map entry_bytes list) rises.0 rises.1 rises.2,
      entry_rest entry (flat_map entry_bytes list),
      entries_back version list entry.0 (place + entry_size entry.1) rises.3,
    ) refl

-- what was written is read back
pub decoded_encoded : (version : ℕ) (list : List StateEntry) → IsState version list → decoded (encoded_as version list) ≡ Ok list
decoded_encoded version list is =
    counted (encoded_as version list) version (length list)
    (head_back version (length list) (flat_map entry_bytes list) is.known (let few = is.few in omega arith))
    ∙ entries_back version list 0 5 is.rises

-- the bytes of a state result in that state, if the decoded state is returned
pub read_again : (version : ℕ) (bytes : List ℕ) (list : List StateEntry) (result : Result (List StateEntry) Fault) → IsState version list → bytes ≡ encoded_as version list
    → ReadAs (decoded bytes) result → ReadAs (Ok list) result
read_again version bytes list result state is read =
    subst (λ (all : Result (List StateEntry) ℕ). ReadAs all result) (ap decoded is ∙ decoded_encoded version list state) read
