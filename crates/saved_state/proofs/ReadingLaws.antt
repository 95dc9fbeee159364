-- The fields of an entry, one after the other.
use Rattle.std.proofs.Common.{◌≡◌, ℕ, ◌+◌, ◌≤◌, List, length, take, drop, Result, Ok, Err, refl, sym, ap, inl, inr}
use Rattle.std.proofs.lemmas.Bool.{cases_Bool, le-ltb}
use Rattle.std.proofs.lemmas.List.{drop-drop}
use Rattle.std.proofs.lemmas.Str.{IsUtf8-from_is_utf8, chars_from_encodes, is_utf8-from_IsUtf8}
use Rattle.std.specs.Prelude.{IsUtf8, encode_utf8_all}
use Rattle.std.specs.Str.{is_utf8}
use Rattle.byteorder.specs.Endian.{little_number}
use Rattle.saved_state.specs.State.{entry_of, id_of, kind_of, text_of, value_of, words_of}
use Rattle.saved_state.specs.declared.value.Value.{Value}

-- an entry whose id was read
module _ (version before place : ℕ) (bytes : List ℕ) (id : ℕ) (id_is : id_of before place (drop place bytes) ≡ Ok id) where
  pub kind_fault : (wrong : ℕ) → kind_of version (place + 4) (drop (place + 4) bytes) ≡ Err wrong → entry_of version before place (drop place bytes) ≡ Err wrong
  unfolding entry_of
  kind_fault wrong is = rw (id_is, drop-drop 4 place bytes, is) refl

  -- and its kind
  module _ (kind : ℕ) (kind_is : kind_of version (place + 4) (drop (place + 4) bytes) ≡ Ok kind) where
    pub value_fault : (wrong : ℕ) → value_of kind (place + 5) (drop (place + 5) bytes) ≡ Err wrong → entry_of version before place (drop place bytes) ≡ Err wrong
    unfolding entry_of
    value_fault wrong is = rw (id_is, drop-drop 4 place bytes, kind_is, drop-drop 5 place bytes, is) refl

    pub entry_read : (value : Value) → value_of kind (place + 5) (drop (place + 5) bytes) ≡ Ok value → entry_of version before place (drop place bytes) ≡ Ok (id, value)
    unfolding entry_of
    entry_read value is = rw (id_is, drop-drop 4 place bytes, kind_is, drop-drop 5 place bytes, is) refl

-- a text whose length was read
pub length_read : (place count : ℕ) (bytes : List ℕ) → 2 ≤ length (drop place bytes) → count ≡ little_number 2 (drop place bytes)
    → words_of count (place + 2) (drop (place + 2) bytes) ≡ text_of place (drop place bytes)
unfolding text_of
length_read place count bytes there is =
    rw (le-ltb (length (drop place bytes)) 2 there, drop-drop 2 place bytes) (ap (λ (count : ℕ). words_of count (place + 2) (drop (place + 2) bytes)) is)

-- the characters of bytes
pub words_read : (count place : ℕ) (rest text : List ℕ) → count ≤ length rest → IsUtf8 (take count rest) → encode_utf8_all text ≡ take count rest → words_of count place rest ≡ Ok text
unfolding words_of
words_read count place rest text there utf8 is =
    rw (le-ltb (length rest) count there, is_utf8-from_IsUtf8 (take count rest) utf8)
    (ap (λ (text : List ℕ). let r : Result (List ℕ) ℕ = Ok text in r) (sym (chars_from_encodes text (take count rest) utf8 is)))

pub words_fault : (count place : ℕ) (rest : List ℕ) → count ≤ length rest → (IsUtf8 (take count rest) → ⊥) → words_of count place rest ≡ Err place
unfolding words_of
words_fault count place rest there invalid = elim (cases_Bool (is_utf8 (take count rest))) [
  | inl e ↦ absurd (invalid (IsUtf8-from_is_utf8 (take count rest) e))
  | inr e ↦ rw (le-ltb (length rest) count there, e) refl
]
