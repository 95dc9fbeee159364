-- The characters of a text and its bytes, character by character.
use Rattle.std.proofs.Common.{◌≡◌, ℕ, ◌+◌, ◌<◌, ◌++◌, ◌∷◌, [], List, length, take, true, false, get_or, Bool, ◌&&◌, refl, sym, ap, subst, ◌∙◌}
use Rattle.std.proofs.lemmas.Bool.{and_parts}
use Rattle.std.proofs.lemmas.List.{append-nil, take_more}
use Rattle.std.proofs.lemmas.Str.{encodes-append, encodes_same}
use Rattle.std.specs.Prelude.{IsUtf8, encode_utf8, encode_utf8_all}
use lib.Utf8.{scalar, scalars}

-- the bytes of a character are those of a text only if it is one
pub character_valid : (c : ℕ) → IsUtf8 (encode_utf8 c) → scalar c ≡ true
character_valid c is =
    let same : is.0 ≡ c ∷ [] = encodes_same is.0 (c ∷ []) (is.1.1 ∙ sym (append-nil (encode_utf8 c))) in
    first (scalar c) (subst (λ (text : List ℕ). scalars text ≡ true) same is.1.0)
  where
    first : (b : Bool) → (b && true) ≡ true → b ≡ true
    first true e = refl
    first false e = e

-- one character more
pub bytes_more : (text : List ℕ) (place : ℕ) → place < length text → encode_utf8_all (take (place + 1) text) ≡ encode_utf8_all (take place text) ++ encode_utf8 (get_or text place 0)
bytes_more text place there =
    ap encode_utf8_all (take_more text place 0 there)
    ∙ encodes-append (take place text) (get_or text place 0 ∷ [])
    ∙ ap (λ (last : List ℕ). encode_utf8_all (take place text) ++ last) (append-nil (encode_utf8 (get_or text place 0)))

pub valid_more : (text : List ℕ) (place : ℕ) → place < length text → scalars (take place text) ≡ true → scalar (get_or text place 0) ≡ true → scalars (take (place + 1) text) ≡ true
valid_more text place there before own = ap scalars (take_more text place 0 there) ∙ last (take place text) (get_or text place 0) before own
  where
    last : (text : List ℕ) (c : ℕ) → scalars text ≡ true → scalar c ≡ true → scalars (text ++ c ∷ []) ≡ true
    last [] c e own = rw own refl
    last (x ∷ text) c e own = let both = and_parts (scalar x) (scalars text) e in rw (both.0, last text c both.1 own) refl
