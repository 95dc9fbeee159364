-- Whether bytes are valid UTF-8.
use Rattle.std.proofs.Common.{◌≡◌, false, sym, List, ℕ, inl, inr, Result, Ok, Err, MatchResult}
use Rattle.std.specs.Result.{is_ok}
use Rattle.std.specs.Str.{is_utf8, IsUtf8}
use Rattle.std.proofs.lemmas.Bool.{cases_Bool}
use Rattle.std.proofs.lemmas.Str.{is_utf8-from_IsUtf8, IsUtf8-from_is_utf8}

pub not_utf8 : (bytes : List ℕ) → ¬ (IsUtf8 bytes) → is_utf8 bytes ≡ false
not_utf8 bytes none = elim (cases_Bool (is_utf8 bytes)) [
  | inl e ↦ absurd (none (IsUtf8-from_is_utf8 bytes e))
  | inr e ↦ e
]

-- a reading of bytes as a text succeeds exactly if they are valid
pub is_ok-is_utf8 : {T E : Type 0} (r : Result T E) (bytes : List ℕ) (P : T → Type 0) (Q : E → Type 0)
    → MatchResult r (λ text. P text × IsUtf8 bytes) (λ fault. ¬ (IsUtf8 bytes) × Q fault) → is_ok r ≡ is_utf8 bytes
is_ok-is_utf8 (Ok text) bytes P Q h = sym (is_utf8-from_IsUtf8 bytes h.1)
is_ok-is_utf8 (Err fault) bytes P Q h = sym (not_utf8 bytes h.0)
