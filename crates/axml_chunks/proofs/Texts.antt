-- Bytes are taken as a text just where they are UTF-8.
use Rattle.std.proofs.Common.{◌≡◌, ℕ, Bool, true, false, List, Some, None, refl}
use Rattle.std.specs.Prelude.{cond}
use Rattle.std.specs.Str.{is_utf8, IsUtf8}
use Rattle.std.proofs.lemmas.Str.{is_utf8-from_IsUtf8, IsUtf8-from_is_utf8}
use Rattle.axml_chunks.specs.Strings.{text_of_bytes}

pub is_taken : (bytes : List ℕ) → IsUtf8 bytes → text_of_bytes bytes ≡ Some bytes
unfolding text_of_bytes
is_taken bytes text = rw (is_utf8-from_IsUtf8 bytes text) refl

by_test : (b : Bool) (bytes : List ℕ) → (b ≡ true → ⊥) → cond b (Some bytes) None ≡ None
by_test true bytes no_text = absurd (no_text refl)
by_test false bytes no_text = refl

pub is_refused : (bytes : List ℕ) → (IsUtf8 bytes → ⊥) → text_of_bytes bytes ≡ None
unfolding text_of_bytes
is_refused bytes no_text = by_test (is_utf8 bytes) bytes (λ e. no_text (IsUtf8-from_is_utf8 bytes e))
