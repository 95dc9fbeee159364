-- The words of a look-up.
use Rattle.std.proofs.Common.{◌≡◌, ◌∙◌, ℕ, ◌<◌, true, false, List, [], ◌∷◌, length, refl, subst, sym, ap}
use Rattle.std.specs.Prelude.{◌&&◌, IfOk, Option, Some, Result, Ok, Err, codes, is_some, nat_le, nat_lt, string_bytes, unwrap_or}
use Rattle.std.specs.Char.{is_ascii_hexdigit}
use Rattle.std.specs.Str.{IsUtf8}
use Rattle.std.specs.declared.alloc.Global.{Global}
use Rattle.std.specs.declared.string.String.{String}
use Rattle.std.proofs.lemmas.List.{length-map}
use Rattle.std.proofs.lemmas.Str.{IsUtf8-from_ascii}
use Rattle.std.proofs.lemmas.Str.Ascii.{IsAscii-cons, IsAscii-nil}
use Rattle.line_words.specs.words.FileNames.{is_file_name}
use Rattle.line_words.specs.words.Names.{hex_of, hex_value}
use Rattle.line_words.proofs.texts.BothLaws.{and-left, and-right}
use Rattle.vindaesk_c.specs.Lookups.{IsWordOf, can_look_up}
use Rattle.whole_tool.specs.Usage.{Lookup, are_ids, usage}
use Rattle.tool_replies.specs.Lookup.{resource_id, resource_ids}

-- eight digits

pub eight_digits : (a b c d e f g h id : ℕ)
    → is_ascii_hexdigit a ≡ true → is_ascii_hexdigit b ≡ true → is_ascii_hexdigit c ≡ true → is_ascii_hexdigit d ≡ true
    → is_ascii_hexdigit e ≡ true → is_ascii_hexdigit f ≡ true → is_ascii_hexdigit g ≡ true → is_ascii_hexdigit h ≡ true
    → hex_value (a ∷ b ∷ c ∷ d ∷ e ∷ f ∷ g ∷ h ∷ []) ≡ id
    → IsWordOf id (a ∷ b ∷ c ∷ d ∷ e ∷ f ∷ g ∷ h ∷ [])
unfolding hex_of
eight_digits a b c d e f g h id ha hb hc hd he hf hg hh same =
    let read : hex_of (a ∷ b ∷ c ∷ d ∷ e ∷ f ∷ g ∷ h ∷ []) ≡ Some (hex_value (a ∷ b ∷ c ∷ d ∷ e ∷ f ∷ g ∷ h ∷ [])) =
    rw (ha, hb, hc, hd, he, hf, hg, hh) refl in
    record {
      is_id = ap is_some read;
      value = ap (λ (r : Option ℕ). unwrap_or r 0) read ∙ same;
    }

pub eight_ascii : (a b c d e f g h : ℕ) → a < 128 → b < 128 → c < 128 → d < 128 → e < 128 → f < 128 → g < 128 → h < 128
    → IsUtf8 (a ∷ b ∷ c ∷ d ∷ e ∷ f ∷ g ∷ h ∷ [])
eight_ascii a b c d e f g h ha hb hc hd he hf hg hh =
    IsUtf8-from_ascii (a ∷ b ∷ c ∷ d ∷ e ∷ f ∷ g ∷ h ∷ [])
    (IsAscii-cons a (b ∷ c ∷ d ∷ e ∷ f ∷ g ∷ h ∷ []) ha (IsAscii-cons b (c ∷ d ∷ e ∷ f ∷ g ∷ h ∷ []) hb (IsAscii-cons c (d ∷ e ∷ f ∷ g ∷ h ∷ []) hc (IsAscii-cons d (e ∷ f ∷ g ∷ h ∷ []) hd
    (IsAscii-cons e (f ∷ g ∷ h ∷ []) he (IsAscii-cons f (g ∷ h ∷ []) hf (IsAscii-cons g (h ∷ []) hg (IsAscii-cons h [] hh IsAscii-nil))))))))

-- the word of a text
pub word_from : {E : Type 0} (r : Result (String Global) E) (id : ℕ) (text : List ℕ) → IfOk r (λ word. string_bytes word ≡ text) → IsWordOf id text → IfOk r (λ word. IsWordOf id (string_bytes word))
word_from (Ok word) id text same is = subst (λ (bytes : List ℕ). IsWordOf id bytes) (sym same) is
word_from (Err e) id text same is = same

-- the form of the words

pub can_name : (name ids : List ℕ) → can_look_up name ids ≡ true → is_file_name name ≡ true
unfolding can_look_up
can_name name ids can = and-left (is_file_name name) (nat_lt 0 (length ids)) (and-left (is_file_name name && nat_lt 0 (length ids)) (nat_le (length ids) 64) can)

pub lookup_form : (word name : String Global) (ids : List (String Global))
    → string_bytes word ≡ codes "lookup" → can_look_up (string_bytes name) (resource_ids ids) ≡ true → are_ids ids ≡ true
    → usage (word ∷ name ∷ ids) ≡ Lookup (string_bytes name) (resource_ids ids)
unfolding can_look_up
lookup_form word name [] called can are =
    let none : false ≡ true = and-right (is_file_name (string_bytes name)) false (and-left (is_file_name (string_bytes name) && false) true can) in
    absurd (cc)
lookup_form word name (third ∷ more) called can are =
    let named : is_file_name (string_bytes name) ≡ true = can_name (string_bytes name) (resource_ids (third ∷ more)) can in
    let few : nat_le (length (third ∷ more)) 64 ≡ true =
    ap (λ (n : ℕ). nat_le n 64) (sym (length-map (third ∷ more) (λ (w : String Global). resource_id (string_bytes w))))
    ∙ and-right (is_file_name (string_bytes name) && nat_lt 0 (length (resource_ids (third ∷ more)))) (nat_le (length (resource_ids (third ∷ more))) 64) can in
    rw called (rw (named, few, are) refl)
