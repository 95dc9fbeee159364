-- The words before a place and those after it, and the edits that the word `;` separates.
use Rattle.std.proofs.Common.{◌≡◌, ℕ, ◌+◌, ◌<◌, true, false, refl, ap, sym, ◌∙◌, ◌-◌, ◌≤◌, List, [], ◌∷◌, ◌++◌, length, take, drop, arith, append_assoc, length-drop}
use Rattle.std.specs.Prelude.{Result, Ok, Err}
use Rattle.std.specs.List.{All, prefix_len, slice_split}
use Rattle.std.proofs.lemmas.List.{append-nil, append_cancel_right, take-append-drop, take_all}
use Rattle.std.proofs.lemmas.List.Elements.{All-push}
use Rattle.std.proofs.lemmas.List.Splits.{slice_split_at, slice_split_none}
use Rattle.script_lines.specs.reading.Hooks.{parts_edits}
use Rattle.line_words.specs.words.Words.{after_word, in_word, word_in, words}
use Rattle.line_words.specs.declared.fault.LineFault.{LineFault}
use Rattle.line_words.proofs.texts.AfterLaws.{following, shorter, words_nil, words-append, after_word-ended}

-- where a word does not go on
pub words-parted : (bytes : List ℕ) (at : ℕ) → prefix_len in_word (drop at bytes) ≡ 0 → words bytes ≡ words (take at bytes) ++ words (drop at bytes)
words-parted bytes at ended = ap words (sym (take-append-drop at bytes)) ∙ words-append (take at bytes) (drop at bytes) ended

-- words, none of which separates edits, before a place, and the words after it
pub record IsOneEdit (bytes : List ℕ) (at : ℕ) : Type 0 where
  pub whole : words bytes ≡ words (take at bytes) ++ words (drop at bytes)
  pub none : All (λ word. parts_edits word ≡ false) (words (take at bytes))

pub one_edit_start : (bytes : List ℕ) → IsOneEdit bytes 0
one_edit_start bytes = record {
  whole = ap (λ ws. ws ++ words bytes) (sym words_nil);
  none = rw words_nil (λ k d short. absurd (omega (arith, short)));
}

pub one_edit_more : (bytes word : List ℕ) (at following : ℕ) → IsOneEdit bytes at → words (drop at bytes) ≡ word ∷ words (drop following bytes) → prefix_len in_word (drop following bytes) ≡ 0 → parts_edits word ≡ false
    → IsOneEdit bytes following
one_edit_more bytes word at following i next ended other =
    let parts = words-parted bytes following ended in
    let front : words (take following bytes) ≡ words (take at bytes) ++ word ∷ [] =
    append_cancel_right (words (take following bytes)) (words (take at bytes) ++ word ∷ []) (words (drop following bytes))
    (sym parts ∙ i.whole ∙ ap (λ ws. words (take at bytes) ++ ws) next ∙ sym (append_assoc (words (take at bytes)) (word ∷ []) (words (drop following bytes)))) in
    record { whole = parts; none = rw front (All-push (λ word. parts_edits word ≡ false) (words (take at bytes)) word i.none other) }

-- the edit ends before the word that separates it from the next
pub edit_ends : (bytes word : List ℕ) (at following : ℕ) → IsOneEdit bytes at → words (drop at bytes) ≡ word ∷ words (drop following bytes) → parts_edits word ≡ true
    → slice_split parts_edits (words bytes) ≡ words (take at bytes) ∷ slice_split parts_edits (words (drop following bytes))
edit_ends bytes word at following i next parts =
    ap (slice_split parts_edits) (i.whole ∙ ap (λ ws. words (take at bytes) ++ ws) next) ∙ slice_split_at parts_edits (words (take at bytes)) word (words (drop following bytes)) i.none parts

-- the last edit
pub edit_last : (bytes : List ℕ) (at : ℕ) → IsOneEdit bytes at → words (drop at bytes) ≡ [] → slice_split parts_edits (words bytes) ≡ words bytes ∷ []
edit_last bytes at i end =
    let same : words bytes ≡ words (take at bytes) = i.whole ∙ ap (λ ws. words (take at bytes) ++ ws) end ∙ append-nil (words (take at bytes)) in
    slice_split_none parts_edits (words bytes) (rw same i.none)

abbrev words_in : Result (List ℕ × List (List ℕ)) LineFault → List (List ℕ)
words_in (Ok r) = r.0 ∷ r.1
words_in (Err fault) = []

word_in-is : (ws : List (List ℕ)) (word : List ℕ) (rest : List (List ℕ)) → word_in ws ≡ Ok (word, rest) → ws ≡ word ∷ rest
word_in-is [] word rest h = ap words_in h
word_in-is (w ∷ ws) word rest h = ap words_in h

pub word_in-none : (ws : List (List ℕ)) (fault : LineFault) → word_in ws ≡ Err fault → ws ≡ []
word_in-none [] fault h = refl
word_in-none (w ∷ ws) fault h = ap words_in h

-- a word from a place on, and the place after it
pub record IsNext (bytes : List ℕ) (at : ℕ) (word rest : List ℕ) : Type 0 where
  pub next : words (drop at bytes) ≡ word ∷ words (drop (length bytes - length rest) bytes)
  pub ended : prefix_len in_word (drop (length bytes - length rest) bytes) ≡ 0
  pub forward : at < length bytes - length rest
  pub within : length rest ≤ length bytes

pub word_next : (bytes : List ℕ) (at : ℕ) (word rest : List ℕ) → at ≤ length bytes → word_in (words (drop at bytes)) ≡ Ok (word, words rest) → rest ≡ after_word (drop at bytes) → IsNext bytes at word rest
word_next bytes at word rest h is after_is =
    let same : drop (length bytes - length rest) bytes ≡ rest = ap (λ rest. drop (length bytes - length rest) bytes) after_is ∙ following bytes at ∙ sym after_is in
    let less = shorter (drop at bytes) word (words rest) is in
    let long : length rest ≡ length (after_word (drop at bytes)) = ap length after_is in
    record {
      next = word_in-is (words (drop at bytes)) word (words rest) is ∙ ap (λ more. word ∷ words more) (sym same);
      ended = ap (prefix_len in_word) (same ∙ after_is) ∙ after_word-ended (drop at bytes);
      forward = omega (arith, h, less, long, length-drop at bytes);
      within = omega (arith, less, long, length-drop at bytes);
    }

-- the same if the word was read from what comes after the place
pub word_read : (bytes : List ℕ) (at : ℕ) (word rest : List ℕ) → at ≤ length bytes → Ok (word, words rest) ≡ word_in (words (take (length bytes - at) (drop at bytes)))
    → rest ≡ after_word (take (length bytes - at) (drop at bytes)) → IsNext bytes at word rest
word_read bytes at word rest h is after_is =
    let same : take (length bytes - at) (drop at bytes) ≡ drop at bytes = take_all (length bytes - at) (drop at bytes) (omega (arith, length-drop at bytes)) in
    word_next bytes at word rest h (cc (same, is)) (cc (same, after_is))
