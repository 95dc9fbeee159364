-- Dimensions, read from their texts.
use Rattle.std.proofs.Common.{◌≡◌, ◌≢◌, ℕ, suc, zero, ◌<◌, ◌^◌, false, refl, List, [], ◌∷◌, arith}
use Rattle.std.specs.Prelude.{ℤ, pos, negsuc, slice_index, codes, Ok}
use Rattle.std.specs.Fmt.{decimal}
use Rattle.std.specs.Str.{bytes_eq}
use Rattle.std.proofs.lemmas.Int.{ints}
use Rattle.view_model.specs.Numbers.{max_size}
use Rattle.line_words.specs.words.Dimensions.{IsExtent, dimension_of, extent_of, extents_of}
use Rattle.line_words.specs.Spelled.{extent_text}
use Rattle.line_words.specs.declared.words.dimension.Dimension.{Dimension}
use Rattle.line_words.specs.declared.words.dimension.Dimension.TheVariants.{Match, Wrap, Pixels}
use Rattle.line_words.proofs.spelled.SpelledNumbers.{decimal_first, decimal_word, differs, integer_of-signed, within_of-within}
use Rattle.line_words.proofs.spelled.SpelledWords.{IsWord, word_by}

-- dimensions
abbrev dimension_as : ℤ → Dimension
dimension_as (pos n) = Pixels (pos n)
dimension_as (negsuc zero) = Match
dimension_as (negsuc (suc n)) = Wrap

other_word : (word : List ℕ) (b : ℕ) (bs : List ℕ) → slice_index word 0 ≢ b → bytes_eq word (b ∷ bs) ≡ false
other_word [] b bs h = refl
other_word (c ∷ cs) b bs h = rw (differs c b h) refl

extent_short : (n : ℕ) → IsExtent (pos n) → n < 10 ^ 10
extent_short n h = omega (arith, ints, h.1)

pub dimension_of-text : (z : ℤ) → IsExtent z → dimension_of (extent_text z) ≡ Ok (dimension_as z)
unfolding dimension_of
dimension_of-text (pos n) h =
    let k = extent_short n h in
    let m : bytes_eq (decimal n) (codes "match") ≡ false = other_word (decimal n) 109 _ (decimal_first n 109 k (λ r. absurd (omega (arith, r.1)))) in
    let w : bytes_eq (decimal n) (codes "wrap") ≡ false = other_word (decimal n) 119 _ (decimal_first n 119 k (λ r. absurd (omega (arith, r.1)))) in
    rw (m, w, integer_of-signed (pos n) k) refl
dimension_of-text (negsuc zero) h = refl
dimension_of-text (negsuc (suc n)) h = refl

extent_of-as : (z : ℤ) → IsExtent z → extent_of (dimension_as z) ≡ Ok z
extent_of-as (pos n) h = within_of-within (pos 0) max_size (pos n) (omega (arith, ints), h.1)
extent_of-as (negsuc zero) h = refl
extent_of-as (negsuc (suc zero)) h = refl
extent_of-as (negsuc (suc (suc n))) h = absurd (omega (arith, ints, h.0))

pub extents_of-text : (w h : ℤ) → IsExtent w → IsExtent h → extents_of (extent_text w ∷ extent_text h ∷ []) ≡ Ok (w, h)
unfolding extents_of
extents_of-text w h iw ih = rw (dimension_of-text w iw, dimension_of-text h ih, extent_of-as w iw, extent_of-as h ih) refl

pub extent_word : (z : ℤ) → IsExtent z → IsWord (extent_text z)
extent_word (pos n) h = decimal_word n (extent_short n h)
extent_word (negsuc zero) h = word_by (codes "match") refl
extent_word (negsuc (suc n)) h = word_by (codes "wrap") refl
