-- The words from which dimensions are read.
use Rattle.std.proofs.Common.{◌≡◌, ℕ, ap, ◌∙◌, List, [], ◌∷◌, arith}
use Rattle.std.specs.Prelude.{ℤ, pos, negsuc, codes, IfOk, Ok}
use Rattle.std.specs.Fmt.{signed_decimal}
use Rattle.std.proofs.lemmas.Int.{ints}
use Rattle.view_model.specs.Numbers.{max_size}
use Rattle.line_words.specs.words.Dimensions.{dimension_in, dimension_of, extent_of, extents_of}
use Rattle.line_words.specs.words.Numbers.{IsWithin, integer_of}
use Rattle.line_words.specs.Spelled.{extent_text}
use Rattle.line_words.specs.words.Words.{end_of}
use Rattle.line_words.specs.declared.words.dimension.Dimension.{Dimension}
use Rattle.line_words.specs.declared.words.dimension.Dimension.TheVariants.{Pixels}
use Rattle.line_words.specs.declared.fault.LineFault.{LineFault}
use Rattle.line_words.proofs.texts.OkLaws.{if_map_with, if_same, if_then_with, if_word}
use Rattle.line_words.proofs.written.WrittenWords.{FirstWord, end_of-written, integer_of-written, starts}
use Rattle.line_words.proofs.written.WrittenBounds.{within_of-written}

-- dimensions
abbrev IsDimensionWord : Dimension → List ℕ → Type 0
IsDimensionWord dimension word = (z : ℤ) → extent_of dimension ≡ Ok z → word ≡ extent_text z

pixels_word : (n z : ℤ) → (n ≡ z) × IsWithin (pos 0) max_size z → signed_decimal n ≡ extent_text z
pixels_word n (pos z) h = ap signed_decimal h.0
pixels_word n (negsuc z) h = absurd (omega (arith, ints, h.1.0))

pixels-extent : (n z : ℤ) → extent_of (Pixels n) ≡ Ok z → signed_decimal n ≡ extent_text z
pixels-extent n z e = let h : IfOk {E = LineFault} (Ok z) (λ z. (n ≡ z) × IsWithin (pos 0) max_size z) = rw e at (within_of-written (pos 0) max_size n) in pixels_word n z h

dimension_of-written : (word : List ℕ) → IfOk (dimension_of word) (λ dimension. IsDimensionWord dimension word)
unfolding dimension_of
dimension_of-written word =
    let P = λ (dimension : Dimension). IsDimensionWord dimension word in
    if_word P word (codes "match") _ _ (λ is z e. is ∙ ap extent_text (let same : negsuc 0 ≡ z = cc in same))
    (if_word P word (codes "wrap") _ _ (λ is z e. is ∙ ap extent_text (let same : negsuc 1 ≡ z = cc in same))
    (if_map_with (λ n. word ≡ signed_decimal n) P Pixels (integer_of word) (integer_of-written word) (λ n is z e. is ∙ pixels-extent n z e)))

dimension_in-written : (ws : List (List ℕ)) → IfOk (dimension_in ws) (λ r. FirstWord (IsDimensionWord r.0) ws r.1)
dimension_in-written [] = tt
dimension_in-written (word ∷ ws) =
    if_then_with (λ (dimension : Dimension). IsDimensionWord dimension word) (λ r. FirstWord (IsDimensionWord r.0) (word ∷ ws) r.1) (dimension_of word) _ (dimension_of-written word)
    (λ dimension h. starts (IsDimensionWord dimension) word ws h)

pub extents_of-written : (ws : List (List ℕ)) → IfOk (extents_of ws) (λ extents. ws ≡ extent_text extents.0 ∷ extent_text extents.1 ∷ [])
unfolding extents_of
extents_of-written ws =
    let P = λ (extents : ℤ × ℤ). ws ≡ extent_text extents.0 ∷ extent_text extents.1 ∷ [] in
    if_then_with (λ (r : Dimension × List (List ℕ)). FirstWord (IsDimensionWord r.0) ws r.1) P (dimension_in ws) _ (dimension_in-written ws) (λ w first.
    if_then_with (λ (r : Dimension × List (List ℕ)). FirstWord (IsDimensionWord r.0) w.1 r.1) P (dimension_in w.1) _ (dimension_in-written w.1) (λ h second.
    if_then_with (λ _. h.1 ≡ []) P (end_of h.1) _ (end_of-written h.1) (λ _ end.
    if_then_with (λ z. extent_of w.0 ≡ Ok z) P (extent_of w.0) _ (if_same (extent_of w.0)) (λ width e.
    if_then_with (λ z. extent_of h.0 ≡ Ok z) P (extent_of h.0) _ (if_same (extent_of h.0)) (λ height f.
    let a = first.fits width e in let b = second.fits height f in cc (first.are, second.are))))))
