-- Segments of a text from the middle of one on.
use Rattle.std.proofs.Common.{◌≡◌, ℕ, ◌+◌, List, [], ◌∷◌, ◌++◌, length, map, refl, ap, sym, ◌∙◌, append_assoc, length-append, arith, true, false}
use Rattle.std.specs.Prelude.{◌==◌, Bool, if◌then◌else◌}
use Rattle.view_model.specs.CellText.{in_front, lengths_of, newline, segments_of}

-- the segments of a text, after these characters of the first
abbrev pub segments_after : List ℕ → List ℕ → List (List ℕ)
segments_after begun [] = begun ∷ []
segments_after begun (c ∷ text) = if c == newline then begun ∷ segments_after [] text else segments_after (begun ++ c ∷ []) text

-- their lengths, after n characters of the first
abbrev pub lengths_after : ℕ → List ℕ → List ℕ
lengths_after k [] = k ∷ []
lengths_after k (c ∷ text) = if c == newline then k ∷ lengths_after 0 text else lengths_after (k + 1) text

pub in_front-in_front : (begun more : List ℕ) (segments : List (List ℕ)) → in_front begun (in_front more segments) ≡ in_front (begun ++ more) segments
in_front-in_front begun more [] = refl
in_front-in_front begun more (segment ∷ others) = ap (λ (s : List ℕ). s ∷ others) (sym (append_assoc begun more segment))

in_front-none : (c : ℕ) (text : List ℕ) → in_front [] (segments_of (c ∷ text)) ≡ segments_of (c ∷ text)
in_front-none c text = by_newline (c == newline) (segments_of text)
  where
    by_newline : (v : Bool) (segments : List (List ℕ)) → in_front [] (if v then [] ∷ segments else in_front (c ∷ []) segments) ≡ (if v then [] ∷ segments else in_front (c ∷ []) segments)
    by_newline true segments = refl
    by_newline false [] = refl
    by_newline false (segment ∷ more) = refl

pub in_front-nothing : (text : List ℕ) → in_front [] (segments_of text) ≡ segments_of text
in_front-nothing [] = refl
in_front-nothing (c ∷ text) = in_front-none c text

pub append_nothing : (xs : List ℕ) → xs ++ [] ≡ xs
append_nothing [] = refl
append_nothing (x ∷ xs) = ap (λ (ys : List ℕ). x ∷ ys) (append_nothing xs)

segments_step : (v : Bool) (begun : List ℕ) (c : ℕ) (text : List ℕ) → segments_after [] text ≡ in_front [] (segments_of text)
    → segments_after (begun ++ c ∷ []) text ≡ in_front (begun ++ c ∷ []) (segments_of text)
    → (if v then begun ∷ segments_after [] text else segments_after (begun ++ c ∷ []) text)
    ≡ in_front begun (if v then [] ∷ segments_of text else in_front (c ∷ []) (segments_of text))
segments_step true begun c text again on = rw (again, in_front-nothing text, append_nothing begun) refl
segments_step false begun c text again on = rw (on, in_front-in_front begun (c ∷ []) (segments_of text)) refl

segments_after-is : (begun text : List ℕ) → segments_after begun text ≡ in_front begun (segments_of text)
segments_after-is begun [] = ap (λ (s : List ℕ). s ∷ []) (sym (append_nothing begun))
segments_after-is begun (c ∷ text) = segments_step (c == newline) begun c text (segments_after-is [] text) (segments_after-is (begun ++ c ∷ []) text)

pub segments_from_start : (text : List ℕ) → segments_after [] text ≡ segments_of text
segments_from_start text = segments_after-is [] text ∙ in_front-nothing text

lengths_step : (v : Bool) (begun : List ℕ) (c : ℕ) (text : List ℕ) → lengths_after 0 text ≡ map length (segments_after [] text)
    → lengths_after (length begun + 1) text ≡ map length (segments_after (begun ++ c ∷ []) text)
    → (if v then length begun ∷ lengths_after 0 text else lengths_after (length begun + 1) text)
    ≡ map length (if v then begun ∷ segments_after [] text else segments_after (begun ++ c ∷ []) text)
lengths_step true begun c text again on = ap (λ (ks : List ℕ). length begun ∷ ks) again
lengths_step false begun c text again on = on

lengths_after-is : (begun text : List ℕ) → lengths_after (length begun) text ≡ map length (segments_after begun text)
lengths_after-is begun [] = refl
lengths_after-is begun (c ∷ text) =
    let longer : length begun + 1 ≡ length (begun ++ c ∷ []) = omega (arith, length-append begun (c ∷ [])) in
    lengths_step (c == newline) begun c text (lengths_after-is [] text) (rw longer (lengths_after-is (begun ++ c ∷ []) text))

pub lengths_from_start : (text : List ℕ) → lengths_after 0 text ≡ lengths_of text
lengths_from_start text = lengths_after-is [] text ∙ ap (map length) (segments_from_start text)
