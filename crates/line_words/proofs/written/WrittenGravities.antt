-- The words from which gravities are read.
use Rattle.std.proofs.Common.{◌≡◌, ℕ, ◌+◌, Bool, true, false, refl, ap, sym, ◌∙◌, inl, inr, List, [], ◌∷◌, ◌++◌, arith}
use Rattle.std.specs.Prelude.{filter, fold, map, codes, slice_get, IfOk, Some, Result, Ok, Err}
use Rattle.std.specs.List.{All, slice_split}
use Rattle.std.specs.Str.{bytes_eq}
use Rattle.std.proofs.lemmas.Bool.{cases_Bool}
use Rattle.std.proofs.lemmas.List.Elements.{All-cons, filter-append}
use Rattle.std.proofs.lemmas.Slice.Eq.{bytes_eq-Decides}
use Rattle.view_model.specs.declared.placing.Across.{Across}
use Rattle.view_model.specs.declared.placing.Down.{Down}
use Rattle.view_model.specs.declared.placing.Gravity.{Gravity}
use Rattle.line_words.specs.words.Gravities.{across_of, bare_gravity, down_of, gravity_of, is_bar, is_place, is_set_across, is_set_down, one_across, one_down, with_word, with_words, word_step}
use Rattle.line_words.specs.Written.{IsGravityWord, IsPlaceWord, PlaceWord, place_word, place_words}
use Rattle.line_words.specs.declared.fault.LineFault.{LineFault}
use Rattle.line_words.proofs.texts.BarLaws.{after_fault}
use Rattle.line_words.proofs.texts.OkLaws.{if_ok_more, if_test, if_then_with, if_word}

-- gravities
by_place : (k : ℕ) (word name : List ℕ) → slice_get place_words k ≡ Some (place_word name (across_of name) (down_of name)) → (bytes_eq word name ≡ false → IsPlaceWord (place_word word (across_of word) (down_of word)))
    → IsPlaceWord (place_word word (across_of word) (down_of word))
by_place k word name is others = elim (cases_Bool (bytes_eq word name)) [
  | inl same ↦ rw ((bytes_eq-Decides word name).0 same) (k, is)
  | inr other ↦ others other
]

is_place-word : (word : List ℕ) → is_place word ≡ true → IsPlaceWord (place_word word (across_of word) (down_of word))
unfolding across_of down_of
is_place-word word h =
    by_place 0 word (codes "left") refl (λ a. by_place 1 word (codes "right") refl (λ b. by_place 2 word (codes "start") refl (λ c. by_place 3 word (codes "end") refl (λ d.
    by_place 4 word (codes "center_horizontal") refl (λ e. by_place 5 word (codes "top") refl (λ f. by_place 6 word (codes "bottom") refl (λ g.
    by_place 7 word (codes "center_vertical") refl (λ i. by_place 8 word (codes "center") refl (λ j.
    absurd (let never : false ≡ true = rw (a, b, c, d, e, f, g, i, j) at h in cc))))))))))

one_across-written : (old new : Across) → IfOk (one_across old new) (λ across. filter is_set_across (old ∷ new ∷ []) ≡ filter is_set_across (across ∷ []))
unfolding one_across
one_across-written old new = elim (cases_Bool (is_set_across new)) [
  | inl n ↦ elim (cases_Bool (is_set_across old)) [ inl o ↦ rw (n, o) tt | inr o ↦ rw (n, o) (rw n refl) ]
  | inr n ↦ rw n refl
]

one_down-written : (old new : Down) → IfOk (one_down old new) (λ down. filter is_set_down (old ∷ new ∷ []) ≡ filter is_set_down (down ∷ []))
unfolding one_down
one_down-written old new = elim (cases_Bool (is_set_down new)) [
  | inl n ↦ elim (cases_Bool (is_set_down old)) [ inl o ↦ rw (n, o) tt | inr o ↦ rw (n, o) (rw n refl) ]
  | inr n ↦ rw n refl
]

-- one word more of a gravity
record OneMore (old : Gravity) (word : List ℕ) (new : Gravity) : Type 0 where
  given : new.given ≡ old.given
  place : is_place word ≡ true
  across : filter is_set_across (old.across ∷ across_of word ∷ []) ≡ filter is_set_across (new.across ∷ [])
  down : filter is_set_down (old.down ∷ down_of word ∷ []) ≡ filter is_set_down (new.down ∷ [])

with_word-written : (gravity : Gravity) (word : List ℕ) → IfOk (with_word gravity word) (OneMore gravity word)
unfolding with_word
with_word-written gravity word =
    let P = OneMore gravity word in
    if_test P (is_place word) _ _ (λ is.
    if_then_with (λ across. filter is_set_across (gravity.across ∷ across_of word ∷ []) ≡ filter is_set_across (across ∷ [])) P (one_across gravity.across (across_of word)) _
    (one_across-written gravity.across (across_of word)) (λ across a.
    if_then_with (λ down. filter is_set_down (gravity.down ∷ down_of word ∷ []) ≡ filter is_set_down (down ∷ [])) P (one_down gravity.down (down_of word)) _
    (one_down-written gravity.down (down_of word)) (λ down d. record { given = refl; place = is; across = a; down = d }))) tt

-- of two values at the front one counts
filter_one : {A : Type 0} (p : A → Bool) (a b c : A) (xs : List A) → filter p (a ∷ b ∷ []) ≡ filter p (c ∷ []) → filter p (a ∷ b ∷ xs) ≡ filter p (c ∷ xs)
filter_one p a b c xs h = filter-append p (a ∷ b ∷ []) xs ∙ ap (λ front. front ++ filter p xs) h ∙ sym (filter-append p (c ∷ []) xs)

-- words of a gravity, after those of another one
record MorePlaces (old : Gravity) (ws : List (List ℕ)) (new : Gravity) : Type 0 where
  given : new.given ≡ old.given
  places : List PlaceWord
  known : All IsPlaceWord places
  are : ws ≡ map (λ (place : PlaceWord). place.word) places
  across : filter is_set_across (old.across ∷ map (λ (place : PlaceWord). place.across) places) ≡ filter is_set_across (new.across ∷ [])
  down : filter is_set_down (old.down ∷ map (λ (place : PlaceWord). place.down) places) ≡ filter is_set_down (new.down ∷ [])

fold_written : (Q P : Gravity → Type 0) (r : Result Gravity LineFault) (ws : List (List ℕ)) → IfOk r Q → ((gravity : Gravity) → Q gravity → IfOk (fold word_step (Ok gravity) ws) P)
    → IfOk (fold word_step r ws) P
fold_written Q P (Ok gravity) ws q h = h gravity q
fold_written Q P (Err fault) ws q h = rw (after_fault fault ws) tt

one_place : (old mid new : Gravity) (word : List ℕ) (ws : List (List ℕ)) → OneMore old word mid → MorePlaces mid ws new → MorePlaces old (word ∷ ws) new
one_place old mid new word ws one more = record {
  given = more.given ∙ one.given;
  places = place_word word (across_of word) (down_of word) ∷ more.places;
  known = All-cons IsPlaceWord (place_word word (across_of word) (down_of word)) more.places (is_place-word word one.place) more.known;
  are = ap (λ ws. word ∷ ws) more.are;
  across = filter_one is_set_across old.across (across_of word) mid.across (map (λ (place : PlaceWord). place.across) more.places) one.across ∙ more.across;
  down = filter_one is_set_down old.down (down_of word) mid.down (map (λ (place : PlaceWord). place.down) more.places) one.down ∙ more.down;
}

places_written : (ws : List (List ℕ)) (gravity : Gravity) → IfOk (fold word_step (Ok gravity) ws) (MorePlaces gravity ws)
places_written [] gravity = record { given = refl; places = []; known = λ k d short. absurd (omega (arith, short)); are = refl; across = refl; down = refl }
places_written (word ∷ ws) gravity =
    fold_written (OneMore gravity word) (MorePlaces gravity (word ∷ ws)) (with_word gravity word) ws (with_word-written gravity word) (λ mid one.
    if_ok_more (MorePlaces mid ws) (MorePlaces gravity (word ∷ ws)) (fold word_step (Ok mid) ws) (places_written ws mid) (λ new more. one_place gravity mid new word ws one more))

pub gravity_of-written : (word : List ℕ) → IfOk (gravity_of word) (λ gravity. IsGravityWord gravity word)
unfolding gravity_of with_words
gravity_of-written word =
    let P = λ (gravity : Gravity). IsGravityWord gravity word in
    if_word P word (codes "none") _ _ (λ none. inl (none, refl))
    (if_ok_more (MorePlaces bare_gravity (slice_split is_bar word)) P (fold word_step (Ok bare_gravity) (slice_split is_bar word)) (places_written (slice_split is_bar word) bare_gravity)
    (λ gravity more. inr (more.given, record { places = more.places; known = more.known; are = more.are; across = more.across; down = more.down })))
