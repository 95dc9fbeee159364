-- Words of gravities, read as what they write.
use Rattle.std.proofs.Common.{◌≡◌, ℕ, suc, zero, Bool, true, false, refl, ap, sym, ◌∙◌, inl, inr, List, [], ◌∷◌, length, arith}
use Rattle.std.specs.Prelude.{filter, fold, map, codes, slice_get, Some, Ok}
use Rattle.std.specs.List.{All, slice_split}
use Rattle.std.specs.Str.{bytes_eq}
use Rattle.std.proofs.lemmas.Bool.{cases_Bool}
use Rattle.std.proofs.lemmas.List.Elements.{All-head, All-tail}
use Rattle.std.proofs.lemmas.Slice.Eq.{bytes_eq-Decides}
use Rattle.view_model.specs.declared.placing.Across.{Across}
use Rattle.view_model.specs.declared.placing.Across.TheVariants as across
use Rattle.view_model.specs.declared.placing.Down.{Down}
use Rattle.view_model.specs.declared.placing.Down.TheVariants as down
use Rattle.view_model.specs.declared.placing.Gravity.{Gravity}
use Rattle.line_words.specs.words.Gravities.{across_of, bare_gravity, down_of, gravity_of, is_bar, is_place, is_set_across, is_set_down, one_across, one_down, with_word, with_words, word_step}
use Rattle.line_words.specs.Written.{IsGravityWord, IsPlaceWord, PlaceWord, place_word, place_words}

-- gravities
-- what reading makes of a word of the table
record PlaceReads (place : PlaceWord) : Type 0 where
  is : is_place place.word ≡ true
  across : across_of place.word ≡ place.across
  down : down_of place.word ≡ place.down
  given : bytes_eq place.word (codes "none") ≡ false

place_read : (k : ℕ) (place : PlaceWord) → slice_get place_words k ≡ Some place → PlaceReads place
unfolding across_of down_of
place_read zero place e = let h : place_word (codes "left") across.Left down.Unset ≡ place = cc in rw h at (let p : PlaceReads (place_word (codes "left") across.Left down.Unset) = record { is = refl; across = refl; down = refl; given = refl } in p)
place_read (suc zero) place e = let h : place_word (codes "right") across.Right down.Unset ≡ place = cc in rw h at (let p : PlaceReads (place_word (codes "right") across.Right down.Unset) = record { is = refl; across = refl; down = refl; given = refl } in p)
place_read (suc (suc zero)) place e = let h : place_word (codes "start") across.Start down.Unset ≡ place = cc in rw h at (let p : PlaceReads (place_word (codes "start") across.Start down.Unset) = record { is = refl; across = refl; down = refl; given = refl } in p)
place_read (suc (suc (suc zero))) place e = let h : place_word (codes "end") across.End down.Unset ≡ place = cc in rw h at (let p : PlaceReads (place_word (codes "end") across.End down.Unset) = record { is = refl; across = refl; down = refl; given = refl } in p)
place_read (suc (suc (suc (suc zero)))) place e = let h : place_word (codes "center_horizontal") across.Center down.Unset ≡ place = cc in rw h at (let p : PlaceReads (place_word (codes "center_horizontal") across.Center down.Unset) = record { is = refl; across = refl; down = refl; given = refl } in p)
place_read (suc (suc (suc (suc (suc zero))))) place e = let h : place_word (codes "top") across.Unset down.Top ≡ place = cc in rw h at (let p : PlaceReads (place_word (codes "top") across.Unset down.Top) = record { is = refl; across = refl; down = refl; given = refl } in p)
place_read (suc (suc (suc (suc (suc (suc zero)))))) place e = let h : place_word (codes "bottom") across.Unset down.Bottom ≡ place = cc in rw h at (let p : PlaceReads (place_word (codes "bottom") across.Unset down.Bottom) = record { is = refl; across = refl; down = refl; given = refl } in p)
place_read (suc (suc (suc (suc (suc (suc (suc zero))))))) place e = let h : place_word (codes "center_vertical") across.Unset down.Center ≡ place = cc in rw h at (let p : PlaceReads (place_word (codes "center_vertical") across.Unset down.Center) = record { is = refl; across = refl; down = refl; given = refl } in p)
place_read (suc (suc (suc (suc (suc (suc (suc (suc zero)))))))) place e = let h : place_word (codes "center") across.Center down.Center ≡ place = cc in rw h at (let p : PlaceReads (place_word (codes "center") across.Center down.Center) = record { is = refl; across = refl; down = refl; given = refl } in p)
place_read (suc (suc (suc (suc (suc (suc (suc (suc (suc k))))))))) place e = absurd (cc)

-- of two values and others at most one counts: it is the first, the second, or among the others
module _ {A : Type 0} (p : A → Bool) where
  no_two : (a b c : A) (xs : List A) → p a ≡ true → p b ≡ true → filter p (a ∷ b ∷ xs) ≡ filter p (c ∷ []) → ⊥
  no_two a b c xs h k e =
      let two : filter p (a ∷ b ∷ xs) ≡ a ∷ b ∷ filter p xs = rw (h, k) refl in
      elim (cases_Bool (p c)) [
        | inl is ↦ (let one : filter p (c ∷ []) ≡ c ∷ [] = rw is refl in let n = ap length (sym two ∙ e ∙ one) in omega (arith, n))
        | inr other ↦ (let one : filter p (c ∷ []) ≡ [] = rw other refl in let n = ap length (sym two ∙ e ∙ one) in omega (arith, n))
      ]

  first_out : (a : A) (xs : List A) → p a ≡ false → filter p (a ∷ xs) ≡ filter p xs
  first_out a xs h = rw h refl

  second_out : (a b : A) (xs : List A) → p b ≡ false → filter p (a ∷ b ∷ xs) ≡ filter p (a ∷ xs)
  second_out a b xs h = elim (cases_Bool (p a)) [ inl is ↦ rw (is, h) refl | inr other ↦ rw (other, h) refl ]

  same_one : (a c : A) → filter p (a ∷ []) ≡ filter p (c ∷ []) → (p a ≡ false → p c ≡ false → a ≡ c) → a ≡ c
  same_one a c e none = elim (cases_Bool (p a)) [
    | inl is ↦ elim (cases_Bool (p c)) [
      | inl k ↦ (let one : a ∷ [] ≡ c ∷ [] = rw (is, k) at e in cc)
      | inr k ↦ absurd (let one : a ∷ [] ≡ [] = rw (is, k) at e in cc)
    ]
    | inr other ↦ elim (cases_Bool (p c)) [
      | inl k ↦ absurd (let one : [] ≡ c ∷ [] = rw (other, k) at e in cc)
      | inr k ↦ none other k
    ]
  ]

across_unset : (a : Across) → is_set_across a ≡ false → a ≡ across.Unset
across_unset across.Unset h = refl
across_unset across.Left h = absurd (cc)
across_unset across.Right h = absurd (cc)
across_unset across.Center h = absurd (cc)
across_unset across.Start h = absurd (cc)
across_unset across.End h = absurd (cc)

down_unset : (d : Down) → is_set_down d ≡ false → d ≡ down.Unset
down_unset down.Unset h = refl
down_unset down.Top h = absurd (cc)
down_unset down.Bottom h = absurd (cc)
down_unset down.Center h = absurd (cc)

-- one word more on an axis
record JoinsAcross (old new end : Across) (rest : List Across) : Type 0 where
  mid : Across
  reads : one_across old new ≡ Ok mid
  left : filter is_set_across (mid ∷ rest) ≡ filter is_set_across (end ∷ [])

joins_across : (old new end : Across) (rest : List Across) → filter is_set_across (old ∷ new ∷ rest) ≡ filter is_set_across (end ∷ []) → JoinsAcross old new end rest
unfolding one_across
joins_across old new end rest e = elim (cases_Bool (is_set_across new)) [
  | inl n ↦ elim (cases_Bool (is_set_across old)) [
    | inl o ↦ absurd (no_two is_set_across old new end rest o n e)
    | inr o ↦ record { mid = new; reads = rw (n, o) refl; left = sym (first_out is_set_across old (new ∷ rest) o) ∙ e }
  ]
  | inr n ↦ record { mid = old; reads = rw n refl; left = sym (second_out is_set_across old new rest n) ∙ e }
]

record JoinsDown (old new end : Down) (rest : List Down) : Type 0 where
  mid : Down
  reads : one_down old new ≡ Ok mid
  left : filter is_set_down (mid ∷ rest) ≡ filter is_set_down (end ∷ [])

joins_down : (old new end : Down) (rest : List Down) → filter is_set_down (old ∷ new ∷ rest) ≡ filter is_set_down (end ∷ []) → JoinsDown old new end rest
unfolding one_down
joins_down old new end rest e = elim (cases_Bool (is_set_down new)) [
  | inl n ↦ elim (cases_Bool (is_set_down old)) [
    | inl o ↦ absurd (no_two is_set_down old new end rest o n e)
    | inr o ↦ record { mid = new; reads = rw (n, o) refl; left = sym (first_out is_set_down old (new ∷ rest) o) ∙ e }
  ]
  | inr n ↦ record { mid = old; reads = rw n refl; left = sym (second_out is_set_down old new rest n) ∙ e }
]

abbrev acrosses : List PlaceWord → List Across
acrosses places = map (λ (place : PlaceWord). place.across) places

abbrev downs : List PlaceWord → List Down
downs places = map (λ (place : PlaceWord). place.down) places

abbrev words_in : List PlaceWord → List (List ℕ)
words_in places = map (λ (place : PlaceWord). place.word) places

with_word-read : (gravity : Gravity) (place : PlaceWord) (a : Across) (d : Down) → PlaceReads place → one_across gravity.across place.across ≡ Ok a → one_down gravity.down place.down ≡ Ok d
    → with_word gravity place.word ≡ Ok (record { given = gravity.given; across = a; down = d })
unfolding with_word
with_word-read gravity place a d is h k = rw (is.is, is.across, is.down, h, k) refl

places_read : (places : List PlaceWord) (old new : Gravity) → All IsPlaceWord places → new.given ≡ old.given
    → filter is_set_across (old.across ∷ acrosses places) ≡ filter is_set_across (new.across ∷ []) → filter is_set_down (old.down ∷ downs places) ≡ filter is_set_down (new.down ∷ [])
    → fold word_step (Ok old) (words_in places) ≡ Ok new
places_read [] old new known given a d =
    let across : old.across ≡ new.across = same_one is_set_across old.across new.across a (λ h k. across_unset old.across h ∙ sym (across_unset new.across k)) in
    let down : old.down ≡ new.down = same_one is_set_down old.down new.down d (λ h k. down_unset old.down h ∙ sym (down_unset new.down k)) in
    let same : record { given = old.given; across = old.across; down = old.down } ≡ new = (let P : Bool → Across → Down → Gravity = λ g x y. record { given = g; across = x; down = y } in rw (sym given, across, down) refl) in
    ap Ok same
places_read (place ∷ places) old new known given a d =
    let first = All-head IsPlaceWord place places known in
    let is = place_read first.0 place first.1 in
    let x = joins_across old.across place.across new.across (acrosses places) a in
    let y = joins_down old.down place.down new.down (downs places) d in
    ap (λ r. fold word_step r (words_in places)) (with_word-read old place x.mid y.mid is x.reads y.reads)
    ∙ places_read places (record { given = old.given; across = x.mid; down = y.mid }) new (All-tail IsPlaceWord place places known) given x.left y.left

-- no word of the table is `none`
none_apart : (word : List ℕ) (places : List PlaceWord) → All IsPlaceWord places → slice_split is_bar word ≡ words_in places → bytes_eq word (codes "none") ≡ true → ⊥
none_apart word places known are same = none_of places known (sym (ap (slice_split is_bar) ((bytes_eq-Decides word (codes "none")).0 same)) ∙ are)
  where
    none_of : (places : List PlaceWord) → All IsPlaceWord places → codes "none" ∷ [] ≡ words_in places → ⊥
    none_of [] known e = cc
    none_of (place ∷ places) known e =
        let first = All-head IsPlaceWord place places known in
        let is : codes "none" ≡ place.word = cc in
        let other = (place_read first.0 place first.1).given in
        let t : bytes_eq place.word (codes "none") ≡ true = (bytes_eq-Decides place.word (codes "none")).1 (sym is) in
        cc

pub gravity_of-read : (gravity : Gravity) (word : List ℕ) → IsGravityWord gravity word → gravity_of word ≡ Ok gravity
unfolding gravity_of with_words
gravity_of-read gravity word (inl (none, e)) = rw (none, e) refl
gravity_of-read gravity word (inr (given, h)) = elim (cases_Bool (bytes_eq word (codes "none"))) [
  | inl same ↦ absurd (none_apart word h.places h.known h.are same)
  | inr other ↦ rw (other, h.are) (places_read h.places bare_gravity gravity h.known given h.across h.down)
]
