-- The words that name a view, or give a colour, a gravity or a weight, and that there are no others.
use Rattle.std.specs.Prelude.{◌≡◌, ℕ, ◌<◌, ◌≤◌, ◌^◌, ◌/◌, ◌%◌, true, ◌⊎◌, List, [], ◌∷◌, length, filter, map, codes}
use Rattle.std.specs.Prelude.{slice_get, Option, Some, None}
use Rattle.std.specs.Char.{is_ascii_hexdigit}
use Rattle.std.specs.Fmt.{decimal}
use Rattle.std.specs.List.{All, list_all, slice_split}
use Rattle.geom_core.specs.declared.color.Argb.{Argb}
use Rattle.view_model.specs.Facts.{no_gravity}
use Rattle.view_model.specs.declared.placing.Across.{Across}
use Rattle.view_model.specs.declared.placing.Across.TheVariants as across
use Rattle.view_model.specs.declared.placing.Down.{Down}
use Rattle.view_model.specs.declared.placing.Down.TheVariants as down
use Rattle.view_model.specs.declared.placing.Gravity.{Gravity}
use Rattle.line_words.specs.words.Gravities.{is_bar, is_set_across, is_set_down}
use Rattle.line_words.specs.words.Names.{hex_value}
use Rattle.line_words.specs.Spelled.{name_text, weight_words}
use Rattle.line_words.specs.declared.words.naming.Name.{Name}
use Rattle.line_words.specs.declared.words.naming.Name.TheVariants.{Number, Id}

-- a mark, and after it one to eight hexadecimal digits of either case, which write this number
pub record IsHexWord (mark n : ℕ) (word : List ℕ) : Type 0 where
  pub digits : List ℕ
  pub marked : word ≡ mark ∷ digits
  pub some : 0 < length digits
  pub short : length digits ≤ 8
  pub hex : list_all is_ascii_hexdigit digits ≡ true
  pub value : hex_value digits ≡ n

-- a view: `v` and its number, of at most ten decimal digits, or `@` and an id
abbrev pub IsNameWord : Name → List ℕ → Type 0
IsNameWord (Number n) word = (n < 10 ^ 10) × (word ≡ name_text (Number n))
IsNameWord (Id id) word = IsHexWord 64 id word

-- a view, or `root` for none
abbrev pub IsParentWord : Option Name → List ℕ → Type 0
IsParentWord None word = word ≡ codes "root"
IsParentWord (Some view) word = IsNameWord view word

-- `#` and eight digits
abbrev pub IsColorWord : Argb → List ℕ → Type 0
IsColorWord color word = IsHexWord 35 color.0 word × (length word ≡ 9)

-- a word of a gravity, and its place on each axis
pub record PlaceWord : Type 0 where
  pub word : List ℕ
  pub across : Across
  pub down : Down

abbrev pub place_word : List ℕ → Across → Down → PlaceWord
place_word word across down = record { word = word; across = across; down = down }

-- the words of gravities
abbrev pub place_words : List PlaceWord
place_words =
    place_word (codes "left") across.Left down.Unset
    ∷ place_word (codes "right") across.Right down.Unset
    ∷ place_word (codes "start") across.Start down.Unset
    ∷ place_word (codes "end") across.End down.Unset
    ∷ place_word (codes "center_horizontal") across.Center down.Unset
    ∷ place_word (codes "top") across.Unset down.Top
    ∷ place_word (codes "bottom") across.Unset down.Bottom
    ∷ place_word (codes "center_vertical") across.Unset down.Center
    ∷ place_word (codes "center") across.Center down.Center
    ∷ []

abbrev pub IsPlaceWord : PlaceWord → Type 0
IsPlaceWord place = (k : ℕ) × (slice_get place_words k ≡ Some place)

-- words of gravities, of which one at most sets the place on each axis: that is the gravity's
pub record ArePlaces (gravity : Gravity) (ws : List (List ℕ)) : Type 0 where
  pub places : List PlaceWord
  pub known : All IsPlaceWord places
  pub are : ws ≡ map (λ (place : PlaceWord). place.word) places
  pub across : filter is_set_across (map (λ (place : PlaceWord). place.across) places)
      ≡ filter is_set_across (gravity.across ∷ [])
  pub down : filter is_set_down (map (λ (place : PlaceWord). place.down) places)
      ≡ filter is_set_down (gravity.down ∷ [])

-- `none`, or words of gravities with bars between them
abbrev pub IsGravityWord : Gravity → List ℕ → Type 0
IsGravityWord gravity word =
    ((word ≡ codes "none") × (gravity ≡ no_gravity)) ⊎
    ((gravity.given ≡ true) × ArePlaces gravity (slice_split is_bar word))

-- whole ones and 256ths; the latter may be left out if they are none
abbrev pub AreWeightWords : ℕ → List (List ℕ) → Type 0
AreWeightWords weight ws = (ws ≡ weight_words weight) ⊎ ((weight % 256 ≡ 0) × (ws ≡ decimal (weight / 256) ∷ []))
