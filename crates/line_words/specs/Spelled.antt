-- The text of a word: one way to write it, of those that are read.
use Rattle.std.specs.Prelude.{◌≡◌, ℕ, zero, suc, ◌<◌, ◌^◌, ◌/◌, ◌%◌, not, ◌&&◌, ◌||◌, Bool, true, false, IsTrue}
use Rattle.std.specs.Prelude.{if◌then◌else◌, ℤ, pos, negsuc, ◌⊎◌, List, [], ◌∷◌, ◌++◌, codes, Option, Some, None}
use Rattle.std.specs.Fmt.{decimal, digits, digit_glyph}
use Rattle.geom_core.specs.declared.color.Argb.{Argb}
use Rattle.view_model.specs.Facts.{no_gravity}
use Rattle.view_model.specs.declared.placing.Across.{Across}
use Rattle.view_model.specs.declared.placing.Across.TheVariants as across
use Rattle.view_model.specs.declared.placing.Down.{Down}
use Rattle.view_model.specs.declared.placing.Down.TheVariants as down
use Rattle.view_model.specs.declared.placing.Gravity.{Gravity}
use Rattle.line_words.specs.words.Gravities.{is_set_across, is_set_down}
use Rattle.line_words.specs.declared.words.naming.Name.{Name}
use Rattle.line_words.specs.declared.words.naming.Name.TheVariants.{Number, Id}

-- `vN`, or `@HEX` in lower case without leading zeros
abbrev pub name_text : Name → List ℕ
name_text (Number n) = codes "v" ++ decimal n
name_text (Id id) = codes "@" ++ digits 16 false id

abbrev pub parent_text : Option Name → List ℕ
parent_text None = codes "root"
parent_text (Some view) = name_text view

-- a dimension as facts keep it
abbrev pub extent_text : ℤ → List ℕ
extent_text (pos n) = decimal n
extent_text (negsuc zero) = codes "match"
extent_text (negsuc (suc n)) = codes "wrap"

abbrev pub across_text : Across → List ℕ
across_text across.Unset = []
across_text across.Left = codes "left"
across_text across.Right = codes "right"
across_text across.Center = codes "center_horizontal"
across_text across.Start = codes "start"
across_text across.End = codes "end"

abbrev pub down_text : Down → List ℕ
down_text down.Unset = []
down_text down.Top = codes "top"
down_text down.Bottom = codes "bottom"
down_text down.Center = codes "center_vertical"

-- a bar separates the words of two axes
abbrev pub gravity_text : Gravity → List ℕ
gravity_text gravity =
    if not gravity.given then codes "none" else (
    across_text gravity.across
    ++ (if is_set_across gravity.across && is_set_down gravity.down then codes "|" else [])
    ++ down_text gravity.down)

-- whole ones, and 256ths
abbrev pub weight_words : ℕ → List (List ℕ)
weight_words weight = decimal (weight / 256) ∷ decimal (weight % 256) ∷ []

-- the n lowest hexadecimal digits of a number
abbrev pub hex_places : ℕ → ℕ → List ℕ
hex_places zero n = []
hex_places (suc places) n = hex_places places (n / 16) ++ digit_glyph false (n % 16) ∷ []

-- `#` and eight hexadecimal digits, alpha first
abbrev pub color_text : Argb → List ℕ
color_text color = codes "#" ++ hex_places 8 color.0

abbrev pub on_text : Bool → List ℕ
on_text on = if on then codes "yes" else codes "no"

-- a view that a line can name
abbrev pub HasText : Name → Type 0
HasText (Number n) = n < 10 ^ 10
HasText (Id id) = id < 2 ^ 32

-- a gravity that a word can give: none, or one that is set on an axis
abbrev pub HasWord : Gravity → Type 0
HasWord gravity =
    (gravity ≡ no_gravity) ⊎
    ((gravity.given ≡ true) × IsTrue (is_set_across gravity.across || is_set_down gravity.down))
