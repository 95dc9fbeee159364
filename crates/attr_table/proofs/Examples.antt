-- Worked attributes, by computation: what is known, what values say, and what elements set.
use Rattle.std.specs.Prelude.{◌≡◌, ℕ, pos, negsuc, true, List, [], ◌∷◌, length, map, Option, Some, None, Result, Ok, Err, chars, codes, refl}
use Rattle.std.specs.List.{range_with_len}
use Rattle.axml_reader.specs.declared.doc.Attr.{Attr}
use Rattle.axml_reader.specs.declared.doc.Node.TheVariants.{Start}
use Rattle.view_model.specs.declared.facts.Facts.{Facts}
use Rattle.view_model.specs.declared.visibility.Visibility.TheVariants as visibility
use Rattle.view_model.specs.declared.placing.Across.{Across}
use Rattle.view_model.specs.declared.placing.Across.TheVariants as across
use Rattle.view_model.specs.declared.placing.Down.{Down}
use Rattle.view_model.specs.declared.placing.Down.TheVariants as down
use Rattle.view_model.specs.declared.placing.Gravity.{Gravity}
use Rattle.view_model.specs.Dimensions.{mantissa, nearest, never_lost, pixels_in_bounds, px_of, radix, unit_of, weight_near, weight_of}
use Rattle.view_model.specs.Facts.{new_facts}
use Rattle.view_model.specs.Refusals.{PlainRefusal, refusal_numbered}
use Rattle.view_model.specs.Resources.{Dimen, Entries, Text}
use Rattle.attr_table.specs.declared.given.Given.{Given}
use Rattle.attr_table.specs.declared.given.Given.TheVariants as given
use Rattle.attr_table.specs.declared.table.Takes.{Takes}
use Rattle.attr_table.specs.declared.table.Takes.TheVariants as takes
use Rattle.attr_table.specs.Setting.{across_of, all_sides, down_of, gravity_of, visibility_of, with_margins, with_paddings}
use Rattle.attr_table.specs.declared.table.TheConstants.{ATTRIBUTES}
use Rattle.attr_table.specs.Attributes.{Attribute, attributes, known}
use Rattle.attr_table.specs.Table.{place_of}
use Rattle.attr_table.specs.Taking.{Facets, facets_of, finished, known_place, with_known}
use Rattle.attr_table.specs.Values.{below_given, boolean_given, color_of, dimension_of, extent_given, found_of, given_of, pixels_within, reference_given, signed, text_of, weight_given}

-- the table of the code has these rows
tabled : map (λ row. known row.0.now row.1 row.2) ATTRIBUTES ≡ attributes
unfolding attributes
tabled = refl

-- each name leads to its own row, so no name is there twice
own_rows : map place_of (map (λ (known : Attribute). known.name) attributes) ≡ map (λ (place : ℕ). Some place) (range_with_len 0 54)
unfolding attributes
own_rows = refl

-- names are exact, and those of other tools are not known
others : map place_of (codes "Id" ∷ codes "layout_margin_left" ∷ codes "enabled" ∷ codes "" ∷ []) ≡ None ∷ None ∷ None ∷ None ∷ []
unfolding attributes
others = refl

-- what gravities mean, as Android numbers them: left, right, start, end, centre of both, bottom and right, fill
gravity : Across → Down → Gravity
gravity x y = record { given = true; across = x; down = y }

gravities : map gravity_of (0x03 ∷ 0x05 ∷ 0x80_0003 ∷ 0x80_0005 ∷ 0x11 ∷ 0x55 ∷ 0x77 ∷ 0x30 ∷ 0 ∷ [])
    ≡ gravity across.Left down.Unset ∷ gravity across.Right down.Unset ∷ gravity across.Start down.Unset ∷ gravity across.End down.Unset
    ∷ gravity across.Center down.Center ∷ gravity across.Right down.Bottom ∷ gravity across.Left down.Top ∷ gravity across.Unset down.Top ∷ gravity across.Unset down.Unset ∷ []
unfolding gravity gravity_of across_of down_of
gravities = refl

visibilities : map visibility_of (0 ∷ 1 ∷ 2 ∷ []) ≡ visibility.Visible ∷ visibility.Invisible ∷ visibility.Gone ∷ []
unfolding visibility_of
visibilities = refl

-- what values say, with no resource
said : Takes → ℕ → ℕ → Option Given
said what kind word = given_of (record { utf8 = true; texts = [] }) 160 what kind word None

-- the least and the greatest extents that are whole numbers, and one beyond each; -1 px as a dimension is none
extents : map (said takes.Extent 0x10) (0xffff_fffe ∷ 0xffff_ffff ∷ 0 ∷ 16777215 ∷ 0xffff_fffd ∷ 16777216 ∷ [])
    ≡ Some (given.Pixels (negsuc 1)) ∷ Some (given.Pixels (negsuc 0)) ∷ Some (given.Pixels (pos 0)) ∷ Some (given.Pixels (pos 16777215)) ∷ None ∷ None ∷ []
unfolding said extent_given signed pixels_within
extents = refl

negative_extent : said takes.Extent 0x05 0xffff_ff00 ≡ None
unfolding said extent_given signed pixels_within dimension_of px_of mantissa radix unit_of nearest never_lost pixels_in_bounds
negative_extent = refl

-- lengths from 0 to 16 pixels: 16, 17 and -1, and 16 as a whole number, which is no length
lengths : map (said (takes.Length (pos 0) (pos 16)) 0x05) (0x1000 ∷ 0x1100 ∷ 0xffff_ff00 ∷ []) ≡ Some (given.Pixels (pos 16)) ∷ None ∷ None ∷ []
unfolding said pixels_within dimension_of px_of mantissa radix unit_of nearest never_lost pixels_in_bounds
lengths = refl

whole_length : said (takes.Length (pos 0) (pos 16)) 0x10 16 ≡ None
unfolding said pixels_within dimension_of
whole_length = refl

weights : map (said takes.Weight 0x11) (0 ∷ 65535 ∷ 65536 ∷ 0xffff_ffff ∷ []) ≡ Some (given.Word 0) ∷ Some (given.Word 16776960) ∷ None ∷ None ∷ []
unfolding said weight_given
weights = refl

float_weight : said takes.Weight 0x04 0x3fc0_0000 ≡ Some (given.Word 384)
unfolding said weight_given weight_of weight_near
float_weight = refl

booleans : map (said takes.Boolean 0x12) (0 ∷ 1 ∷ 0xffff_ffff ∷ []) ≡ Some (given.Word 0) ∷ Some (given.Word 1) ∷ Some (given.Word 1) ∷ []
unfolding said boolean_given
booleans = refl

-- a colour of each of its types, null and a reference to nothing, and types that are no colours
colors : said takes.Color 0x1c 7 ∷ said takes.Color 0x1f 7 ∷ said takes.Color 0x00 7 ∷ said takes.Color 0x01 0 ∷ said takes.Color 0x1b 7 ∷ said takes.Color 0x20 7 ∷ said takes.Color 0x11 7 ∷ []
    ≡ Some (given.Word 7) ∷ Some (given.Word 7) ∷ Some (given.Word 0) ∷ Some (given.Word 0) ∷ None ∷ None ∷ None ∷ []
unfolding said color_of
colors = refl

below_three : map (said (takes.Below 3) 0x10) (0 ∷ 2 ∷ 3 ∷ []) ≡ Some (given.Word 0) ∷ Some (given.Word 2) ∷ None ∷ []
unfolding said below_given
below_three = refl

-- an id is taken from the reference, and nothing is looked up
ids : said takes.Reference 0x01 0x7f01_0001 ∷ said takes.Reference 0x10 1 ∷ [] ≡ Some (given.Word 0x7f01_0001) ∷ None ∷ []
unfolding said reference_given
ids = refl

-- an element with these attributes
texts : List (List ℕ)
texts =
    codes "http://schemas.android.com/apk/res/android" ∷ codes "layout_width" ∷ codes "layout_height" ∷ codes "layout_margin"
    ∷ codes "layout_marginLeft" ∷ codes "padding" ∷ codes "paddingLeft" ∷ codes "paddingStart" ∷ codes "text" ∷ codes "style" ∷ codes "hi" ∷ []

attr : ℕ → ℕ → ℕ → Attr
attr name kind word = record { ns = 0; name = name; raw = 0xffff_ffff; kind = kind; word = word }

stranger : Attr
stranger = record { ns = 0xffff_ffff; name = 9; raw = 0xffff_ffff; kind = 0x01; word = 0x7f03_0000 }

resources : Entries
resources = (0x7f05_0001, Dimen 0x1001) ∷ (0x7f06_0001, Text (104 ∷ [])) ∷ []

element : List Attr → Result Facets PlainRefusal
unfolding texts resources
element attrs = facets_of (record { pool = record { utf8 = true; texts = texts }; map = []; nodes = []; attrs = attrs }) resources 160 (Start 2 0xffff_ffff 9 0 (length attrs))

sized : List Attr → List Attr
unfolding attr
sized more = attr 1 0x10 0xffff_ffff ∷ attr 2 0x05 0x1001 ∷ more

sets : Facts → List ℕ → ℕ → Result Facets PlainRefusal
sets facts text ignored = Ok (record { facts = facts; text = text; ignored = ignored })

plain : Facts
plain = new_facts (negsuc 0) (pos 16)

as_large_as_its_parent : element (sized (stranger ∷ [])) ≡ sets plain [] 1
unfolding element sized sets plain stranger attr texts resources facets_of finished known_place with_known found_of extent_given signed pixels_within dimension_of text_of px_of mantissa radix unit_of nearest never_lost pixels_in_bounds with_margins with_paddings attributes
as_large_as_its_parent = refl

-- the same names in no namespace are not known
other_namespace : element (sized (record (attr 1 0x02 0) { ns = 9 } ∷ record (attr 1 0x02 0) { ns = 0xffff_ffff } ∷ [])) ≡ sets plain [] 2
unfolding element sized sets plain stranger attr texts resources facets_of finished known_place with_known found_of extent_given signed pixels_within dimension_of text_of px_of mantissa radix unit_of nearest never_lost pixels_in_bounds with_margins with_paddings attributes
other_namespace = refl

no_height : element (attr 1 0x10 0 ∷ []) ≡ Err (refusal_numbered 17)
unfolding element sized sets plain stranger attr texts resources facets_of finished known_place with_known found_of extent_given signed pixels_within dimension_of text_of px_of mantissa radix unit_of nearest never_lost pixels_in_bounds with_margins with_paddings attributes
no_height = refl

-- of several reasons the first in this order
twice_before_theme : element (sized (attr 1 0x02 0 ∷ [])) ≡ Err (refusal_numbered 16)
unfolding element sized sets plain stranger attr texts resources facets_of finished known_place with_known found_of extent_given signed pixels_within dimension_of text_of px_of mantissa radix unit_of nearest never_lost pixels_in_bounds with_margins with_paddings attributes
twice_before_theme = refl

theme : element (attr 1 0x02 0 ∷ []) ≡ Err (refusal_numbered 13)
unfolding element sized sets plain stranger attr texts resources facets_of finished known_place with_known found_of extent_given signed pixels_within dimension_of text_of px_of mantissa radix unit_of nearest never_lost pixels_in_bounds with_margins with_paddings attributes
theme = refl

not_defined : element (attr 1 0x10 5 ∷ attr 2 0x01 0x7f05_0002 ∷ []) ≡ Err (refusal_numbered 12)
unfolding element sized sets plain stranger attr texts resources facets_of finished known_place with_known found_of extent_given signed pixels_within dimension_of text_of px_of mantissa radix unit_of nearest never_lost pixels_in_bounds with_margins with_paddings attributes
not_defined = refl

defined : element (attr 1 0x10 5 ∷ attr 2 0x01 0x7f05_0001 ∷ []) ≡ sets (new_facts (pos 5) (pos 16)) [] 0
unfolding element sized sets plain stranger attr texts resources facets_of finished known_place with_known found_of extent_given signed pixels_within dimension_of text_of px_of mantissa radix unit_of nearest never_lost pixels_in_bounds with_margins with_paddings attributes
defined = refl

of_another_kind : element (attr 1 0x10 5 ∷ attr 2 0x01 0x7f06_0001 ∷ []) ≡ Err (refusal_numbered 14)
unfolding element sized sets plain stranger attr texts resources facets_of finished known_place with_known found_of extent_given signed pixels_within dimension_of text_of px_of mantissa radix unit_of nearest never_lost pixels_in_bounds with_margins with_paddings attributes
of_another_kind = refl

of_nothing : element (attr 1 0x10 5 ∷ attr 2 0x01 0 ∷ []) ≡ Err (refusal_numbered 14)
unfolding element sized sets plain stranger attr texts resources facets_of finished known_place with_known found_of extent_given signed pixels_within dimension_of text_of px_of mantissa radix unit_of nearest never_lost pixels_in_bounds with_margins with_paddings attributes
of_nothing = refl

-- an attribute of the file's order is refused before a later one
first_refused : element (attr 1 0x03 5 ∷ attr 2 0x02 0 ∷ []) ≡ Err (refusal_numbered 14)
unfolding element sized sets plain stranger attr texts resources facets_of finished known_place with_known found_of extent_given signed pixels_within dimension_of text_of px_of mantissa radix unit_of nearest never_lost pixels_in_bounds with_margins with_paddings attributes
first_refused = refl

texts_taken : element (sized (attr 8 0x03 10 ∷ [])) ∷ element (sized (attr 8 0x01 0x7f06_0001 ∷ [])) ∷ element (sized (attr 8 0x00 5 ∷ [])) ∷ []
    ≡ sets plain (chars (codes "hi")) 0 ∷ sets plain (104 ∷ []) 0 ∷ sets plain [] 0 ∷ []
unfolding element sized sets plain stranger attr texts resources facets_of finished known_place with_known found_of extent_given signed pixels_within dimension_of text_of px_of mantissa radix unit_of nearest never_lost pixels_in_bounds with_margins with_paddings attributes
texts_taken = refl

-- 5 px for all sides count, whether 3 px on the left come before or after; -1 px for all do not
all_margins : element (sized (attr 3 0x05 0x500 ∷ attr 4 0x05 0x300 ∷ [])) ∷ element (sized (attr 4 0x05 0x300 ∷ attr 3 0x05 0x500 ∷ [])) ∷ []
    ≡ sets (record plain { margins = all_sides (pos 5) }) [] 0 ∷ sets (record plain { margins = all_sides (pos 5) }) [] 0 ∷ []
unfolding element sized sets plain stranger attr texts resources facets_of finished known_place with_known found_of extent_given signed pixels_within dimension_of text_of px_of mantissa radix unit_of nearest never_lost pixels_in_bounds with_margins with_paddings attributes
all_margins = refl

negative_margins : element (sized (attr 3 0x05 0xffff_ff00 ∷ attr 4 0x05 0x300 ∷ []))
    ≡ sets (record plain { margins = record { left = pos 3; top = pos 0; right = pos 0; bottom = pos 0 } }) [] 0
unfolding element sized sets plain stranger attr texts resources facets_of finished known_place with_known found_of extent_given signed pixels_within dimension_of text_of px_of mantissa radix unit_of nearest never_lost pixels_in_bounds with_margins with_paddings attributes
negative_margins = refl

-- a padding for all sides leaves a start padding
all_paddings : element (sized (attr 7 0x05 0x200 ∷ attr 6 0x05 0x300 ∷ attr 5 0x05 0x500 ∷ []))
    ≡ sets (record plain { padding = all_sides (pos 5); padding_start = Some (pos 2) }) [] 0
unfolding element sized sets plain stranger attr texts resources facets_of finished known_place with_known found_of extent_given signed pixels_within dimension_of text_of px_of mantissa radix unit_of nearest never_lost pixels_in_bounds with_margins with_paddings attributes
all_paddings = refl
