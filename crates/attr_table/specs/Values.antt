-- What the value of an attribute means, by what the attribute takes.
use Rattle.std.specs.Prelude.{ℕ, ◌*◌, ◌-◌, ◌==◌, ◌||◌, ◌&&◌, not, nat_lt, nat_le, int_le, ℤ, pos, negsuc, Bool, true}
use Rattle.std.specs.Prelude.{false, [], Option, Some, None, Result, Ok, Err, if◌then◌else◌, slice_get, chars}
use Rattle.std.specs.Option.{option_map}
use Rattle.axml_chunks.specs.Pool.{StringPool}
use Rattle.geom_core.specs.Numbers.{wrap_content}
use Rattle.view_model.specs.Numbers.{max_size, unresolved}
use Rattle.view_model.specs.Dimensions.{px_of, weight_of}
use Rattle.view_model.specs.Refusals.{PlainRefusal, refusal_numbered}
use Rattle.view_model.specs.Resources.{Entries, Resource, Color, Dimen, Text, resource_of}
use Rattle.attr_table.specs.declared.given.Given.{Given}
use Rattle.attr_table.specs.declared.given.Given.TheVariants as given
use Rattle.attr_table.specs.declared.table.Takes.{Takes}
use Rattle.attr_table.specs.declared.table.Takes.TheVariants as takes
use Rattle.attr_table.specs.Numbers.{max_whole_weight}
use Rattle.attr_table.specs.Kinds.{boolean_kind, decimal_kind, dimension_kind, first_color_kind, float_kind}
use Rattle.attr_table.specs.Kinds.{hexadecimal_kind, last_color_kind, null_kind, reference_kind, string_kind}

abbrev pub is_whole : ℕ → Bool
is_whole kind = kind == decimal_kind || kind == hexadecimal_kind

abbrev pub is_color : ℕ → Bool
is_color kind = nat_le first_color_kind kind && nat_le kind last_color_kind

-- null, or a reference to nothing
abbrev pub is_nothing : ℕ → ℕ → Bool
is_nothing kind word = kind == null_kind || (kind == reference_kind && word == 0)

-- the whole number that a word of 32 bits is
unfoldable pub signed : ℕ → ℤ
signed word = if nat_lt word 0x8000_0000 then pos word else negsuc (0xffff_ffff - word)

-- a number of pixels within these bounds
unfoldable pub pixels_within : ℤ → ℤ → Option ℤ → Option Given
pixels_within low high None = None
pixels_within low high (Some n) = if int_le low n && int_le n high then Some (given.Pixels n) else None

-- Below, `found` is the resource that a reference names.

abbrev pub dimension_in : ℕ → Resource → Option ℤ
dimension_in dpi (Color color) = None
dimension_in dpi (Dimen word) = px_of word dpi
dimension_in dpi (Text text) = None

-- a dimension or its resource, in pixels
unfoldable pub dimension_of : ℕ → ℕ → ℕ → Option Resource → Option ℤ
dimension_of dpi kind word (Some found) = dimension_in dpi found
dimension_of dpi kind word None = if kind == dimension_kind then px_of word dpi else None

abbrev pub color_in : Resource → Option Given
color_in (Color color) = Some (given.Word color.0)
color_in (Dimen word) = None
color_in (Text text) = None

-- a colour or its resource, or a null, which is transparent
unfoldable pub color_of : ℕ → ℕ → Option Resource → Option Given
color_of kind word (Some found) = color_in found
color_of kind word None =
    if is_color kind then Some (given.Word word) else (if is_nothing kind word then Some (given.Word 0) else None)

abbrev pub text_in : Resource → Option Given
text_in (Color color) = None
text_in (Dimen word) = None
text_in (Text text) = Some (given.Text text)

-- the characters of a string, of a text's resource, or of a null, which is empty
unfoldable pub text_of : StringPool → ℕ → ℕ → Option Resource → Option Given
text_of pool kind word (Some found) = text_in found
text_of pool kind word None =
    if kind == string_kind then option_map (λ text. given.Text (chars text)) (slice_get pool.texts word)
    else (if is_nothing kind word then Some (given.Text []) else None)

-- a float, or a whole number that is not negative, in 256ths
unfoldable pub weight_given : ℕ → ℕ → Option Given
weight_given kind word =
    if kind == float_kind then option_map given.Word (weight_of word)
    else (if is_whole kind && nat_le word max_whole_weight then Some (given.Word (256 * word)) else None)

-- a number of pixels from 0 upward, or as a whole number -1 or -2 for a view as large as its parent or its content
unfoldable pub extent_given : ℕ → ℕ → ℕ → Option Resource → Option Given
extent_given dpi kind word found =
    if is_whole kind then pixels_within wrap_content max_size (Some (signed word))
    else pixels_within (pos 0) max_size (dimension_of dpi kind word found)

unfoldable pub whole_given : ℕ → ℕ → Option Given
whole_given kind word = if is_whole kind then Some (given.Word word) else None

unfoldable pub below_given : ℕ → ℕ → ℕ → Option Given
below_given count kind word = if is_whole kind && nat_lt word count then Some (given.Word word) else None

-- any word but 0 is true
unfoldable pub boolean_given : ℕ → ℕ → Option Given
boolean_given kind word = if kind == boolean_kind then Some (given.Word (if word == 0 then 0 else 1)) else None

unfoldable pub reference_given : ℕ → ℕ → Option Given
reference_given kind word = if kind == reference_kind then Some (given.Word word) else None

-- the meaning of a value of this type and word, if the attribute takes such a value
abbrev pub given_of : StringPool → ℕ → Takes → ℕ → ℕ → Option Resource → Option Given
given_of pool dpi takes.Reference kind word found = reference_given kind word
given_of pool dpi takes.Extent kind word found = extent_given dpi kind word found
given_of pool dpi (takes.Length low high) kind word found = pixels_within low high (dimension_of dpi kind word found)
given_of pool dpi takes.Weight kind word found = weight_given kind word
given_of pool dpi takes.Whole kind word found = whole_given kind word
given_of pool dpi (takes.Below count) kind word found = below_given count kind word
given_of pool dpi takes.Color kind word found = color_of kind word found
given_of pool dpi takes.Text kind word found = text_of pool kind word found
given_of pool dpi takes.Boolean kind word found = boolean_given kind word

abbrev pub takes_reference : Takes → Bool
takes_reference takes.Reference = true
takes_reference takes.Extent = false
takes_reference (takes.Length low high) = false
takes_reference takes.Weight = false
takes_reference takes.Whole = false
takes_reference (takes.Below count) = false
takes_reference takes.Color = false
takes_reference takes.Text = false
takes_reference takes.Boolean = false

-- a resource that is named has to be there
abbrev pub defined : Option Resource → Result (Option Resource) PlainRefusal
defined None = Err (refusal_numbered unresolved)
defined (Some found) = Ok (Some found)

-- the resource that a value names, if it names one; if the id of a reference counts, the reference is not followed
unfoldable pub found_of : Entries → Takes → ℕ → ℕ → Result (Option Resource) PlainRefusal
found_of resources takes kind word =
    if kind == reference_kind && (not (takes_reference takes) && not (word == 0))
    then defined (resource_of resources word)
    else Ok None
