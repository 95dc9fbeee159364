-- What an element sets, fact by fact, by the values of its attributes.
use Rattle.std.specs.Prelude.{ℕ, ◌+◌, ◌==◌, ℤ, pos, Bool, true, false, List, [], ◌∷◌, map, codes, Option, Some, None}
use Rattle.std.specs.Prelude.{Result, Ok, Err, if◌then◌else◌, slice_get}
use Rattle.std.specs.Option.{option_and_then}
use Rattle.axml_chunks.specs.Pool.{StringPool}
use Rattle.axml_reader.specs.declared.doc.Attr.{Attr}
use Rattle.axml_reader.specs.declared.doc.Node.{Node}
use Rattle.axml_reader.specs.Document.{Document}
use Rattle.view_model.specs.declared.facts.Facts.{Facts}
use Rattle.view_model.specs.declared.answer.Answer.TheVariants.{Off}
use Rattle.view_model.specs.declared.visibility.Visibility.TheVariants.{Visible}
use Rattle.view_model.specs.declared.placing.Direction.TheVariants.{Inherit}
use Rattle.view_model.specs.Facts.{new_facts, no_gravity}
use Rattle.view_model.specs.Numbers.{new_ink}
use Rattle.view_model.specs.Refusals.{PlainRefusal}
use Rattle.view_model.specs.Resources.{Entries, Resource}
use Rattle.attr_table.specs.declared.given.Given.{Given}
use Rattle.attr_table.specs.declared.given.Given.TheVariants as given
use Rattle.attr_table.specs.Setting.{answer_of, direction_of, gravity_of, visibility_of, with_margins, with_paddings}
use Rattle.attr_table.specs.Table.{place_of, takes_at}
use Rattle.attr_table.specs.Taking.{Facets, attrs_of, known_place}
use Rattle.attr_table.specs.Values.{found_of, given_of}

-- the meaning of a value whose resource was found, or was not
abbrev pub meaning_with : StringPool → ℕ → ℕ → Attr → Result (Option Resource) PlainRefusal → Option Given
meaning_with pool dpi place attr (Ok found) = given_of pool dpi (takes_at place) attr.kind attr.word found
meaning_with pool dpi place attr (Err refusal) = None

-- what the value of an attribute means that is known at a place of the table
unfoldable pub meaning_at : StringPool → Entries → ℕ → Attr → ℕ → Option Given
meaning_at pool resources dpi attr place =
    meaning_with pool dpi place attr (found_of resources (takes_at place) attr.kind attr.word)

-- the same of an attribute that is known at another place, or nowhere: nothing
abbrev pub meaning_if : StringPool → Entries → ℕ → Attr → ℕ → Option ℕ → Option Given
meaning_if pool resources dpi attr place None = None
meaning_if pool resources dpi attr place (Some known) =
    if place == known then meaning_at pool resources dpi attr place else None

abbrev pub or_else : Option Given → Option Given → Option Given
or_else None other = other
or_else (Some given) other = Some given

-- what the value of the attribute means that is known at a place, if there is one; no element has two
abbrev pub value_at : StringPool → Entries → ℕ → List Attr → ℕ → Option Given
value_at pool resources dpi [] place = None
value_at pool resources dpi (attr ∷ more) place =
    or_else (value_at pool resources dpi more place) (meaning_if pool resources dpi attr place (known_place pool attr))

-- a value by the name of its attribute
abbrev pub by_name : (ℕ → Option Given) → List ℕ → Option Given
by_name value name = option_and_then value (place_of name)

-- how many attributes are not known
abbrev pub unknown : Option ℕ → ℕ
unknown None = 1
unknown (Some place) = 0

abbrev pub unknown_count : StringPool → List Attr → ℕ
unknown_count pool [] = 0
unknown_count pool (attr ∷ more) = unknown (known_place pool attr) + unknown_count pool more

-- a value in pixels, if there is one
abbrev pub pixels : Option Given → Option ℤ
pixels None = None
pixels (Some (given.Pixels n)) = Some n
pixels (Some (given.Word word)) = None
pixels (Some (given.Text text)) = None

abbrev pub pixels_or_0 : Option Given → ℤ
pixels_or_0 None = pos 0
pixels_or_0 (Some (given.Pixels n)) = n
pixels_or_0 (Some (given.Word word)) = pos 0
pixels_or_0 (Some (given.Text text)) = pos 0

-- what a word sets, or the default
abbrev pub word_as : {A : Type 0} → A → (ℕ → A) → Option Given → A
word_as default sets None = default
word_as default sets (Some (given.Pixels n)) = default
word_as default sets (Some (given.Word word)) = sets word
word_as default sets (Some (given.Text text)) = default

abbrev pub word_or : ℕ → Option Given → ℕ
word_or default value = word_as default (λ word. word) value

abbrev pub is_set : Bool → Option Given → Bool
is_set default value = word_as default (λ word. word == 1) value

abbrev pub text_or_none : Option Given → List ℕ
text_or_none None = []
text_or_none (Some (given.Pixels n)) = []
text_or_none (Some (given.Word word)) = []
text_or_none (Some (given.Text text)) = text

-- the attributes that set the rules of a view, in the order of their verbs
abbrev pub rule_names : List (List ℕ)
rule_names =
    codes "layout_toLeftOf"
    ∷ codes "layout_toRightOf"
    ∷ codes "layout_above"
    ∷ codes "layout_below"
    ∷ codes "layout_alignLeft"
    ∷ codes "layout_alignTop"
    ∷ codes "layout_alignRight"
    ∷ codes "layout_alignBottom"
    ∷ codes "layout_toStartOf"
    ∷ codes "layout_toEndOf"
    ∷ codes "layout_alignStart"
    ∷ codes "layout_alignEnd"
    ∷ codes "layout_alignParentLeft"
    ∷ codes "layout_alignParentTop"
    ∷ codes "layout_alignParentRight"
    ∷ codes "layout_alignParentBottom"
    ∷ codes "layout_alignParentStart"
    ∷ codes "layout_alignParentEnd"
    ∷ codes "layout_centerInParent"
    ∷ codes "layout_centerHorizontal"
    ∷ codes "layout_centerVertical"
    ∷ []

-- each fact by the attribute that sets it, besides a margin and a padding for all sides; one that none sets is that of
-- a new view
unfoldable pub single_facts : (List ℕ → Option Given) → Facts
single_facts value = record (new_facts (pos 0) (pos 0)) {
  id = word_or 0 (value (codes "id"));
  width = pixels_or_0 (value (codes "layout_width"));
  height = pixels_or_0 (value (codes "layout_height"));
  margins = record {
    left = pixels_or_0 (value (codes "layout_marginLeft"));
    top = pixels_or_0 (value (codes "layout_marginTop"));
    right = pixels_or_0 (value (codes "layout_marginRight"));
    bottom = pixels_or_0 (value (codes "layout_marginBottom"));
  };
  margin_start = pixels (value (codes "layout_marginStart"));
  margin_end = pixels (value (codes "layout_marginEnd"));
  padding = record {
    left = pixels_or_0 (value (codes "paddingLeft"));
    top = pixels_or_0 (value (codes "paddingTop"));
    right = pixels_or_0 (value (codes "paddingRight"));
    bottom = pixels_or_0 (value (codes "paddingBottom"));
  };
  padding_start = pixels (value (codes "paddingStart"));
  padding_end = pixels (value (codes "paddingEnd"));
  min = record { w = pixels_or_0 (value (codes "minWidth")); h = pixels_or_0 (value (codes "minHeight")) };
  weight = word_or 0 (value (codes "layout_weight"));
  weight_sum = word_or 0 (value (codes "weightSum"));
  layout_gravity = word_as no_gravity gravity_of (value (codes "layout_gravity"));
  gravity = word_as no_gravity gravity_of (value (codes "gravity"));
  vertical = is_set false (value (codes "orientation"));
  visibility = word_as Visible visibility_of (value (codes "visibility"));
  background = record { 0 = word_or 0 (value (codes "background")) };
  ink = record { 0 = word_or new_ink (value (codes "textColor")) };
  answer = word_as Off answer_of (value (codes "clickable"));
  clip = is_set true (value (codes "clipToPadding"));
  fill = is_set false (value (codes "fillViewport"));
  split = is_set true (value (codes "splitMotionEvents"));
  rules = record { values = map (λ name. word_or 0 (value name)) rule_names };
  direction = word_as Inherit direction_of (value (codes "layoutDirection"));
}

-- all facts, by the names of attributes
abbrev pub named_facts : (List ℕ → Option Given) → Facts
named_facts value =
    with_paddings (pixels (value (codes "padding")))
    (with_margins (pixels (value (codes "layout_margin"))) (single_facts value))

-- what these attributes set
unfoldable pub named_facets : StringPool → Entries → ℕ → List Attr → Facets
named_facets pool resources dpi attrs =
    let value = by_name (value_at pool resources dpi attrs) in
    record { facts = named_facts value; text = text_or_none (value (codes "text")); ignored = unknown_count pool attrs }

-- what the attributes of the element that begins at a node set
abbrev pub named_in : Document → Entries → ℕ → Option Node → Facets
named_in doc resources dpi None = named_facets doc.pool resources dpi []
named_in doc resources dpi (Some node) = named_facets doc.pool resources dpi (attrs_of doc node)

abbrev pub named_at : Document → Entries → ℕ → ℕ → Facets
named_at doc resources dpi place = named_in doc resources dpi (slice_get doc.nodes place)
