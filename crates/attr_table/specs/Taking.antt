-- The facts of one element, from its attributes in the order of the file.
use Rattle.std.specs.Prelude.{ℕ, ◌+◌, ◌==◌, ◌&&◌, Bool, true, false, List, [], ◌∷◌, Option, Some, None, Result, Ok, Err}
use Rattle.std.specs.Prelude.{if◌then◌else◌, slice_get, slice_index_or, slice_set, codes, take, drop}
use Rattle.std.specs.Str.{bytes_eq}
use Rattle.axml_chunks.specs.Pool.{StringPool}
use Rattle.axml_reader.specs.declared.doc.Attr.{Attr}
use Rattle.axml_reader.specs.declared.doc.Node.{Node}
use Rattle.axml_reader.specs.declared.doc.Node.TheVariants.{NsStart, NsEnd, Start, End, Chars}
use Rattle.axml_reader.specs.Document.{Document}
use Rattle.view_model.specs.declared.facts.Facts.{Facts}
use Rattle.view_model.specs.Numbers.{bad_value, duplicate, no_size, theme_ref}
use Rattle.view_model.specs.Refusals.{PlainRefusal, refusal_numbered, ◌>>=◌}
use Rattle.view_model.specs.Resources.{Entries}
use Rattle.attr_table.specs.declared.draft.Draft.{Draft}
use Rattle.attr_table.specs.declared.given.Given.{Given}
use Rattle.attr_table.specs.Attributes.{height_place, width_place}
use Rattle.attr_table.specs.Kinds.{theme_kind}
use Rattle.attr_table.specs.Setting.{drafted, empty_draft, with_given}
use Rattle.attr_table.specs.Table.{place_of, slot_at, takes_at}
use Rattle.attr_table.specs.Values.{found_of, given_of}

-- whether the text of a namespace is that of the attributes that are known
abbrev pub is_android : Option (List ℕ) → Bool
is_android None = false
is_android (Some text) = bytes_eq text (codes "http://schemas.android.com/apk/res/android")

abbrev pub place_named : Option (List ℕ) → Option ℕ
place_named None = None
place_named (Some name) = place_of name

-- the place of an attribute in the table, if it is known
unfoldable pub known_place : StringPool → Attr → Option ℕ
known_place pool attr =
    if is_android (slice_get pool.texts attr.ns) then place_named (slice_get pool.texts attr.name) else None

-- the draft with the value of the attribute at a place, if the attribute takes such a value
abbrev pub set_at : ℕ → Option Given → Draft → Result Draft PlainRefusal
set_at place None draft = Err (refusal_numbered bad_value)
set_at place (Some given) draft =
    let set = with_given (slot_at place) given draft in
    Ok (record set { came = slice_set set.came place true })

-- the draft with a known attribute: the second of a name, a value of a theme, a resource that is not defined and a
-- value that is not taken are refused, in this order
unfoldable pub with_known : StringPool → Entries → ℕ → Attr → ℕ → Draft → Result Draft PlainRefusal
with_known pool resources dpi attr place draft =
    if slice_index_or draft.came place false then Err (refusal_numbered duplicate)
    else (if attr.kind == theme_kind then Err (refusal_numbered theme_ref)
    else do
      found ← found_of resources (takes_at place) attr.kind attr.word
      set_at place (given_of pool dpi (takes_at place) attr.kind attr.word found) draft)

abbrev pub with_place : StringPool → Entries → ℕ → Attr → Option ℕ → Draft → Result Draft PlainRefusal
with_place pool resources dpi attr None draft = Ok (record draft { ignored = draft.ignored + 1 })
with_place pool resources dpi attr (Some place) draft = with_known pool resources dpi attr place draft

-- the draft with an attribute; one that is not known is counted
abbrev pub with_attr : StringPool → Entries → ℕ → Attr → Draft → Result Draft PlainRefusal
with_attr pool resources dpi attr draft = with_place pool resources dpi attr (known_place pool attr) draft

-- the draft with one attribute after the other, up to the first refusal
abbrev pub with_attrs : StringPool → Entries → ℕ → List Attr → Draft → Result Draft PlainRefusal
with_attrs pool resources dpi [] draft = Ok draft
with_attrs pool resources dpi (attr ∷ more) draft =
    with_attr pool resources dpi attr draft >>= with_attrs pool resources dpi more

-- what an element sets
pub record Facets : Type 0 where
  pub facts : Facts
  pub text : List ℕ
  -- how many of its attributes are not known
  pub ignored : ℕ

-- a width and a height have to be there
unfoldable pub finished : Draft → Result Facets PlainRefusal
finished draft =
    if slice_index_or draft.came width_place false && slice_index_or draft.came height_place false
    then Ok (record { facts = drafted draft; text = draft.text; ignored = draft.ignored })
    else Err (refusal_numbered no_size)

-- the attributes of the element that begins at a node
abbrev pub attrs_of : Document → Node → List Attr
attrs_of doc (NsStart prefix uri) = []
attrs_of doc (NsEnd prefix uri) = []
attrs_of doc (Start line ns name first count) = take count (drop first doc.attrs)
attrs_of doc (End line ns name) = []
attrs_of doc (Chars line text kind word) = []

-- what the element that begins at a node sets, or its first refusal
unfoldable pub facets_of : Document → Entries → ℕ → Node → Result Facets PlainRefusal
facets_of doc resources dpi node = with_attrs doc.pool resources dpi (attrs_of doc node) empty_draft >>= finished

abbrev pub facets_in : Document → Entries → ℕ → Option Node → Result Facets PlainRefusal
facets_in doc resources dpi None = Err (refusal_numbered no_size)
facets_in doc resources dpi (Some node) = facets_of doc resources dpi node

-- of the node at a place
abbrev pub facets_at : Document → Entries → ℕ → ℕ → Result Facets PlainRefusal
facets_at doc resources dpi place = facets_in doc resources dpi (slice_get doc.nodes place)
