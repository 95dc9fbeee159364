-- What each document keeps.
use Rattle.std.specs.Prelude.{◌≡◌, ℕ, ◌+◌, Bool, true, not, ◌&&◌, ◌||◌, nat_lt, nat_le, ◌==◌, ◌≤◌, List, length, map}
use Rattle.std.specs.Prelude.{Some}
use Rattle.std.specs.List.{All}
use Rattle.axml_chunks.specs.Pool.{StringPool}
use Rattle.axml_chunks.specs.Short.{IsShort}
use Rattle.axml_reader.specs.declared.doc.Attr.{Attr}
use Rattle.axml_reader.specs.declared.doc.Node.{Node}
use Rattle.axml_reader.specs.declared.doc.Node.TheVariants.{NsStart, NsEnd, Start, End, Chars}
use Rattle.axml_reader.specs.Brackets.{is_rooted}
use Rattle.axml_reader.specs.Document.{Document}
use Rattle.axml_reader.specs.Fields.{is_reference, same_text}
use Rattle.axml_reader.specs.Numbers.{max_attrs, max_elements, string_kind}
use Rattle.axml_reader.specs.Parts.{token, starts_in}

abbrev pub AreShort : StringPool → Type 0
AreShort pool = All IsShort pool.texts

-- the string numbers of a node are none or below a count, and an element's name is below it
abbrev pub has_strings : ℕ → Node → Bool
has_strings count (NsStart prefix uri) = is_reference count prefix && is_reference count uri
has_strings count (NsEnd prefix uri) = is_reference count prefix && is_reference count uri
has_strings count (Start line ns name first n) = is_reference count ns && nat_lt name count
has_strings count (End line ns name) = is_reference count ns && nat_lt name count
has_strings count (Chars line text kind word) = is_reference count text

abbrev pub HaveStrings : StringPool → List Node → Type 0
HaveStrings pool nodes = All (λ node. has_strings (length pool.texts) node ≡ true) nodes

-- the string numbers of an attribute are none or below a count, and its name and its string value are below it
abbrev pub attr_has_strings : ℕ → Attr → Bool
attr_has_strings count attr =
    is_reference count attr.ns && nat_lt attr.name count && is_reference count attr.raw
    && (not (attr.kind == string_kind) || nat_lt attr.word count)

abbrev pub AttrsHaveStrings : StringPool → List Attr → Type 0
AttrsHaveStrings pool attrs = All (λ attr. attr_has_strings (length pool.texts) attr ≡ true) attrs

-- the attributes of a node are among n
abbrev pub is_within : ℕ → Node → Bool
is_within len (NsStart prefix uri) = true
is_within len (NsEnd prefix uri) = true
is_within len (Start line ns name first n) = nat_le (first + n) len
is_within len (End line ns name) = true
is_within len (Chars line text kind word) = true

abbrev pub AreWithin : List Attr → List Node → Type 0
AreWithin attrs nodes = All (λ node. is_within (length attrs) node ≡ true) nodes

-- an element has no more attributes than it may have
abbrev pub has_few_attrs : Node → Bool
has_few_attrs (NsStart prefix uri) = true
has_few_attrs (NsEnd prefix uri) = true
has_few_attrs (Start line ns name first n) = nat_le n max_attrs
has_few_attrs (End line ns name) = true
has_few_attrs (Chars line text kind word) = true

abbrev pub HaveFewAttrs : List Node → Type 0
HaveFewAttrs nodes = All (λ node. has_few_attrs node ≡ true) nodes

-- no more elements begin than a document may have
abbrev pub AreFew : List Node → Type 0
AreFew nodes = starts_in (map token nodes) ≤ max_elements

-- elements are a word of brackets with one outermost pair, in which both names of an element have the same text
abbrev pub AreRooted : StringPool → List Node → Type 0
AreRooted pool nodes = is_rooted (same_text (Some pool)) (map token nodes) ≡ true

pub record IsSoundDocument (doc : Document) : Type 0 where
  pub short : AreShort doc.pool
  pub strings : HaveStrings doc.pool doc.nodes
  pub attr_strings : AttrsHaveStrings doc.pool doc.attrs
  pub within : AreWithin doc.attrs doc.nodes
  pub few : AreFew doc.nodes
  pub few_attrs : HaveFewAttrs doc.nodes
  pub rooted : AreRooted doc.pool doc.nodes
