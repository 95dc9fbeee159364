-- What the bytes of a document are, apart from how they are read.
use Rattle.std.specs.Prelude.{◌≡◌, ◌≢◌, ℕ, ◌+◌, ◌-◌, ◌*◌, ◌/◌, ◌<◌, ◌≤◌, ◌⊎◌, List, [], ◌∷◌, ◌++◌, length, map}
use Rattle.std.specs.Prelude.{slice_index, slice_get, Option, Some, None}
use Rattle.axml_chunks.specs.declared.chunk.Chunk.{Chunk}
use Rattle.axml_chunks.specs.Chunks.{IsChunkAt}
use Rattle.axml_chunks.specs.Numbers.{number16, number32}
use Rattle.axml_chunks.specs.Pool.{StringPool, IsPool}
use Rattle.axml_reader.specs.declared.doc.Attr.{Attr}
use Rattle.axml_reader.specs.declared.doc.Node.{Node}
use Rattle.axml_reader.specs.declared.doc.Node.TheVariants.{NsStart, NsEnd, Start, End, Chars}
use Rattle.axml_reader.specs.Brackets.{IsRooted}
use Rattle.axml_reader.specs.Document.{Document}
use Rattle.axml_reader.specs.Fields.{strings, same_text, words_at}
use Rattle.axml_reader.specs.Numbers.{chars_kind, document_kind, end_kind, map_kind, max_attrs, max_elements}
use Rattle.axml_reader.specs.Numbers.{namespace_end_kind, namespace_start_kind, no_string, pool_kind, start_kind}
use Rattle.axml_reader.specs.Numbers.{string_kind, attr_bytes, attr_kind_offset, attr_word_offset, attrs_offset}
use Rattle.axml_reader.specs.Numbers.{chars_form}
use Rattle.axml_reader.specs.Numbers.{chars_kind_offset, chars_word_offset, count_offset, line_offset, names_form}
use Rattle.axml_reader.specs.Numbers.{node_head, raw_offset, second_offset, start_form, step_offset}
use Rattle.axml_reader.specs.Parts.{Part, Strings, Ids, Item, Other, token, starts_in}

-- a number names one of n strings, or none
abbrev pub IsReference : ℕ → ℕ → Type 0
IsReference count n = (n ≡ no_string) ⊎ (n < count)

-- the field at a place, which names a string or none
pub record IsReferenceAt (bytes : List ℕ) (count place n : ℕ) : Type 0 where
  pub is : n ≡ number32 bytes place
  pub refers : IsReference count n

-- the field at a place, which names a string
pub record IsNameAt (bytes : List ℕ) (count place n : ℕ) : Type 0 where
  pub is : n ≡ number32 bytes place
  pub below : n < count

-- the attribute at a place
pub record IsAttr (bytes : List ℕ) (count place : ℕ) (attr : Attr) : Type 0 where
  pub ns : IsReferenceAt bytes count place attr.ns
  pub name : IsNameAt bytes count (place + second_offset) attr.name
  pub raw : IsReferenceAt bytes count (place + raw_offset) attr.raw
  pub kind_is : attr.kind ≡ slice_index bytes (place + attr_kind_offset)
  pub word_is : attr.word ≡ number32 bytes (place + attr_word_offset)
  pub string : attr.kind ≡ string_kind → attr.word < count

-- attributes, each of `step` bytes, from a place on
pub record AreAttrs (bytes : List ℕ) (count place step n : ℕ) (attrs : List Attr) : Type 0 where
  pub count_is : length attrs ≡ n
  pub each : (k : ℕ) (attr : Attr) → slice_get attrs k ≡ Some attr → IsAttr bytes count (place + k * step) attr

-- a chunk is a node of this kind, and its body is long enough for its form
pub record IsForm (kind form : ℕ) (chunk : Chunk) : Type 0 where
  pub kind_is : chunk.kind ≡ kind
  pub header : node_head ≤ chunk.head
  pub body : form ≤ chunk.size - chunk.head

-- a namespace begins or ends
pub record IsNamespace (bytes : List ℕ) (count place kind : ℕ) (chunk : Chunk) (prefix uri : ℕ) (attrs : List Attr) :
    Type 0 where
  pub form : IsForm kind names_form chunk
  pub prefix_at : IsReferenceAt bytes count (place + chunk.head) prefix
  pub uri_at : IsReferenceAt bytes count (place + chunk.head + second_offset) uri
  pub no_attrs : attrs ≡ []

-- an element begins, of which these are the attributes; n elements came before it
pub record IsStartNode (bytes : List ℕ) (count before place : ℕ) (chunk : Chunk) (line ns name first n : ℕ)
    (attrs : List Attr) : Type 0 where
  pub form : IsForm start_kind start_form chunk
  pub line_is : line ≡ number32 bytes (place + line_offset)
  pub ns_at : IsReferenceAt bytes count (place + chunk.head) ns
  pub name_at : IsNameAt bytes count (place + chunk.head + second_offset) name
  pub first_is : first ≡ before
  pub n_is : n ≡ number16 bytes (place + chunk.head + count_offset)
  pub few : n ≤ max_attrs
  pub begin : 0 < n → start_form ≤ number16 bytes (place + chunk.head + attrs_offset)
  pub step : 0 < n → attr_bytes ≤ number16 bytes (place + chunk.head + step_offset)
  pub within : 0 < n
      → number16 bytes (place + chunk.head + attrs_offset) + n * number16 bytes (place + chunk.head + step_offset)
      ≤ chunk.size - chunk.head
  pub attrs_at : AreAttrs bytes count (place + chunk.head + number16 bytes (place + chunk.head + attrs_offset))
      (number16 bytes (place + chunk.head + step_offset)) n attrs

-- an element ends
pub record IsEndNode (bytes : List ℕ) (count place : ℕ) (chunk : Chunk) (line ns name : ℕ) (attrs : List Attr) : Type 0
  where
    pub form : IsForm end_kind names_form chunk
    pub line_is : line ≡ number32 bytes (place + line_offset)
    pub ns_at : IsReferenceAt bytes count (place + chunk.head) ns
    pub name_at : IsNameAt bytes count (place + chunk.head + second_offset) name
    pub no_attrs : attrs ≡ []

-- character data
pub record IsCharsNode (bytes : List ℕ) (count place : ℕ) (chunk : Chunk) (line text kind word : ℕ) (attrs : List Attr)
    : Type 0 where
  pub form : IsForm chars_kind chars_form chunk
  pub line_is : line ≡ number32 bytes (place + line_offset)
  pub text_at : IsReferenceAt bytes count (place + chunk.head) text
  pub kind_is : kind ≡ slice_index bytes (place + chunk.head + chars_kind_offset)
  pub word_is : word ≡ number32 bytes (place + chunk.head + chars_word_offset)
  pub no_attrs : attrs ≡ []

-- a chunk and where it is
pub record Place : Type 0 where
  pub at : ℕ
  pub chunk : Chunk

-- the node of a chunk, with its attributes
abbrev pub IsNode : List ℕ → ℕ → ℕ → Place → Node → List Attr → Type 0
IsNode bytes count before p (NsStart prefix uri) attrs =
    IsNamespace bytes count p.at namespace_start_kind p.chunk prefix uri attrs
IsNode bytes count before p (NsEnd prefix uri) attrs =
    IsNamespace bytes count p.at namespace_end_kind p.chunk prefix uri attrs
IsNode bytes count before p (Start line ns name first n) attrs =
    IsStartNode bytes count before p.at p.chunk line ns name first n attrs
IsNode bytes count before p (End line ns name) attrs = IsEndNode bytes count p.at p.chunk line ns name attrs
IsNode bytes count before p (Chars line text kind word) attrs =
    IsCharsNode bytes count p.at p.chunk line text kind word attrs

-- a chunk of a kind that is passed over
pub record IsOther (kind : ℕ) : Type 0 where
  pub no_pool : kind ≢ pool_kind
  pub no_map : kind ≢ map_kind
  pub no_namespace_start : kind ≢ namespace_start_kind
  pub no_namespace_end : kind ≢ namespace_end_kind
  pub no_start : kind ≢ start_kind
  pub no_end : kind ≢ end_kind
  pub no_chars : kind ≢ chars_kind

-- the part that the chunk at a place is, after this pool and n attributes
abbrev pub IsPart : List ℕ → Option StringPool → ℕ → ℕ → Chunk → Part → Type 0
IsPart bytes pool before place chunk (Strings strings) = (chunk.kind ≡ pool_kind) × IsPool bytes place chunk strings
IsPart bytes pool before place chunk (Ids ids) =
    (chunk.kind ≡ map_kind) × (ids ≡ words_at bytes (place + chunk.head) ((chunk.size - chunk.head) / 4))
IsPart bytes pool before place chunk (Item node attrs) =
    IsNode bytes (strings pool) before (record { at = place; chunk = chunk }) node attrs
IsPart bytes pool before place chunk Other = IsOther chunk.kind

-- these chunks follow one another, from a place to the end
abbrev pub Fills : List ℕ → ℕ → ℕ → List Place → Type 0
Fills bytes end at [] = at ≡ end
Fills bytes end at (p ∷ ps) = (p.at ≡ at) × IsChunkAt bytes at end p.chunk × Fills bytes end (at + p.chunk.size) ps

-- the pool after a part, and how many attributes a part has
abbrev pub pool_after : Option StringPool → Part → Option StringPool
pool_after pool (Strings strings) = Some strings
pool_after pool (Ids ids) = pool
pool_after pool (Item node attrs) = pool
pool_after pool Other = pool

abbrev pub attr_count : Part → ℕ
attr_count (Strings strings) = 0
attr_count (Ids ids) = 0
attr_count (Item node attrs) = length attrs
attr_count Other = 0

-- chunks are these parts, one after the other; a string number is one of the pool that came before
abbrev pub AreParts : List ℕ → Option StringPool → ℕ → List Place → List Part → Type 0
AreParts bytes pool before [] [] = Unit {0}
AreParts bytes pool before [] (x ∷ xs) = ⊥
AreParts bytes pool before (p ∷ ps) [] = ⊥
AreParts bytes pool before (p ∷ ps) (x ∷ xs) =
    IsPart bytes pool before p.at p.chunk x × AreParts bytes (pool_after pool x) (before + attr_count x) ps xs

-- the pools, the nodes and the attributes among parts
abbrev pub pools_of : List Part → List StringPool
pools_of [] = []
pools_of (Strings pool ∷ rest) = pool ∷ pools_of rest
pools_of (Ids ids ∷ rest) = pools_of rest
pools_of (Item node attrs ∷ rest) = pools_of rest
pools_of (Other ∷ rest) = pools_of rest

abbrev pub nodes_of : List Part → List Node
nodes_of [] = []
nodes_of (Strings pool ∷ rest) = nodes_of rest
nodes_of (Ids ids ∷ rest) = nodes_of rest
nodes_of (Item node attrs ∷ rest) = node ∷ nodes_of rest
nodes_of (Other ∷ rest) = nodes_of rest

abbrev pub attrs_of : List Part → List Attr
attrs_of [] = []
attrs_of (Strings pool ∷ rest) = attrs_of rest
attrs_of (Ids ids ∷ rest) = attrs_of rest
attrs_of (Item node attrs ∷ rest) = attrs ++ attrs_of rest
attrs_of (Other ∷ rest) = attrs_of rest

-- the ids of the last resource map, or those from before
abbrev pub last_ids : List ℕ → List Part → List ℕ
last_ids before [] = before
last_ids before (Strings pool ∷ rest) = last_ids before rest
last_ids before (Ids ids ∷ rest) = last_ids ids rest
last_ids before (Item node attrs ∷ rest) = last_ids before rest
last_ids before (Other ∷ rest) = last_ids before rest

-- Bytes are the layout file of a document: one chunk holds it, other chunks fill that one to its end, and each is a
-- part of the document. There is one string pool, the nodes are a word of brackets with one outermost pair, in which
-- an element's two names have the same text, and few elements begin.
pub record IsDocument (bytes : List ℕ) (doc : Document) : Type 0 where
  pub whole : Chunk
  pub whole_at : IsChunkAt bytes 0 (length bytes) whole
  pub is_xml : whole.kind ≡ document_kind
  pub places : List Place
  pub fills : Fills bytes whole.size whole.head places
  pub parts : List Part
  pub each : AreParts bytes None 0 places parts
  pub pool_is : pools_of parts ≡ doc.pool ∷ []
  pub map_is : doc.map ≡ last_ids [] parts
  pub nodes_are : doc.nodes ≡ nodes_of parts
  pub attrs_are : doc.attrs ≡ attrs_of parts
  pub rooted : IsRooted (same_text (Some doc.pool)) (map token doc.nodes)
  pub few : starts_in (map token doc.nodes) ≤ max_elements
