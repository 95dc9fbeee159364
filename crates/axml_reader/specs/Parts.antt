-- What the chunks of a document are.
use Rattle.std.specs.Prelude.{ℕ, ◌+◌, List, [], ◌∷◌, ◌++◌, Some}
use Rattle.axml_chunks.specs.Pool.{StringPool}
use Rattle.axml_reader.specs.declared.doc.Attr.{Attr}
use Rattle.axml_reader.specs.declared.doc.Node.{Node}
use Rattle.axml_reader.specs.declared.doc.Node.TheVariants.{NsStart, NsEnd, Start, End, Chars}
use Rattle.axml_reader.specs.Brackets.{Token, Opens, Closes, Plain, turned}
use Rattle.axml_reader.specs.Document.{State}

-- a string pool, the ids of a resource map, a node with the attributes of its element, or a chunk that is passed over
pub data Part : Type 0 where
  Strings : StringPool → Part
  Ids : List ℕ → Part
  Item : Node → List Attr → Part
  Other : Part

-- an element's begin and end are brackets with its name
abbrev pub token : Node → Token
token (NsStart prefix uri) = Plain
token (NsEnd prefix uri) = Plain
token (Start line ns name first count) = Opens name
token (End line ns name) = Closes name
token (Chars line text kind word) = Plain

-- how many elements begin
abbrev pub starts_of : Token → ℕ
starts_of Plain = 0
starts_of (Opens a) = 1
starts_of (Closes b) = 0

-- how many elements begin in a word
abbrev pub starts_in : List Token → ℕ
starts_in [] = 0
starts_in (t ∷ rest) = starts_of t + starts_in rest

-- what was read, with one part more
abbrev pub with_part : State → Part → State
with_part s (Strings pool) = record s { pool = Some pool }
with_part s (Ids ids) = record s { map = ids }
with_part s (Item node attrs) =
    record s {
      nodes = s.nodes ++ node ∷ [];
      attrs = s.attrs ++ attrs;
      stack = turned s.stack (token node);
      starts = s.starts + starts_of (token node);
    }
with_part s Other = s
