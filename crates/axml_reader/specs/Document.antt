-- A document, and what was read of one so far.
use Rattle.std.specs.Prelude.{ℕ, List, Option}
use Rattle.axml_chunks.specs.Pool.{StringPool}
use Rattle.axml_reader.specs.declared.doc.Attr.{Attr}
use Rattle.axml_reader.specs.declared.doc.Node.{Node}
use Rattle.axml_reader.specs.Brackets.{Stack}

-- the strings, the ids of the resource map, the nodes in order, and the attributes of all elements in order
pub record Document : Type 0 where
  pub pool : StringPool
  pub map : List ℕ
  pub nodes : List Node
  pub attrs : List Attr

-- what was read so far: the parts of the document, which elements are open, and how many have begun
pub record State : Type 0 where
  pub pool : Option StringPool
  pub map : List ℕ
  pub nodes : List Node
  pub attrs : List Attr
  pub stack : Stack
  pub starts : ℕ
