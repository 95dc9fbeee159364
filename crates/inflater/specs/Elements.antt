-- The elements of a document: which are below which.
use Rattle.std.specs.Prelude.{List, [], ◌∷◌}
use Rattle.axml_reader.specs.declared.doc.Node.{Node}
use Rattle.axml_reader.specs.declared.doc.Node.TheVariants.{NsStart, NsEnd, Start, End, Chars}
use Rattle.view_model.specs.Forest.{Forest, Nothing, Branch, joined}

-- an element begins: what comes before its end is below it, what comes after its end is after it
abbrev pub begun : Node → List (Forest Node) → List (Forest Node)
begun node [] = Branch node Nothing Nothing ∷ []
begun node (below ∷ []) = Branch node below Nothing ∷ []
begun node (below ∷ after ∷ outer) = Branch node below after ∷ outer

-- the elements from a node on: those up to the end of the innermost element that is open there, then those up to the
-- end of the one around it, and so on
abbrev pub nested : List Node → List (Forest Node)
nested [] = Nothing ∷ []
nested (NsStart prefix uri ∷ more) = nested more
nested (NsEnd prefix uri ∷ more) = nested more
nested (Start line ns name first count ∷ more) = begun (Start line ns name first count) (nested more)
nested (End line ns name ∷ more) = Nothing ∷ nested more
nested (Chars line text kind word ∷ more) = nested more

-- lists of trees, one after the other
abbrev pub in_a_row : List (Forest Node) → Forest Node
in_a_row [] = Nothing
in_a_row (trees ∷ more) = joined trees (in_a_row more)

-- the elements of a document, each by the node at which it begins
abbrev pub elements : List Node → Forest Node
elements nodes = in_a_row (nested nodes)
