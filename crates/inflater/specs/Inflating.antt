-- The views of a document.
use Rattle.std.specs.Prelude.{ℕ, suc, ◌+◌, Option, Some, None, Result, Ok, Err, slice_get}
use Rattle.attr_table.specs.Taking.{Facets, facets_of}
use Rattle.axml_reader.specs.declared.doc.Node.{Node}
use Rattle.axml_reader.specs.declared.doc.Node.TheVariants.{NsStart, NsEnd, Start, End, Chars}
use Rattle.axml_reader.specs.Document.{Document}
use Rattle.view_model.specs.declared.class.Class.{Class}
use Rattle.view_model.specs.Numbers.{unknown_class}
use Rattle.view_model.specs.Forest.{Forest, Nothing, Branch, count_of}
use Rattle.view_model.specs.Refusals.{◌>>=◌, PlainRefusal, Element}
use Rattle.view_model.specs.Resources.{Entries}
use Rattle.view_model.specs.Sprouts.{Seed}
use Rattle.inflater.specs.ClassNames.{class_in}
use Rattle.inflater.specs.Elements.{elements}

-- a refusal that is reported for an element
abbrev pub refused_in : ℕ → ℕ → PlainRefusal
refused_in element number = record { number = number; reason = Element element }

-- a view, and how many attributes of its element are not known
pub record OneView : Type 0 where
  pub seed : Seed
  pub ignored : ℕ

-- the view of an element of this class whose attributes set this; a class that is not known is refused first
unfoldable pub view_with : ℕ → Option Class → Result Facets PlainRefusal → Result OneView PlainRefusal
view_with element None facets = Err (refused_in element unknown_class)
view_with element (Some class) (Err refusal) = Err (refused_in element refusal.number)
view_with element (Some class) (Ok facets) =
    Ok (record { seed = record { class = class; facts = facets.facts; text = facets.text }; ignored = facets.ignored })

-- the number of the string that is an element's name
abbrev pub name_of : Node → ℕ
name_of (NsStart prefix uri) = 0
name_of (NsEnd prefix uri) = 0
name_of (Start line ns name first count) = name
name_of (End line ns name) = 0
name_of (Chars line text kind word) = 0

-- the view of an element, of which this is the number and the node
abbrev pub view_of : Document → Entries → ℕ → ℕ → Node → Result OneView PlainRefusal
view_of doc resources dpi element node =
    view_with element (class_in (slice_get doc.pool.texts (name_of node))) (facets_of doc resources dpi node)

-- views that are below one another as their elements are, and how many attributes are not known
pub record Plan : Type 0 where
  pub seeds : Forest Seed
  pub ignored : ℕ

-- the views of elements, or the first refusal in the order of the file; the first element has this number
abbrev pub planned : Document → Entries → ℕ → ℕ → Forest Node → Result Plan PlainRefusal
planned doc resources dpi element Nothing = Ok (record { seeds = Nothing; ignored = 0 })
planned doc resources dpi element (Branch node below after) = do
  own ← view_of doc resources dpi element node
  inner ← planned doc resources dpi (suc element) below
  later ← planned doc resources dpi (suc element + count_of below) after
  Ok
      (record
      { seeds = Branch own.seed inner.seeds later.seeds; ignored = own.ignored + (inner.ignored + later.ignored) })

-- the views of a document, whose elements count from 1
abbrev pub inflated : Document → Entries → ℕ → Result Plan PlainRefusal
inflated doc resources dpi = planned doc resources dpi 1 (elements doc.nodes)
