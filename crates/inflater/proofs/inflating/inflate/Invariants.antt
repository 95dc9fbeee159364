use Rattle.std.proofs.Common.{◌≤◌, drop, length}
use Rattle.axml_reader.specs.Meaning.{document}
use Rattle.inflater.proofs.Left.{IsLeftToInflate}
use Rattle.inflater.proofs.PlaceLaws.{placed}
use Rattle.inflater.proofs.RowLaws.{row_of}
use Rattle.inflater.proofs.inflating.inflate.Given as goal

abbrev pub invariant-loop-node : goal.invariant-loop-node
invariant-loop-node l = record {
  within : l.node ≤ length l.doc.nodes.items;
  left : IsLeftToInflate (document l.doc) l.res l.dpi l.depth l.element l.ignored l.sprouts.items (drop l.node l.doc.nodes.items)
      (row_of (document l.doc) l.res l.dpi 1 (placed 0 l.doc.nodes.items));
}
