use Rattle.std.proofs.Common.{◌≡◌, ◌+◌, ◌≤◌, drop}
use Rattle.attr_table.specs.Taking.{with_attrs}
use Rattle.attr_table.proofs.taking.take_attrs.Given as goal

abbrev pub invariant-loop-attr : goal.invariant-loop-attr
invariant-loop-attr l = record {
  left : with_attrs l.source.doc.now.pool l.source.res.now l.source.dpi (drop l.attr-index l.attrs) l.draft ≡ with_attrs l.source.doc.now.pool l.source.res.now l.source.dpi l.attrs l.fn.draft;
  few : l.draft.ignored ≤ l.fn.draft.ignored + l.attr-index;
}
