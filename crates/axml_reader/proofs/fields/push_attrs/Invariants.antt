use Rattle.std.proofs.Common.{◌≡◌, ◌+◌, ◌≤◌, length, Ok}
use Rattle.axml_reader.specs.Fields.{attrs_upto}
use Rattle.axml_reader.proofs.fields.push_attrs.Given as goal

abbrev pub invariant-loop-k : goal.invariant-loop-k
invariant-loop-k l = record {
  attrs : attrs_upto l.bytes l.count l.head.place l.head.step l.fn.attrs.items l.k ≡ Ok l.attrs.items;
  len : length l.attrs.items ≤ length l.fn.attrs.items + l.k;
}
