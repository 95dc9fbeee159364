use Rattle.std.proofs.Common.{◌≡◌}
use Rattle.std.specs.Slice.Iter.{iter_rest}
use Rattle.line_words.specs.words.Escapes.{has_escapes}
use Rattle.line_words.proofs.words.escapes.has_escapes.Given as goal

abbrev pub invariant-loop-b : goal.invariant-loop-b
invariant-loop-b l = record {
  can : (goal.iterator-loop-b).can_next l.bytes;
  ends : (goal.iterator-loop-b).is_finite l.bytes;
  rest : has_escapes (iter_rest l.bytes) ≡ has_escapes l.text;
}
