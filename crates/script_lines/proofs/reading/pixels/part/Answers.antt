use Rattle.std.proofs.Common.{ℤ, pos, w32, to_z, of_z, arith}
use Rattle.std.proofs.lemmas.Int.{ints}
use Rattle.line_words.specs.words.Numbers.{IsWithin}
use Rattle.line_words.proofs.texts.BoundLaws.{kept_within}
use Rattle.script_lines.proofs.reading.pixels.part.Goals as goal

kept_point : (n : ℤ) → IsWithin (pos 0) (pos 4095) n → IsWithin (pos 0) (pos 4095) (to_z w32 (of_z w32 n))
kept_point n within = kept_within (pos 0) (pos 4095) n (omega (arith, ints)) (omega (arith, ints)) (omega (arith, ints)) (omega (arith, ints)) within

kept_length : (n : ℤ) → IsWithin (pos 1) (pos 4096) n → IsWithin (pos 1) (pos 4096) (to_z w32 (of_z w32 n))
kept_length n within = kept_within (pos 1) (pos 4096) n (omega (arith, ints)) (omega (arith, ints)) (omega (arith, ints)) (omega (arith, ints)) within

pub is_small-requires-clause-width : goal.is_small-requires-clause-width
is_small-requires-clause-width c = kept_length c.in_ok-w.w c.in_ok-w.ensures.bounds

pub is_small-requires-clause-height : goal.is_small-requires-clause-height
is_small-requires-clause-height c = kept_length c.in_ok-h.h c.in_ok-h.ensures.bounds

pub returns-clause-bounds : goal.returns-clause-bounds
returns-clause-bounds c = (kept_point c.in_ok-x.x c.in_ok-x.ensures.bounds, kept_point c.in_ok-y.y c.in_ok-y.ensures.bounds, kept_length c.in_ok-w.w c.in_ok-w.ensures.bounds, kept_length c.in_ok-h.h c.in_ok-h.ensures.bounds, c.is_small.ensures.small c.if-not-is_small.false)
