use Rattle.std.proofs.Common.{ℤ, pos, negsuc, w32, to_z, of_z, arith}
use Rattle.std.proofs.lemmas.Int.{ints}
use Rattle.line_words.specs.words.Numbers.{IsWithin}
use Rattle.line_words.proofs.texts.BoundLaws.{kept_within}
use Rattle.script_lines.proofs.reading.touches.read_touch.Goals as goal

kept : (n : ℤ) → IsWithin (negsuc 1048575) (pos 1048576) n → IsWithin (negsuc 1048575) (pos 1048576) (to_z w32 (of_z w32 n))
kept n within = kept_within (negsuc 1048575) (pos 1048576) n (omega (arith, ints)) (omega (arith, ints)) (omega (arith, ints)) (omega (arith, ints)) within

pub returns-clause-bounds : goal.returns-clause-bounds
returns-clause-bounds c = (c.in_ok-pointer.ensures.bounds, kept c.in_ok-x-2.x c.in_ok-x-2.ensures.bounds, kept c.in_ok-y-2.y c.in_ok-y-2.ensures.bounds)
