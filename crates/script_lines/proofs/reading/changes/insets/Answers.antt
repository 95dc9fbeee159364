use Rattle.std.proofs.Common.{ℤ, pos, negsuc, ◌≤ℤ◌, w32, w64, FitsSigned, to_z, of_z, arith}
use Rattle.std.proofs.lemmas.Int.{ints}
use Rattle.line_words.specs.words.Numbers.{IsWithin}
use Rattle.line_words.proofs.texts.BoundLaws.{kept_within}
use Rattle.script_lines.proofs.reading.changes.insets.Goals as goal

kept : (low n : ℤ) → FitsSigned w64 low → negsuc 2147483646 ≤ℤ low → IsWithin (to_z w64 (of_z w64 low)) (pos 1048575) n → IsWithin low (pos 1048575) (to_z w32 (of_z w32 n))
kept low n fits least within = kept_within low (pos 1048575) n fits (omega (arith, ints)) least (omega (arith, ints)) within

pub returns-clause-left : goal.returns-clause-left
returns-clause-left c = kept c.args.low c.in_ok-left.left c.ranges.low c.requires c.in_ok-left.ensures.bounds

pub returns-clause-top : goal.returns-clause-top
returns-clause-top c = kept c.args.low c.in_ok-top.top c.ranges.low c.requires c.in_ok-top.ensures.bounds

pub returns-clause-right : goal.returns-clause-right
returns-clause-right c = kept c.args.low c.in_ok-right.right c.ranges.low c.requires c.in_ok-right.ensures.bounds

pub returns-clause-bottom : goal.returns-clause-bottom
returns-clause-bottom c = kept c.args.low c.in_ok-bottom.bottom c.ranges.low c.requires c.in_ok-bottom.ensures.bounds
