-- The numbers of the causes for which a file is refused.
use Rattle.std.specs.Prelude.{ℕ}
use Rattle.axml_chunks.specs.declared.cause.Cause.{Cause}
use Rattle.axml_chunks.specs.declared.cause.Cause.TheVariants as cause

abbrev pub cause_number : Cause → ℕ
cause_number cause.Truncated = 1
cause_number cause.BadChunk = 2
cause_number cause.BadPool = 3
cause_number cause.BadString = 4
cause_number cause.NotXml = 5
cause_number cause.BadReference = 6
cause_number cause.Unbalanced = 7
cause_number cause.NoElement = 8
cause_number cause.TwoRoots = 9
cause_number cause.SecondPool = 10
cause_number cause.TooBig = 11
cause_number cause.NotTable = 42
