-- A pool that the code is reading, as the definitions see it.
use Rattle.std.specs.Prelude.{map}
use Rattle.std.specs.String.{string_bytes}
use Rattle.axml_chunks.specs.declared.gathering.Gathering.{Gathering}
use Rattle.axml_chunks.specs.Pool.{Gathered}

-- the strings so far by their bytes
abbrev pub gathering : Gathering → Gathered
gathering g = record { texts = map string_bytes g.texts.items; sum = g.sum }
