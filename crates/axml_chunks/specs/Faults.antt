-- What may be wrong with a file, each with the place at which it is reported.
use Rattle.std.specs.Prelude.{ℕ}
use Rattle.axml_chunks.specs.declared.cause.Cause.TheVariants as cause
use Rattle.axml_chunks.specs.declared.fault.Fault.{Fault}

-- fewer bytes are left than a part needs
abbrev pub truncated : ℕ → Fault
truncated place = record { cause = cause.Truncated; at = place }

-- a chunk whose numbers no chunk has
abbrev pub bad_chunk : ℕ → Fault
bad_chunk place = record { cause = cause.BadChunk; at = place }

-- a string pool whose numbers no pool has
abbrev pub bad_pool : ℕ → Fault
bad_pool place = record { cause = cause.BadPool; at = place }

-- a string that is cut short, or is no text
abbrev pub bad_string : ℕ → Fault
bad_string place = record { cause = cause.BadString; at = place }

-- the file is no XML document
abbrev pub not_xml : ℕ → Fault
not_xml place = record { cause = cause.NotXml; at = place }

-- a string number that no string has
abbrev pub bad_reference : ℕ → Fault
bad_reference place = record { cause = cause.BadReference; at = place }

-- elements are not closed by their own ends
abbrev pub unbalanced : ℕ → Fault
unbalanced place = record { cause = cause.Unbalanced; at = place }

-- there is no element
abbrev pub no_element : ℕ → Fault
no_element place = record { cause = cause.NoElement; at = place }

-- an element begins after the outermost one
abbrev pub two_roots : ℕ → Fault
two_roots place = record { cause = cause.TwoRoots; at = place }

-- there is a string pool already
abbrev pub second_pool : ℕ → Fault
second_pool place = record { cause = cause.SecondPool; at = place }

-- more of something than is taken
abbrev pub too_big : ℕ → Fault
too_big place = record { cause = cause.TooBig; at = place }

-- the file is no resource table
abbrev pub not_table : ℕ → Fault
not_table place = record { cause = cause.NotTable; at = place }
