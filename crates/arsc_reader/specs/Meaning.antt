-- A reader of the code, as that of the definitions.
use Rattle.arsc_reader.specs.declared.reading.Reading.{Reading}
use Rattle.arsc_reader.specs.Contents.{Contents}
use Rattle.arsc_reader.specs.Reading.{Found}

abbrev pub found : Reading → Found
found r = record { pool = r.pool; entries = r.entries.items; count = r.count }

-- what it has read, as a table
abbrev pub contents : Reading → Contents
contents r = record { pool = r.pool; entries = r.entries.items }
