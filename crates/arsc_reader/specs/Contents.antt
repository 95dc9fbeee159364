-- What a table holds, and what a reader of the code has read of it.
use Rattle.std.specs.Prelude.{List, Option}
use Rattle.axml_chunks.specs.Pool.{StringPool}
use Rattle.arsc_reader.specs.declared.held.Entry.{Entry}

-- the strings of a table, and its entries
pub record Contents : Type 0 where
  pub pool : Option StringPool
  pub entries : List Entry
