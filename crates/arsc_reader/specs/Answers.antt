-- What reading a table may return.
use Rattle.std.specs.Prelude.{◌≡◌, ℕ, Result, Ok, Err}
use Rattle.axml_chunks.specs.declared.fault.Fault.{Fault}
use Rattle.axml_chunks.specs.declared.fault.ReadFault.{ReadFault}
use Rattle.axml_chunks.specs.Steps.{Fails}
use Rattle.arsc_reader.specs.Contents.{Contents}
use Rattle.arsc_reader.specs.Table.{value_of}

-- a table represents what was read: it has the same strings, and each resource holds the same
pub record RepresentsTable (table : Contents) (read : Result Contents Fault) : Type 0 where
  pub whole : Contents
  pub whole_is : read ≡ Ok whole
  pub pool_is : table.pool ≡ whole.pool
  pub values : (id : ℕ) → value_of table.entries id ≡ value_of whole.entries id

-- a call returns a table of what the reading gives, or its fault, unless memory ran out
abbrev pub ReadsTable : Result Contents ReadFault → Result Contents Fault → Type 0
ReadsTable (Ok table) read = RepresentsTable table read
ReadsTable (Err e) read = Fails e read
