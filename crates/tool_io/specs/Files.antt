-- The files of a shelf in memory.
use Rattle.std.specs.Prelude.{ℕ, List, map, string_bytes}
use Rattle.std.specs.declared.alloc.Global.{Global}
use Rattle.std.specs.declared.string.String.{String}
use Rattle.std.specs.declared.vec.Vec.{Vec}

-- the files by the bytes of their names
abbrev pub named_files : List (String Global × Vec ℕ Global) → List (List ℕ × List ℕ)
named_files files = map (λ file. (string_bytes file.0, file.1.items)) files
