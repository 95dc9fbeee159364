-- The files that a call has at hand.
use Rattle.std.specs.Prelude.{List, map}
use Rattle.tool_io.specs.Fetched.{Files}
use Rattle.vindaesk_c.specs.declared.packing.PackedFile.{PackedFile}

-- the files as a shelf holds them
abbrev pub files_now : List PackedFile → Files
files_now files = map (λ file. (file.name.now, file.contents.now)) files
