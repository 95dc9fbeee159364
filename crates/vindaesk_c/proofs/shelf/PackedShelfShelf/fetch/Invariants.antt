use Rattle.std.proofs.Common.{◌≡◌, drop, []}
use Rattle.tool_io.specs.Fetched.{file_of}
use Rattle.vindaesk_c.specs.FilesNow.{files_now}
use Rattle.vindaesk_c.proofs.shelf.PackedShelfShelf.fetch.Given as goal

-- the file is among those that are left, if it is there
abbrev pub invariant-loop-file : goal.invariant-loop-file
invariant-loop-file l = record {
  left : file_of (files_now (drop l.file-index l.file-items)) l.name ≡ file_of l.fn.self l.name;
  empty : l.into.items ≡ [];
}
