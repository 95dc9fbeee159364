use Rattle.std.proofs.Common.{◌≡◌, drop, []}
use Rattle.tool_io.specs.Fetched.{file_of}
use Rattle.tool_io.specs.Files.{named_files}
use Rattle.tool_io.proofs.steady_shelf.SteadyShelfShelf.fetch.Given as goal

-- the file is among those that are left, if it is there
abbrev pub invariant-loop-held : goal.invariant-loop-held
invariant-loop-held l = record {
  left : file_of (named_files (drop l.held-index l.held-items)) l.name ≡ file_of l.fn.self l.name;
  empty : l.into.items ≡ [];
}
