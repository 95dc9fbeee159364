-- The files of a call in one buffer.
use Rattle.std.specs.Prelude.{◌≡◌, ◌≢◌, ℕ, List, [], ◌∷◌, ◌++◌, length}
use Rattle.std.specs.Int.{w64, to_le_bytes}
use Rattle.tool_io.specs.Fetched.{Files}

-- how many bytes there are, in eight bytes of which the first is the lowest
unfoldable pub packed_length : List ℕ → List ℕ
packed_length bytes = to_le_bytes w64 (length bytes)

-- the length of the name of a file, that of its contents, the name, and the contents
unfoldable pub packed_file : List ℕ → List ℕ → List ℕ
packed_file name contents = packed_length name ++ (packed_length contents ++ (name ++ contents))

-- one file after the other
abbrev pub packed : Files → List ℕ
packed [] = []
packed (file ∷ files) = packed_file file.0 file.1 ++ packed files

-- these are the bytes of some files
abbrev pub ArePacked : List ℕ → Type 0
ArePacked bytes = (held : Files) × (bytes ≡ packed held)

-- there are no files of which these are the bytes
abbrev pub AreBroken : List ℕ → Type 0
AreBroken bytes = (held : Files) → bytes ≢ packed held
