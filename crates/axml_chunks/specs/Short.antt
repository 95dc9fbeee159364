-- How long the strings of a pool may be.
use Rattle.std.specs.Prelude.{ℕ, ◌≤◌, List, length}
use Rattle.axml_chunks.specs.Limits.{max_text}

-- a text is no longer than all strings of a pool together may be
abbrev pub IsShort : List ℕ → Type 0
IsShort text = length text ≤ max_text
