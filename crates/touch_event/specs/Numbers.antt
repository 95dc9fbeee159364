-- The numbers of definitions: which pointers there are.
use Rattle.std.specs.Prelude.{ℕ}

-- the ids of pointers are below this
abbrev pub max_pointers : ℕ
max_pointers = 32
