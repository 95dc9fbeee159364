-- The numbers of definitions: which keys a link may name.
use Rattle.std.specs.Prelude.{ℕ}

-- the keys that a link names are below this
abbrev pub links_end : ℕ
links_end = 0xffff_ffff
