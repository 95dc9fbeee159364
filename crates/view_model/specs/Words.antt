-- What words name, in lines of scripts and in layout files.
use Rattle.std.specs.Prelude.{ℕ, if◌then◌else◌, List, [], ◌∷◌, Option, Some, None}
use Rattle.std.specs.Str.{bytes_eq}

-- the first of these whose word this is
abbrev pub named : {A : Type 0} → (A → List ℕ) → List A → List ℕ → Option A
named word_of [] word = None
named word_of (a ∷ more) word = if bytes_eq word (word_of a) then Some a else named word_of more word
