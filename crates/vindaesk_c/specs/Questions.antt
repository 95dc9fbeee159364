-- What may be asked after a script.
use Rattle.std.specs.Prelude.{ℕ, Bool, ◌&&◌, List, is_some}
use Rattle.whole_tool.specs.Usage.{Usage, name_from, question_usage, side_of}

-- which view gets the focus next, by the words for a side and for a view, if they are such words
abbrev pub asked : List ℕ → List ℕ → Usage
asked side view = question_usage (side_of side) (name_from view)

-- `left`, `right`, `up` or `down`, and a view as a line of a script names it
unfoldable pub can_ask : List ℕ → List ℕ → Bool
can_ask side view = is_some (side_of side) && is_some (name_from view)
