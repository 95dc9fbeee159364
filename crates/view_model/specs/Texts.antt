-- How long the text of a view may be.
use Rattle.std.specs.Prelude.{ℕ, ◌<◌, List, length}
use Rattle.view_model.specs.Numbers.{text_end}

abbrev pub IsShortText : List ℕ → Type 0
IsShortText text = length text < text_end
