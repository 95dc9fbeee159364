-- Rows of cells.
use Rattle.std.specs.Prelude.{ℕ, ◌<◌}

-- a row has at least one cell
abbrev pub HasCells : ℕ → Type 0
HasCells cells = 0 < cells
