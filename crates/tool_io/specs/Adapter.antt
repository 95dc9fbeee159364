-- An adapter over something outside the program.
use Rattle.std.specs.Prelude.{ℕ}

-- what the adapter wraps, and how many of its calls have failed
pub record Adapter (D : Type 0) : Type 0 where
  pub device : D
  pub faults : ℕ
