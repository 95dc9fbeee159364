-- Which numbers refusals have.
use Rattle.std.specs.Prelude.{ℕ, ◌≤◌}
use Rattle.view_model.specs.Numbers.{last_refusal}

abbrev pub IsFirstOrLater : ℕ → Type 0
IsFirstOrLater number = 1 ≤ number

abbrev pub IsLastOrEarlier : ℕ → Type 0
IsLastOrEarlier number = number ≤ last_refusal
