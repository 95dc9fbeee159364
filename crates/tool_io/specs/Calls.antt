-- The calls on an object in memory.
use Rattle.std.specs.Prelude.{ℕ, List, Bool, ◌==◌}
use Rattle.std.specs.List.{list_any}
use Rattle.tool_io.specs.Counts.{raised}

-- the numbers, from 1 on, of the calls that are to fail, how many calls were made, and how many have failed
pub record CallsMade : Type 0 where
  pub fails : List ℕ
  pub made : ℕ
  pub faults : ℕ

-- before the first call
abbrev pub no_calls : List ℕ → CallsMade
no_calls fails = record { fails = fails; made = 0; faults = 0 }

-- the next call is one that is to fail
abbrev pub fails_next : CallsMade → Bool
fails_next calls = list_any (λ number. number == raised calls.made) calls.fails

-- one more call was made
abbrev pub after_call : CallsMade → CallsMade
after_call calls = record calls { made = raised calls.made }

-- one more call has failed
abbrev pub after_failed : CallsMade → CallsMade
after_failed calls = record calls { faults = raised calls.faults }
