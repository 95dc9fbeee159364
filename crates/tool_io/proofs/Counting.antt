-- Counts of failed calls.
use Rattle.std.proofs.Common.{◌≡◌, ℕ, ◌+◌, ◌-◌, ◌^◌, ◌<◌, ◌≤◌, min, is_ok, arith}
use Rattle.std.specs.Prelude.{Result, Ok, Err}
use Rattle.tool_io.specs.Counts.{raised, faults_after}
use Rattle.tool_io.specs.Fetched.{CountsFetch}
use Rattle.tool_io.specs.declared.shelf.Found.{Found}
use Rattle.tool_io.specs.declared.shelf.ShelfFault.{ShelfFault}
use Rattle.tool_io.specs.declared.shelf.ShelfFault.TheVariants.{Failed, NoMemory}

-- a count in a u64 goes up by one, and stays at the greatest u64
pub raised_saturates : (count : ℕ) → count < 2 ^ 64 → raised count ≡ min (count + 1) (2 ^ 64 - 1)
unfolding raised
raised_saturates count bound = omega (arith, bound)

-- a count that goes up does not fall
pub raised_later : (count : ℕ) → count ≤ raised count
unfolding raised
raised_later count = omega arith

-- a count of each failed call, including one that ran out of memory
pub counts_each : (before now : ℕ) (outcome : Result Found ShelfFault) → now ≡ faults_after before (is_ok outcome) → CountsFetch before now outcome
counts_each before now (Ok found) counted = counted
counts_each before now (Err Failed) counted = counted
counts_each before now (Err NoMemory) counted = omega (arith, counted, raised_later before)
