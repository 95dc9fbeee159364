-- Counts of calls, which end at the greatest u64.
use Rattle.std.specs.Prelude.{ℕ, ◌+◌, ◌≤◌, max, Bool, if◌then◌else◌}
use Rattle.std.specs.Io.Iter.{u64_saturate}

-- one more, up to the greatest u64
unfoldable pub raised : ℕ → ℕ
raised count = max count (u64_saturate (count + 1))

-- the count of failed calls after one more call, which succeeded or failed
abbrev pub faults_after : ℕ → Bool → ℕ
faults_after faults succeeded = if succeeded then faults else raised faults

-- a call has failed: a count rose, or is at its end
abbrev pub Rose : ℕ → ℕ → Type 0
Rose before now = raised before ≤ now
