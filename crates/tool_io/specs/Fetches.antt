-- What a shelf shows of the calls on it.
use Rattle.std.specs.Prelude.{ℕ, List, [], ◌∷◌, ◌++◌, fold}
use Rattle.tool_io.specs.Counts.{raised}

-- what a call asks for: the file of this name, if it has at most this many bytes
pub record Fetch : Type 0 where
  pub name : List ℕ
  pub limit : ℕ

-- what a shelf shows of the calls that were made, whether they have failed or not
pub data Fetches : Type 0 where
  -- nothing
  Unseen : Fetches
  -- how many they are, up to the greatest u64
  Counted : ℕ → Fetches
  -- what each has asked for, in their order
  Listed : List Fetch → Fetches

-- after one more call
abbrev pub with_fetch : Fetches → Fetch → Fetches
with_fetch Unseen fetch = Unseen
with_fetch (Counted count) fetch = Counted (raised count)
with_fetch (Listed fetches) fetch = Listed (fetches ++ fetch ∷ [])

-- after more calls, in this order
abbrev pub with_fetches : Fetches → List Fetch → Fetches
with_fetches seen fetches = fold with_fetch seen fetches
