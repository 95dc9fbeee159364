-- Entries in the order of their ids.
use Rattle.std.specs.Prelude.{ℕ, ◌<◌, ◌≤◌, List, length, slice_index_or}
use Rattle.std.specs.List.Sorted.{IsNonDecreasingBy}
use Rattle.arsc_reader.specs.declared.held.Entry.{Entry}

-- no entry has a smaller id than one before it
abbrev pub AreOrdered : List Entry → Type 0
AreOrdered entries = IsNonDecreasingBy (λ (entry : Entry). entry.id) entries

-- up to this place the entries have ids of at most `id`, and from it on greater ones
pub record Splits (entries : List Entry) (id place : ℕ) : Type 0 where
  pub within : place ≤ length entries
  pub low : (k : ℕ) (d : Entry) → k < place → (slice_index_or entries k d).id ≤ id
  pub high : (k : ℕ) (d : Entry) → place ≤ k → k < length entries → id < (slice_index_or entries k d).id
