-- What a shelf of files returns for a fetch.
use Rattle.std.specs.Prelude.{◌≡◌, ◌≢◌, ℕ, ◌≤◌, ◌<◌, length, List, [], ◌∷◌, Option, Some, None, if◌then◌else◌}
use Rattle.std.specs.Prelude.{IsSomeAnd, Result, Ok, Err}
use Rattle.std.specs.Str.{bytes_eq}
use Rattle.tool_io.specs.Counts.{raised}
use Rattle.tool_io.specs.declared.shelf.Found.{Found}
use Rattle.tool_io.specs.declared.shelf.Found.TheVariants.{Whole, Missing, Long}
use Rattle.tool_io.specs.declared.shelf.ShelfFault.{ShelfFault}
use Rattle.tool_io.specs.declared.shelf.ShelfFault.TheVariants.{Failed, NoMemory}

-- the files that a shelf holds, by the bytes of their names
abbrev pub Files : Type 0
Files = List (List ℕ × List ℕ)

-- the file of this name: the first of equal names
abbrev pub file_of : Files → List ℕ → Option (List ℕ)
file_of [] name = None
file_of (file ∷ files) name = if bytes_eq file.0 name then Some file.1 else file_of files name

-- what a fetch of a name returns and leaves, with a limit
abbrev pub Fetched : Files → List ℕ → ℕ → Found → List ℕ → Type 0
Fetched files name limit Whole bytes = (file_of files name ≡ Some bytes) × (length bytes ≤ limit)
Fetched files name limit Missing bytes = file_of files name ≡ None
Fetched files name limit Long bytes = IsSomeAnd (file_of files name) (λ file. limit < length file)

-- The count of failed calls after a fetch: one that ended left it as it was, one that failed raised it by one. Running
-- out of memory may count as a failed call.
abbrev pub CountsFetch : ℕ → ℕ → Result Found ShelfFault → Type 0
CountsFetch before now (Ok found) = now ≡ before
CountsFetch before now (Err Failed) = now ≡ raised before
CountsFetch before now (Err NoMemory) = before ≤ now

-- no more bytes than this
abbrev pub IsWithinLimit : ℕ → List ℕ → Type 0
IsWithinLimit limit bytes = length bytes ≤ limit

-- there are bytes only of a file that was read whole
abbrev pub IsEmptyUnlessWhole : Result Found ShelfFault → List ℕ → Type 0
IsEmptyUnlessWhole result bytes = result ≢ Ok Whole → bytes ≡ []
