-- The edits of a hook that are read so far.
use Rattle.std.specs.Prelude.{ℕ, nat_lt, Bool, ◌||◌, if◌then◌else◌, List, [], ◌++◌, Option, Result, Ok, Err}
use Rattle.std.specs.List.{filter_map, list_any}
use Rattle.script_lines.specs.reading.Hooks.{asked_in, edit_of, is_range, is_syntax, is_unmade, readings_of, unmade_of}
use Rattle.line_words.specs.words.Words.{◌>>=◌}
use Rattle.script_lines.specs.declared.commands.Asked.{Asked}
use Rattle.line_words.specs.declared.fault.LineFault.{LineFault}
use Rattle.line_words.specs.declared.fault.LineFault.TheVariants.{Syntax, Range}
use Rattle.script_lines.specs.declared.reading.hooks.Gathered.{Gathered}

-- the next edit, if n more are read to their ends
unfoldable pub reading_of : ℕ → List (List ℕ) → Result (Option Asked) LineFault
reading_of left edit = if nat_lt 0 left then edit_of edit else unmade_of edit

-- what a hook asks for: what its first edits do, whether one of those can't be made, whether a number in them is
-- outside its bounds, and how its other edits are read
unfoldable pub joined_after : List Asked → Bool → Bool → List (Result (Option Asked) LineFault)
    → Result (List Asked × Bool) LineFault
joined_after asked bad range readings =
    if list_any is_syntax readings then Err Syntax else (
    if range || list_any is_range readings then Err Range else
    Ok (asked ++ filter_map asked_in readings, bad || list_any is_unmade readings))

-- what a hook asks for that goes on with these edits
abbrev pub edits_after : Gathered → List (List (List ℕ)) → Result (List Asked × Bool) LineFault
edits_after gathered edits =
    joined_after gathered.edits.items gathered.bad gathered.range (readings_of gathered.left edits)

-- a reading after another: the first fault counts
abbrev pub following : {A B : Type 0} → Result A LineFault → Result B LineFault → Result B LineFault
following first next = first >>= λ _. next

-- what a hook asks for, all of whose edits are read
abbrev pub edits_in : Result Gathered LineFault → Result (List Asked × Bool) LineFault
edits_in gathered = gathered >>= λ gathered. edits_after gathered []
