-- The hook of a view: edits that are made once the view has another size.
use Rattle.std.specs.Prelude.{ℕ, Bool, true, false, if◌then◌else◌, List, [], ◌++◌, map, take, drop, codes, Option}
use Rattle.std.specs.Prelude.{Some, None, Result, Ok, Err}
use Rattle.std.specs.List.{filter_map, list_any, slice_split}
use Rattle.std.specs.Str.{bytes_eq}
use Rattle.view_model.specs.Numbers.{max_edits}
use Rattle.script_lines.specs.reading.Changes.{change_by}
use Rattle.script_lines.specs.reading.Verbs.{change_named, verb_named}
use Rattle.line_words.specs.words.Names.{known, name_in}
use Rattle.line_words.specs.words.Words.{◌>>=◌, map_ok, word_in, words}
use Rattle.script_lines.specs.declared.commands.Asked.{Asked}
use Rattle.line_words.specs.declared.fault.LineFault.{LineFault}
use Rattle.line_words.specs.declared.fault.LineFault.TheVariants.{Syntax, Range}
use Rattle.script_lines.specs.declared.verbs.ChangeVerb.{ChangeVerb}

-- `;`, which separates two edits
abbrev pub parts_edits : List ℕ → Bool
parts_edits word = bytes_eq word (codes ";")

-- what an edit asks for, by its first word and the words after that: `V`, and what is changed of that view
unfoldable pub asked_of : ChangeVerb → List (List ℕ) → Result Asked LineFault
asked_of verb words = do
  view ← name_in words
  map_ok (λ change. record { view = view.0; change = change }) (change_by verb view.1)

-- an edit of which only the first word is read, that of some line: no hook can make it, so it asks for nothing
unfoldable pub unmade_of : List (List ℕ) → Result (Option Asked) LineFault
unmade_of edit = do
  head ← word_in edit
  map_ok (λ _. None) (known (verb_named head.0))

-- an edit, by what its first word changes and the words after that, if a hook can make it
abbrev pub edit_by : List (List ℕ) → Option ChangeVerb → List (List ℕ) → Result (Option Asked) LineFault
edit_by edit (Some verb) words = map_ok Some (asked_of verb words)
edit_by edit None words = unmade_of edit

-- an edit that is read to its end, if a hook can make it
unfoldable pub edit_of : List (List ℕ) → Result (Option Asked) LineFault
edit_of edit = do
  head ← word_in edit
  edit_by edit (change_named head.0) head.1

-- edits one by one: n of them are read to their ends, if a hook can make them
abbrev pub readings_of : ℕ → List (List (List ℕ)) → List (Result (Option Asked) LineFault)
readings_of most edits = map edit_of (take most edits) ++ map unmade_of (drop most edits)

abbrev pub is_syntax : Result (Option Asked) LineFault → Bool
is_syntax (Err Syntax) = true
is_syntax (Err Range) = false
is_syntax (Ok asked) = false

abbrev pub is_range : Result (Option Asked) LineFault → Bool
is_range (Err Syntax) = false
is_range (Err Range) = true
is_range (Ok asked) = false

abbrev pub is_unmade : Result (Option Asked) LineFault → Bool
is_unmade (Ok None) = true
is_unmade (Ok (Some asked)) = false
is_unmade (Err fault) = false

abbrev pub asked_in : Result (Option Asked) LineFault → Option Asked
asked_in (Ok asked) = asked
asked_in (Err fault) = None

-- what edits ask for, and whether there is one that no hook can make
-- A fault of the grammar counts before a number outside its bounds, in whichever edits the two are.
unfoldable pub joined : List (Result (Option Asked) LineFault) → Result (List Asked × Bool) LineFault
joined readings =
    if list_any is_syntax readings then Err Syntax else (
    if list_any is_range readings then Err Range else
    Ok (filter_map asked_in readings, list_any is_unmade readings))

-- `E ; E ..`, one edit or more
unfoldable pub edits_of : List (List ℕ) → Result (List Asked × Bool) LineFault
edits_of words = joined (readings_of max_edits (slice_split parts_edits words))

-- the edits that these words give, none if a fault is among them
abbrev pub edits_given : Result (List Asked × Bool) LineFault → List Asked
edits_given (Ok edits) = edits.0
edits_given (Err fault) = []

-- the edits of a hook by the text of its line after the view
unfoldable pub edits_written : List ℕ → List Asked
edits_written text = edits_given (edits_of (words text))
