-- The forms that the tool's words may have.
use Rattle.std.specs.Prelude.{ℕ, ◌≤◌, ◌==◌, ◌&&◌, nat_le, Bool, if◌then◌else◌, List, [], ◌∷◌, length, Option, Some}
use Rattle.std.specs.Prelude.{None, is_some, codes, string_bytes}
use Rattle.std.specs.List.{list_all}
use Rattle.std.specs.Result.{result_ok}
use Rattle.std.specs.Str.{bytes_eq}
use Rattle.std.specs.declared.alloc.Global.{Global}
use Rattle.std.specs.declared.string.String.{String}
use Rattle.focus_finder.specs.declared.side.Side.{Side}
use Rattle.focus_finder.specs.declared.side.Side.TheVariants.{Left, Right, Up, Down}
use Rattle.line_words.specs.words.FileNames.{is_file_name}
use Rattle.line_words.specs.words.Names.{hex_of, name_of}
use Rattle.line_words.specs.words.Numbers.{natural_of}
use Rattle.line_words.specs.declared.words.naming.Name.{Name}
use Rattle.tool_replies.specs.Lookup.{resource_ids}
use Rattle.whole_tool.specs.declared.focusing.Question.{Question}
use Rattle.whole_tool.specs.declared.usage.Form.{Form}
use Rattle.whole_tool.specs.declared.usage.Form.TheVariants as form
use Rattle.whole_tool.specs.Numbers.{max_ids, max_load}

-- a run of the script on the source, a run of it for a stack of windows, the print of a file, a run of the load of a
-- size, the print of what resources hold in the table of a file, a run of the script with a question after it, or none
pub data Usage : Type 0 where
  Run : Usage
  Stack : Usage
  Dump : (name : List ℕ) → Usage
  Gen : (n : ℕ) → Usage
  Lookup : (name : List ℕ) (ids : List ℕ) → Usage
  Focus : (question : Question) → Usage
  Unknown : Usage

abbrev pub run_usage : List ℕ → Usage
run_usage word = if bytes_eq word (codes "run") then Run else (if bytes_eq word (codes "stack") then Stack else Unknown)

abbrev pub dump_usage : List ℕ → List ℕ → Usage
dump_usage word name = if bytes_eq word (codes "dump") && is_file_name name then Dump name else Unknown

abbrev pub gen_of : Option ℕ → Usage
gen_of None = Unknown
gen_of (Some n) = if nat_le 1 n && nat_le n max_load then Gen n else Unknown

abbrev pub gen_usage : List ℕ → Usage
gen_usage number = gen_of (natural_of number)

abbrev pub pair_usage : List ℕ → List ℕ → Usage
pair_usage word more = if bytes_eq word (codes "gen") then gen_usage more else dump_usage word more

-- the id of a resource has eight hexadecimal digits
abbrev pub is_resource_id : List ℕ → Bool
is_resource_id word = length word == 8 && is_some (hex_of word)

abbrev pub are_ids : List (String Global) → Bool
are_ids words = list_all (λ word. is_resource_id (string_bytes word)) words

abbrev pub lookup_usage : List ℕ → List ℕ → List (String Global) → Usage
lookup_usage word name ids =
    if bytes_eq word (codes "lookup") && is_file_name name && nat_le (length ids) max_ids && are_ids ids
    then Lookup name (resource_ids ids)
    else Unknown

abbrev pub side_of : List ℕ → Option Side
side_of word =
    if bytes_eq word (codes "left") then Some Left else (
    if bytes_eq word (codes "right") then Some Right else (
    if bytes_eq word (codes "up") then Some Up else (
    if bytes_eq word (codes "down") then Some Down else
    None)))

-- the view that a word names as in a line of a script, if it names one
abbrev pub name_from : List ℕ → Option Name
name_from word = result_ok (name_of word)

abbrev pub question_usage : Option Side → Option Name → Usage
question_usage None view = Unknown
question_usage (Some side) None = Unknown
question_usage (Some side) (Some view) = Focus (record { side = side; view = view })

abbrev pub focus_usage : List ℕ → List (String Global) → Usage
focus_usage side [] = Unknown
focus_usage side (view ∷ []) = question_usage (side_of side) (name_from (string_bytes view))
focus_usage side (view ∷ other ∷ more) = Unknown

abbrev pub long_usage : List ℕ → List ℕ → List (String Global) → Usage
long_usage word name more = if bytes_eq word (codes "focus") then focus_usage name more else lookup_usage word name more

-- the form of some words: `run`, `stack`, `dump NAME`, `gen N`, `focus SIDE V`, or `lookup NAME ID ..`
abbrev pub usage : List (String Global) → Usage
usage [] = Unknown
usage (word ∷ []) = run_usage (string_bytes word)
usage (word ∷ more ∷ []) = pair_usage (string_bytes word) (string_bytes more)
usage (word ∷ name ∷ third ∷ more) = long_usage (string_bytes word) (string_bytes name) (third ∷ more)

-- a form as the code has it
abbrev pub form_now : Option Form → Usage
form_now None = Unknown
form_now (Some form.Run) = Run
form_now (Some form.Stack) = Stack
form_now (Some (form.Dump name)) = Dump name.now
form_now (Some (form.Gen n)) = Gen n
form_now (Some (form.Lookup name ids)) = Lookup name.now (resource_ids ids.now)
form_now (Some (form.Focus question)) = Focus question

-- the size of a load is not above the greatest
abbrev pub HasSize : Form → Type 0
HasSize form.Run = Unit {0}
HasSize form.Stack = Unit {0}
HasSize (form.Dump name) = Unit {0}
HasSize (form.Gen n) = n ≤ max_load
HasSize (form.Lookup name ids) = Unit {0}
HasSize (form.Focus question) = Unit {0}
