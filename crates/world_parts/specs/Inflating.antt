-- The views that a layout file gives, and where they go.
use Rattle.std.specs.Prelude.{ℕ, nat_lt, if◌then◌else◌, List, length, Option, Some, None, Result, Ok, Err}
use Rattle.axml_chunks.specs.Causes.{cause_number}
use Rattle.axml_chunks.specs.declared.fault.Fault.{Fault}
use Rattle.axml_reader.specs.Decoding.{decoded}
use Rattle.axml_reader.specs.Document.{Document}
use Rattle.inflater.specs.Inflating.{Plan, inflated}
use Rattle.script_lines.specs.commands.PlainCommands.{PlainCommand}
use Rattle.script_lines.specs.commands.PlainCommands as command
use Rattle.line_words.specs.declared.words.naming.Name.{Name}
use Rattle.tool_io.specs.Fetched.{Files, file_of}
use Rattle.view_model.specs.Forest.{Forest, Nothing, Branch}
use Rattle.view_model.specs.PlainTree.{PlainView}
use Rattle.view_model.specs.Refusals.{◌>>=◌, PlainRefusal, AtPlace, refusal_numbered}
use Rattle.view_model.specs.Resources.{Entries}
use Rattle.world_parts.specs.World.{World}
use Rattle.view_model.specs.Numbers.{has_root, long_file, max_file, missing_file, no_root, no_view}
use Rattle.world_parts.specs.Naming.{named}
use Rattle.std.specs.Prelude.{◌≡◌, pos}
use Rattle.view_model.specs.Forest.{EveryRow}
use Rattle.view_model.specs.Sprouts.{Seed}

-- the bytes of a file, if there is one and it is not too long
abbrev pub bytes_in : Option (List ℕ) → Result (List ℕ) PlainRefusal
bytes_in None = Err (refusal_numbered missing_file)
bytes_in (Some bytes) = if nat_lt max_file (length bytes) then Err (refusal_numbered long_file) else Ok bytes

-- a fault is reported with its place
abbrev pub fault_refusal : Fault → PlainRefusal
fault_refusal fault = record { number = cause_number fault.cause; reason = AtPlace fault.at }

abbrev pub document_of : Result Document Fault → Result Document PlainRefusal
document_of (Ok document) = Ok document
document_of (Err fault) = Err (fault_refusal fault)

-- the views that the bytes of a file give
abbrev pub views_in : List ℕ → Entries → ℕ → Result Plan PlainRefusal
views_in bytes resources dpi = document_of (decoded bytes) >>= λ document. inflated document resources dpi

-- the views that the file of a name gives
abbrev pub views_of : Files → List ℕ → Entries → ℕ → Result Plan PlainRefusal
views_of files name resources dpi = bytes_in (file_of files name) >>= λ bytes. views_in bytes resources dpi

-- the view that a name means, if there is one
abbrev pub place_named : Option ℕ → Result (Option ℕ) PlainRefusal
place_named None = Err (refusal_numbered no_view)
place_named (Some number) = Ok (Some number)

-- the view below which the tree of a file goes, none if it goes as the root; or why it goes nowhere
abbrev pub place_in : Forest PlainView → Option Name → Result (Option ℕ) PlainRefusal
place_in Nothing None = Ok None
place_in Nothing (Some name) = Err (refusal_numbered no_root)
place_in (Branch root below after) None = Err (refusal_numbered has_root)
place_in (Branch root below after) (Some name) = place_named (named (Branch root below after) name)

-- the file of an `inflate` line, and where its tree goes
abbrev pub inflation_of : PlainCommand → Option (List ℕ × Option Name)
inflation_of (command.Inflate name into) = Some (name, into)
inflation_of (command.Window w h) = None
inflation_of (command.Dpi dpi) = None
inflation_of (command.Res id value) = None
inflation_of (command.Add parent class width height) = None
inflation_of (command.Remove view) = None
inflation_of (command.Act view act) = None
inflation_of (command.SetText view text) = None
inflation_of (command.Disallow view on) = None
inflation_of (command.Hook view edits bad) = None
inflation_of (command.Down p x y) = None
inflation_of (command.Move p x y) = None
inflation_of (command.Up p) = None
inflation_of command.Cancel = None
inflation_of command.Frame = None
inflation_of (command.Bounds view) = None
inflation_of (command.Pixels x y w h) = None
inflation_of command.Digest = None
inflation_of command.Save = None
inflation_of (command.Restore text) = None

-- the name of a file, if its tree has a place
abbrev pub asked_at : List ℕ → Result (Option ℕ) PlainRefusal → Option (List ℕ)
asked_at name (Ok place) = Some name
asked_at name (Err refusal) = None

abbrev pub asked_for : Forest PlainView → Option (List ℕ × Option Name) → Option (List ℕ)
asked_for tree None = None
asked_for tree (Some inflation) = asked_at inflation.0 (place_in tree inflation.1)

-- the name of the file that a command asks the shelf for, unless it is refused before
abbrev pub asked_file : World → PlainCommand → Option (List ℕ)
asked_file world line = asked_for world.tree (inflation_of line)

-- no view of these is scrolled
abbrev pub AreUnscrolled : Forest Seed → Type 0
AreUnscrolled seeds = EveryRow (λ (seed : Seed). seed.facts.offset ≡ pos 0) seeds
