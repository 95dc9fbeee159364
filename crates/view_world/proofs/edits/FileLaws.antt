-- Files at hand: what is asked for, and that a command that asks for none does the same with any.
use Rattle.std.proofs.Common.{◌≡◌, ◌≢◌, ℕ, List, [], refl, ap, sym, subst, arith}
use Rattle.std.specs.Prelude.{Option, None, Some, Result, Ok, Err}
use Rattle.script_lines.specs.commands.PlainCommands.{PlainCommand}
use Rattle.script_lines.specs.commands.PlainCommands as command
use Rattle.line_words.specs.declared.words.naming.Name.{Name}
use Rattle.tool_io.specs.Fetched.{Files}
use Rattle.tool_io.specs.Fetches.{Fetches}
use Rattle.world_parts.specs.World.{World}
use Rattle.world_parts.specs.Shelves.{AsksShelf, CountsShelf}
use Rattle.world_parts.specs.Inflating.{inflation_of}
use Rattle.view_world.specs.world.Step.{inflation, step}
use Rattle.world_parts.specs.declared.fault.StepFault.{StepFault}
use Rattle.world_parts.specs.declared.fault.StepFault.TheVariants as fault

-- a command that takes no file does the same with any files at hand
pub unaided : (files : Files) (world : World) (line : PlainCommand) → inflation_of line ≡ None → step files world line ≡ step [] world line
unaided files world (command.Window w h) none = refl
unaided files world (command.Dpi dpi) none = refl
unaided files world (command.Res id value) none = refl
unaided files world (command.Inflate name into) none = absurd cc
unaided files world (command.Add None class width height) none = refl
unaided files world (command.Add (Some parent) class width height) none = refl
unaided files world (command.Remove view) none = refl
unaided files world (command.Act view act) none = refl
unaided files world (command.SetText view text) none = refl
unaided files world (command.Disallow view on) none = refl
unaided files world (command.Hook view edits bad) none = refl
unaided files world (command.Down p x y) none = refl
unaided files world (command.Move p x y) none = refl
unaided files world (command.Up p) none = refl
unaided files world command.Cancel none = refl
unaided files world command.Frame none = refl
unaided files world (command.Bounds view) none = refl
unaided files world (command.Pixels x y w h) none = refl
unaided files world command.Digest none = refl
unaided files world command.Save none = refl
unaided files world (command.Restore text) none = refl

-- a command that takes a file inflates that
pub inflates : (files : Files) (world : World) (line : PlainCommand) (file : List ℕ × Option Name) → inflation_of line ≡ Some file → step files world line ≡ inflation files world file.0 file.1
inflates files world (command.Window w h) file some = absurd cc
inflates files world (command.Dpi dpi) file some = absurd cc
inflates files world (command.Res id value) file some = absurd cc
inflates files world (command.Inflate name into) file some =
    let same : (name, into) ≡ file = cc some in
    subst (λ (f : List ℕ × Option Name). inflation files world name into ≡ inflation files world f.0 f.1) same refl
inflates files world (command.Add parent class width height) file some = absurd cc
inflates files world (command.Remove view) file some = absurd cc
inflates files world (command.Act view act) file some = absurd cc
inflates files world (command.SetText view text) file some = absurd cc
inflates files world (command.Disallow view on) file some = absurd cc
inflates files world (command.Hook view edits bad) file some = absurd cc
inflates files world (command.Down p x y) file some = absurd cc
inflates files world (command.Move p x y) file some = absurd cc
inflates files world (command.Up p) file some = absurd cc
inflates files world command.Cancel file some = absurd cc
inflates files world command.Frame file some = absurd cc
inflates files world (command.Bounds view) file some = absurd cc
inflates files world (command.Pixels x y w h) file some = absurd cc
inflates files world command.Digest file some = absurd cc
inflates files world command.Save file some = absurd cc
inflates files world (command.Restore text) file some = absurd cc

-- a command that met no failed call of a shelf leaves its count
pub counts_nothing : {A : Type 0} (before : ℕ) (result : Result A StepFault) → result ≢ Err fault.Shelf → CountsShelf before before result
counts_nothing before (Ok done) never = refl
counts_nothing before (Err (fault.Refused refusal)) never = refl
counts_nothing before (Err fault.NoMemory) never = omega arith
counts_nothing before (Err fault.Sink) never = refl
counts_nothing before (Err fault.Shelf) never = absurd (never refl)

-- and one that asks for no file leaves the shelf
pub asks_none : {S A : Type 0} (files : S → Option Files) (fetches : S → Fetches) (faults : S → ℕ) (result : Result A StepFault) (shelf : S) → result ≢ Err fault.Shelf
    → AsksShelf files fetches faults None result shelf shelf
asks_none files fetches faults result shelf never = record {
  files_stay = refl;
  unasked = λ none. refl;
  fetched = refl;
  shelf_failed = counts_nothing (faults shelf) result never;
  asked = λ failed. absurd (never failed);
}

counts_fault : (A B : Type 0) (before now : ℕ) (line_fault : StepFault) → CountsShelf {A = A} before now (Err line_fault) → CountsShelf {A = B} before now (Err line_fault)
counts_fault A B before now (fault.Refused refusal) counts = counts
counts_fault A B before now fault.NoMemory counts = counts
counts_fault A B before now fault.Sink counts = counts
counts_fault A B before now fault.Shelf counts = counts

pub counts_failed : (A : Type 0) {B : Type 0} (before now : ℕ) (line_fault : StepFault) (result : Result B StepFault) → result ≡ Err line_fault → CountsShelf {A = A} before now (Err line_fault) → CountsShelf before now result
counts_failed A {B = B} before now line_fault result e counts = subst (λ (r : Result B StepFault). CountsShelf before now r) (sym e) (counts_fault A B before now line_fault counts)

-- a line that fails as a step of it has asked the shelf as that step
pub asks_failed : {S A B : Type 0} (files : S → Option Files) (fetches : S → Fetches) (faults : S → ℕ) (name : Option (List ℕ)) (line_fault : StepFault) (result : Result B StepFault) (old new : S)
    → result ≡ Err line_fault → AsksShelf {A = A} files fetches faults name (Err line_fault) old new → AsksShelf files fetches faults name result old new
asks_failed {A = A} files fetches faults name line_fault result old new e asks = record {
  files_stay = asks.files_stay;
  unasked = asks.unasked;
  fetched = asks.fetched;
  shelf_failed = counts_failed A (faults old) (faults new) line_fault result e asks.shelf_failed;
  asked = λ failed. let same : line_fault ≡ fault.Shelf = cc (e, failed) in asks.asked (ap Err same);
}
