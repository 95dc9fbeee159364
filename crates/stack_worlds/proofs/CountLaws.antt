-- What lines count in a stack: only a frame counts anything, and the numbers of views rise in one window at most.
use Rattle.std.proofs.Common.{◌≡◌, ℕ, zero, suc, ◌+◌, ◌-◌, ◌≤◌, ◌^◌, List, [], ◌∷◌, ap, arith, inl, inr, get_or, set, refl}
use Rattle.std.specs.Prelude.{◌⊎◌, Option, Some, None, Result, ℤ, min}
use Rattle.std.proofs.lemmas.Bool.{cases_Bool}
use Rattle.script_lines.specs.commands.PlainCommands.{PlainCommand, Frame}
use Rattle.script_lines.specs.commands.PlainCommands as command
use Rattle.stack_worlds.specs.KeptStack.{KeyedStack, stack_of}
use Rattle.stack_worlds.specs.PlainStack.{PlainStack, PlainWay, Given, Missed, RefusedBy, ToStack, from_corner, target_of, touch_at, way_down, way_held, way_move, way_of, way_open}
use Rattle.stack_worlds.specs.WindowLines.{WorksBy, next_at, next_in, worlds_after}
use Rattle.stack_worlds.specs.declared.stack.way.Own.{Own}
use Rattle.stack_worlds.specs.declared.stack.way.Own.TheVariants as own
use Rattle.view_model.specs.declared.limits.TheConstants.{MAX_VIEWS}
use Rattle.view_model.specs.declared.work.Work.{Work}
use Rattle.view_world.specs.world.Carried.{IsDone}
use Rattle.view_world.specs.world.KeyedWorld.{KeyedWorld, new_world}
use Rattle.world_parts.specs.declared.fault.StepFault.{StepFault}
use Rattle.window_stack.specs.PlainPanes.{corner_of, is_open}
use Rattle.window_stack.specs.StackLines.{PlainLine, At, Raise, Close, In, Compose, Down, Move, Up, Cancel}

-- which commands are frames
frame_or_not : (said : PlainCommand) → (said ≡ Frame) ⊎ (said ≡ Frame → ⊥)
frame_or_not (command.Window w h) = inr (λ e. cc)
frame_or_not (command.Dpi dpi) = inr (λ e. cc)
frame_or_not (command.Res id value) = inr (λ e. cc)
frame_or_not (command.Inflate name into) = inr (λ e. cc)
frame_or_not (command.Add parent class width height) = inr (λ e. cc)
frame_or_not (command.Remove view) = inr (λ e. cc)
frame_or_not (command.Act view act) = inr (λ e. cc)
frame_or_not (command.SetText view text) = inr (λ e. cc)
frame_or_not (command.Disallow view on) = inr (λ e. cc)
frame_or_not (command.Hook view edits bad) = inr (λ e. cc)
frame_or_not (command.Down p x y) = inr (λ e. cc)
frame_or_not (command.Move p x y) = inr (λ e. cc)
frame_or_not (command.Up p) = inr (λ e. cc)
frame_or_not command.Cancel = inr (λ e. cc)
frame_or_not command.Frame = inl refl
frame_or_not (command.Bounds view) = inr (λ e. cc)
frame_or_not (command.Pixels x y w h) = inr (λ e. cc)
frame_or_not command.Digest = inr (λ e. cc)
frame_or_not command.Save = inr (λ e. cc)
frame_or_not (command.Restore text) = inr (λ e. cc)

same_painted : (before after : Work) → after ≡ before → before.painted ≤ after.painted
same_painted before after e = let same = ap (λ (work : Work). work.painted) e in omega (arith, same)

same_measured : (before after : Work) → after ≡ before → min before.measured (2 ^ 64 - 1) ≤ after.measured
same_measured before after e = let same = ap (λ (work : Work). work.measured) e in omega (arith, same)

-- the command that goes to a window, and any that is no frame where none does
abbrev said_by : PlainWay → PlainCommand
said_by (Given holder k said) = said
said_by Missed = command.Cancel
said_by (RefusedBy number) = command.Cancel
said_by (ToStack change) = command.Cancel

touched_at : (k : ℕ) (make : ℤ → ℤ → PlainCommand) (point : Option (ℤ × ℤ)) → ((x y : ℤ) → make x y ≡ Frame → ⊥) → said_by (touch_at k make point) ≡ Frame → ⊥
touched_at k make None none e = cc
touched_at k make (Some point) none e = none point.0 point.1 e

down_way : (stack : PlainStack) (p : ℕ) (x y : ℤ) (k : Option ℕ) → said_by (way_down stack p x y k) ≡ Frame → ⊥
down_way stack p x y None e = cc
down_way stack p x y (Some k) e = touched_at k (command.Down p) (from_corner (corner_of stack.panes k) x y) (λ x y e. cc) e

move_way : (stack : PlainStack) (p : ℕ) (x y : ℤ) (k : Option ℕ) → said_by (way_move stack p x y k) ≡ Frame → ⊥
move_way stack p x y None e = cc
move_way stack p x y (Some k) e = touched_at k (command.Move p) (from_corner (corner_of stack.panes k) x y) (λ x y e. cc) e

held_way : (said : PlainCommand) (k : Option ℕ) → (said ≡ Frame → ⊥) → said_by (way_held said k) ≡ Frame → ⊥
held_way said None none e = cc
held_way said (Some k) none e = none e

open_way : (stack : PlainStack) (k : ℕ) (way : PlainWay) → (said_by way ≡ Frame → ⊥) → said_by (way_open stack k way) ≡ Frame → ⊥
open_way stack k way none e = elim (cases_Bool (is_open stack.panes k)) [
  | inl there ↦ none (rw there at e)
  | inr not ↦ absurd (cc (rw not at e))
]

-- only the line `in K frame` gives a frame to a window
only_frame : (stack : PlainStack) (line : PlainLine) → ((k : ℕ) → line ≡ In k Frame → ⊥) → said_by (way_of stack line) ≡ Frame → ⊥
only_frame stack (At k x y) none e = cc
only_frame stack (Raise k) none e = open_way stack k (ToStack (own.Raise k)) (λ e. cc) e
only_frame stack (Close k) none e = open_way stack k (ToStack (own.Close k)) (λ e. cc) e
only_frame stack (In k said) none e = open_way stack k (Given stack.panes.holder k said) (λ e. none k (ap (In k) e)) e
only_frame stack (Compose x y w h) none e = cc
only_frame stack (Down p x y) none e = down_way stack p x y (target_of stack x y stack.panes.holder) e
only_frame stack (Move p x y) none e = move_way stack p x y stack.panes.holder e
only_frame stack (Up p) none e = held_way (command.Up p) stack.panes.holder (λ e. cc) e
only_frame stack Cancel none e = held_way command.Cancel stack.panes.holder (λ e. cc) e

idle_way : (way : PlainWay) (old new : KeyedStack) (result : Result (Unit {0}) StepFault) (before after : Work) → WorksBy way old new result before after → (said_by way ≡ Frame → ⊥) → after ≡ before
idle_way (Given holder k said) old new result before after works none = works.4.work none
idle_way Missed old new result before after works none = works.1
idle_way (RefusedBy number) old new result before after works none = works.1
idle_way (ToStack change) old new result before after works none = works.1

-- a line that is no frame counts nothing
pub idle_line : (line : PlainLine) (old new : KeyedStack) (result : Result (Unit {0}) StepFault) (before after : Work) → WorksBy (way_of (stack_of old) line) old new result before after
    → ((k : ℕ) → line ≡ In k Frame → ⊥) → after ≡ before
idle_line line old new result before after works none = idle_way (way_of (stack_of old) line) old new result before after works (only_frame (stack_of old) line none)

-- nor does one that was not carried out
pub idle_failed : (way : PlainWay) (old new : KeyedStack) (result : Result (Unit {0}) StepFault) (before after : Work) → WorksBy way old new result before after → IsDone result ⊎ (after ≡ before)
idle_failed (Given holder k said) old new result before after works = works.4.idle
idle_failed Missed old new result before after works = inr works.1
idle_failed (RefusedBy number) old new result before after works = inr works.1
idle_failed (ToStack change) old new result before after works = inr works.1

-- no line lowers a count
pub painted_later : (way : PlainWay) (old new : KeyedStack) (result : Result (Unit {0}) StepFault) (before after : Work) → WorksBy way old new result before after → before.painted ≤ after.painted
painted_later (Given holder k said) old new result before after works = works.4.painted.grew
painted_later Missed old new result before after works = same_painted before after works.1
painted_later (RefusedBy number) old new result before after works = same_painted before after works.1
painted_later (ToStack change) old new result before after works = same_painted before after works.1

measured_framed : (result : Result (Unit {0}) StepFault) (before after : Work) → IsDone result ⊎ (after ≡ before)
    → (IsDone result → (by : ℕ) × (min after.measured (2 ^ 64 - 1) ≡ min (before.measured + by) (2 ^ 64 - 1))) → min before.measured (2 ^ 64 - 1) ≤ after.measured
measured_framed result before after (inl done) counted = let count = (counted done).1 in omega (arith, count)
measured_framed result before after (inr same) counted = same_measured before after same

pub measured_later : (way : PlainWay) (old new : KeyedStack) (result : Result (Unit {0}) StepFault) (before after : Work) → WorksBy way old new result before after
    → min before.measured (2 ^ 64 - 1) ≤ after.measured
measured_later (Given holder k said) old new result before after works = elim (frame_or_not said) [
  | inl frame ↦ measured_framed result before after works.4.idle (λ done. let count = works.4.counted frame done in (count.by, count.work))
  | inr other ↦ same_measured before after (works.4.work other)
]
measured_later Missed old new result before after works = same_measured before after works.1
measured_later (RefusedBy number) old new result before after works = same_measured before after works.1
measured_later (ToStack change) old new result before after works = same_measured before after works.1

-- another world in one place
set_within : (worlds : List (Option KeyedWorld)) (k : ℕ) (world : Option KeyedWorld) → next_in world ≤ next_in (get_or worlds k None) + MAX_VIEWS
    → (j : ℕ) → next_in (get_or (set worlds k world) j None) ≤ next_in (get_or worlds j None) + MAX_VIEWS
set_within [] k world few j = omega arith
set_within (first ∷ worlds) zero world few zero = few
set_within (first ∷ worlds) zero world few (suc j) = omega arith
set_within (first ∷ worlds) (suc k) world few zero = omega arith
set_within (first ∷ worlds) (suc k) world few (suc j) = set_within worlds k world few j

within_same : (old new : KeyedStack) → new.worlds ≡ old.worlds → (j : ℕ) → next_at new j ≤ next_at old j + MAX_VIEWS
within_same old new same j = let e = ap (λ (l : List (Option KeyedWorld)). next_in (get_or l j None)) same in omega (arith, e)

within_set : (old new : KeyedStack) (k : ℕ) (world : Option KeyedWorld) → new.worlds ≡ set old.worlds k world → next_in world ≤ next_at old k + MAX_VIEWS → (j : ℕ) → next_at new j ≤ next_at old j + MAX_VIEWS
within_set old new k world is few j =
    let e = ap (λ (l : List (Option KeyedWorld)). next_in (get_or l j None)) is in
    let one = set_within old.worlds k world few j in omega (arith, e, one)

within_own : (change : Own) (old new : KeyedStack) → new.worlds ≡ worlds_after old change → (j : ℕ) → next_at new j ≤ next_at old j + MAX_VIEWS
within_own (own.At k x y) old new is j = elim (cases_Bool (is_open old.panes k)) [
  | inl there ↦ within_same old new (rw there at is) j
  | inr not ↦ within_set old new k (Some new_world) (rw not at is) (omega arith) j
]
within_own (own.Raise k) old new is j = within_same old new is j
within_own (own.Close k) old new is j = within_set old new k None is (omega arith) j
within_own (own.Compose x y w h) old new is j = within_same old new is j

-- the number that a window's next view gets rises by the views of one line
pub numbers_way : (way : PlainWay) (old new : KeyedStack) (result : Result (Unit {0}) StepFault) (before after : Work) → WorksBy way old new result before after → IsDone result ⊎ (new ≡ old)
    → (j : ℕ) → next_at new j ≤ next_at old j + MAX_VIEWS
numbers_way (Given holder k said) old new result before after works same j =
    within_set old new k (Some works.2) works.3 (let had = ap next_in works.1 in let rose = works.4.numbers in omega (arith, had, rose)) j
numbers_way Missed old new result before after works same j = within_same old new works.0 j
numbers_way (RefusedBy number) old new result before after works same j = within_same old new works.0 j
numbers_way (ToStack change) old new result before after works same j = elim same [
  | inl done ↦ within_own change old new (works.0 done) j
  | inr kept ↦ within_same old new (ap (λ (s : KeyedStack). s.worlds) kept) j
]
