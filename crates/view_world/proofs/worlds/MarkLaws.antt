-- What a world keeps of its marks after a line, and what it promises of the next frame.
use Rattle.std.proofs.Common.{◌≡◌, ◌≢◌, ℕ, ◌+◌, ◌≤◌, Bool, true, false, List, [], ◌∷◌, Option, Result, refl, sym, ◌∙◌, ap, subst, arith, inl, inr}
use Rattle.std.proofs.lemmas.Bool.{cases_Bool}
use Rattle.std.specs.Prelude.{◌⊎◌, ◌&&◌, not, if◌then◌else◌}
use Rattle.script_lines.specs.commands.PlainCommands.{PlainCommand}
use Rattle.script_lines.specs.commands.PlainCommands as command
use Rattle.tree_edits.specs.Asking.{requests_layout}
use Rattle.touch_dispatch.specs.handling.Handling.{is_nil}
use Rattle.touch_dispatch.specs.handling.Scrolled.{is_scroll}
use Rattle.touch_dispatch.specs.declared.log.Entry.{Entry}
use Rattle.view_model.specs.declared.changes.Act.{Act}
use Rattle.view_model.specs.declared.work.Work.{Work}
use Rattle.view_model.specs.Facets.{touched_by}
use Rattle.view_tree.specs.Views.{cache_of, state_of}
use Rattle.view_world.specs.world.Carried.{IsDone}
use Rattle.view_world.specs.frames.Asked.{LeavesUnasked, listed}
use Rattle.view_world.specs.screen.KeyedScreen.{KeyedScreen, stage_of, world_of}
use Rattle.view_world.specs.world.KeyedWorld.{KeyedWorld}
use Rattle.view_world.specs.world.Marked.{IsMarked}
use Rattle.view_world.specs.world.Marks.{effect_by, effect_of, has_settled, leaves_layout, marked, marks_after, measure_bound}
use Rattle.view_world.proofs.frames.EditRest.{neither}
use Rattle.view_world.proofs.frames.FrameLaws.{empty_in}
use Rattle.view_world.proofs.frames.SeenLaws.{among_none}
use Rattle.world_parts.specs.Naming.{named}
use Rattle.view_world.specs.frames.Resting.{IsFrameDone, IsResting, IsShown, KeepsLine}
use Rattle.view_world.specs.frames.Seen.{act_paints, changed_views, edited_by_act, line_deliveries, scrolled_in}
use Rattle.world_parts.specs.Touching.{has_any_scrolled}
use Rattle.world_parts.specs.World.{World}
use Rattle.world_parts.specs.declared.fault.StepFault.{StepFault}
use Rattle.view_world.specs.declared.world.marks.Effect.{Effect}
use Rattle.view_world.specs.declared.world.marks.Effect.TheVariants.{Opens, Lays, Asks, Repaints, Touches, Leaves}
use Rattle.view_world.specs.declared.world.marks.Marks.{Marks}
use Rattle.view_world.specs.declared.screen.stage.Stage.{Stage}
use Rattle.view_world.specs.declared.screen.stage.Stage.TheVariants.{NoWindow, NoFrame, Unsettled, Settled}
use Rattle.view_world.specs.declared.world.World.TheInside.{Inside}

pub settled_at : (stage : Stage) → has_settled (stage_of stage) ≡ true → stage ≡ Settled
settled_at NoWindow e = absurd cc
settled_at NoFrame e = absurd cc
settled_at Unsettled e = absurd cc
settled_at Settled e = refl

-- which lines are frames

pub frame_or_not : (line : PlainCommand) → (line ≡ command.Frame) ⊎ (line ≢ command.Frame)
frame_or_not (command.Window w h) = inr (λ e. cc)
frame_or_not (command.Dpi dpi) = inr (λ e. cc)
frame_or_not (command.Res id value) = inr (λ e. cc)
frame_or_not (command.Inflate name into) = inr (λ e. cc)
frame_or_not (command.Add parent class width height) = inr (λ e. cc)
frame_or_not (command.Remove view) = inr (λ e. cc)
frame_or_not (command.Act view act) = inr (λ e. cc)
frame_or_not (command.SetText view text) = inr (λ e. cc)
frame_or_not (command.Disallow view on) = inr (λ e. cc)
frame_or_not (command.Hook view edits bad) = inr (λ e. cc)
frame_or_not (command.Down p x y) = inr (λ e. cc)
frame_or_not (command.Move p x y) = inr (λ e. cc)
frame_or_not (command.Up p) = inr (λ e. cc)
frame_or_not command.Cancel = inr (λ e. cc)
frame_or_not command.Frame = inl refl
frame_or_not (command.Bounds view) = inr (λ e. cc)
frame_or_not (command.Pixels x y w h) = inr (λ e. cc)
frame_or_not command.Digest = inr (λ e. cc)
frame_or_not command.Save = inr (λ e. cc)
frame_or_not (command.Restore text) = inr (λ e. cc)

-- a screen rests if the marks say so
rests_by : (effect : Effect) (marks : Marks) (scrolled : Bool) (old new : KeyedScreen) → (leaves_layout effect ≡ true → IsResting old → IsResting new) → (effect ≡ Lays → new.stage ≡ Settled → IsShown new)
    → (marks.quiet ≡ true → IsResting old) → (marked effect marks (has_settled (stage_of new.stage)) scrolled).quiet ≡ true → IsResting new
rests_by Opens marks scrolled old new kept laid rest quiet = absurd cc
rests_by Lays marks scrolled old new kept laid rest quiet = (laid refl (settled_at new.stage quiet)).rests
rests_by Asks marks scrolled old new kept laid rest quiet = absurd cc
rests_by Repaints marks scrolled old new kept laid rest quiet = kept refl (rest quiet)
rests_by Touches marks scrolled old new kept laid rest quiet = kept refl (rest quiet)
rests_by Leaves marks scrolled old new kept laid rest quiet = kept refl (rest quiet)

both : (s t : Bool) → (s && not t) ≡ true → (s ≡ true) × (t ≡ false)
both true true e = absurd cc
both true false e = (refl, refl)
both false t e = absurd cc

-- and is shown if they say so
shows_by : (effect : Effect) (marks : Marks) (scrolled : Bool) (old new : KeyedScreen) → (effect ≡ Leaves → IsShown old → IsShown new) → (effect ≡ Touches → scrolled ≡ false → IsShown old → IsShown new)
    → (effect ≡ Lays → new.stage ≡ Settled → IsShown new) → (marks.idle ≡ true → IsShown old) → (marked effect marks (has_settled (stage_of new.stage)) scrolled).idle ≡ true → IsShown new
shows_by Opens marks scrolled old new kept touched laid was idle = absurd cc
shows_by Lays marks scrolled old new kept touched laid was idle = laid refl (settled_at new.stage idle)
shows_by Asks marks scrolled old new kept touched laid was idle = absurd cc
shows_by Repaints marks scrolled old new kept touched laid was idle = absurd cc
shows_by Touches marks scrolled old new kept touched laid was idle = let parts = both marks.idle scrolled idle in touched refl parts.1 (was parts.0)
shows_by Leaves marks scrolled old new kept touched laid was idle = kept refl (was idle)

-- a line that leaves what is painted changes no view
unchanged_act : (view : Option ℕ) (act : Act) (requests paints : Bool) → requests_layout act ≡ requests → act_paints act ≡ paints → effect_by requests paints ≡ Leaves → edited_by_act view act ≡ []
unchanged_act view act true paints r p e = absurd cc
unchanged_act view act false true r p e = absurd cc
unchanged_act view act false false r p e =
    ap (λ (t : Bool). if t then listed view else []) (neither (touched_by act).asks (touched_by act).shows r p)

unchanged_leaves : (world : World) (line : PlainCommand) → effect_of line ≡ Leaves → changed_views world line ≡ []
unchanged_leaves world (command.Window w h) e = absurd cc
unchanged_leaves world (command.Dpi dpi) e = refl
unchanged_leaves world (command.Res id value) e = refl
unchanged_leaves world (command.Inflate name into) e = absurd cc
unchanged_leaves world (command.Add parent class width height) e = absurd cc
unchanged_leaves world (command.Remove view) e = absurd cc
unchanged_leaves world (command.Act view act) e = unchanged_act (named world.tree view) act (requests_layout act) (act_paints act) refl refl e
unchanged_leaves world (command.SetText view text) e = absurd cc
unchanged_leaves world (command.Disallow view on) e = refl
unchanged_leaves world (command.Hook view edits bad) e = refl
unchanged_leaves world (command.Down p x y) e = absurd cc
unchanged_leaves world (command.Move p x y) e = absurd cc
unchanged_leaves world (command.Up p) e = absurd cc
unchanged_leaves world command.Cancel e = absurd cc
unchanged_leaves world command.Frame e = absurd cc
unchanged_leaves world (command.Bounds view) e = refl
unchanged_leaves world (command.Pixels x y w h) e = refl
unchanged_leaves world command.Digest e = refl
unchanged_leaves world command.Save e = refl
unchanged_leaves world (command.Restore text) e = absurd cc

-- nor does a touch that scrolls nothing
unscrolled : (entries : List Entry) → has_any_scrolled entries ≡ false → scrolled_in entries ≡ []
unscrolled [] e = refl
unscrolled (entry ∷ entries) e = elim (cases_Bool (is_scroll entry.kind)) [
  | inl f ↦ absurd (let clash = rw f at e in cc)
  | inr f ↦ rw f (unscrolled entries (rw f at e))
]

touch_changes : (world : World) (line : PlainCommand) → effect_of line ≡ Touches → changed_views world line ≡ scrolled_in (line_deliveries world line)
touch_changes world (command.Window w h) e = absurd cc
touch_changes world (command.Dpi dpi) e = absurd cc
touch_changes world (command.Res id value) e = absurd cc
touch_changes world (command.Inflate name into) e = absurd cc
touch_changes world (command.Add parent class width height) e = absurd cc
touch_changes world (command.Remove view) e = absurd cc
touch_changes world (command.Act view act) e = absurd (by (requests_layout act) (act_paints act) e)
  where
    by : (requests paints : Bool) → effect_by requests paints ≡ Touches → ⊥
    by true paints e = cc
    by false true e = cc
    by false false e = cc
touch_changes world (command.SetText view text) e = absurd cc
touch_changes world (command.Disallow view on) e = absurd cc
touch_changes world (command.Hook view edits bad) e = absurd cc
touch_changes world (command.Down p x y) e = refl
touch_changes world (command.Move p x y) e = refl
touch_changes world (command.Up p) e = refl
touch_changes world command.Cancel e = refl
touch_changes world command.Frame e = absurd cc
touch_changes world (command.Bounds view) e = absurd cc
touch_changes world (command.Pixels x y w h) e = absurd cc
touch_changes world command.Digest e = absurd cc
touch_changes world command.Save e = absurd cc
touch_changes world (command.Restore text) e = absurd cc

-- the marks after a line, by the deliveries that the screen has then

any_scrolled : (entries : List Entry) → has_any_scrolled entries ≡ not (is_nil (scrolled_in entries))
any_scrolled [] = refl
any_scrolled (entry ∷ entries) = elim (cases_Bool (is_scroll entry.kind)) [
  | inl e ↦ rw e refl
  | inr e ↦ rw e (any_scrolled entries)
]

marked_by : (effect : Effect) (marks : Marks) (settled one other : Bool) → (effect ≡ Touches → one ≡ other) → marked effect marks settled one ≡ marked effect marks settled other
marked_by Opens marks settled one other same = refl
marked_by Lays marks settled one other same = refl
marked_by Asks marks settled one other same = refl
marked_by Repaints marks settled one other same = refl
marked_by Touches marks settled one other same = ap (marked Touches marks settled) (same refl)
marked_by Leaves marks settled one other same = refl

pub marked_line : (line : PlainCommand) (marks : Marks) (old new : KeyedScreen) → (line ≢ command.Frame → KeepsLine line old new)
    → marked (effect_of line) marks (has_settled (stage_of new.stage)) (has_any_scrolled new.reported) ≡ marks_after (world_of old) line (world_of new) marks
marked_line line marks old new keeps =
    marked_by (effect_of line) marks (has_settled (stage_of new.stage)) (has_any_scrolled new.reported) (has_any_scrolled (line_deliveries (world_of old) line)) λ touches.
    any_scrolled new.reported
    ∙ ap (λ (numbers : List ℕ). not (is_nil numbers)) ((elim (frame_or_not line) [
      | inl e ↦ absurd (let clash = rw e at touches in cc)
      | inr ne ↦ (keeps ne).scrolled touches
    ]) ∙ touch_changes (world_of old) line touches)
    ∙ sym (any_scrolled (line_deliveries (world_of old) line))

-- the same by what the code has found
pub marks_are : (line : PlainCommand) (effect : Effect) (marks : Marks) (old new : KeyedScreen) (settled scrolled : Bool) → effect ≡ effect_of line → settled ≡ has_settled (stage_of new.stage)
    → scrolled ≡ has_any_scrolled new.reported → (line ≢ command.Frame → KeepsLine line old new) → marked effect marks settled scrolled ≡ marks_after (world_of old) line (world_of new) marks
marks_are line effect marks old new settled scrolled e s t keeps = rw (e, s, t) (marked_line line marks old new keeps)

-- what was shown still is after a line that changes no view
still_shown : (line : PlainCommand) (old new : KeyedScreen) → KeepsLine line old new → leaves_layout (effect_of line) ≡ true → effect_of line ≢ Opens → changed_views (world_of old) line ≡ [] → IsShown old → IsShown new
still_shown line old new keeps leaves no_window none shown = record {
  rests = keeps.rests leaves shown.rests;
  clean = empty_in new.damage old.damage (keeps.within no_window old.damage (λ x y h. h) (λ number there. among_none number (rw none at there))) shown.clean;
}

lays_frame : (line : PlainCommand) → effect_of line ≡ Lays → line ≡ command.Frame
lays_frame command.Frame e = refl
lays_frame (command.Window w h) e = absurd cc
lays_frame (command.Dpi dpi) e = absurd cc
lays_frame (command.Res id value) e = absurd cc
lays_frame (command.Inflate name into) e = absurd cc
lays_frame (command.Add parent class width height) e = absurd cc
lays_frame (command.Remove view) e = absurd cc
lays_frame (command.Act view act) e = absurd (by (requests_layout act) (act_paints act) e)
  where
    by : (requests paints : Bool) → effect_by requests paints ≡ Lays → ⊥
    by true paints e = cc
    by false true e = cc
    by false false e = cc
lays_frame (command.SetText view text) e = absurd cc
lays_frame (command.Disallow view on) e = absurd cc
lays_frame (command.Hook view edits bad) e = absurd cc
lays_frame (command.Down p x y) e = absurd cc
lays_frame (command.Move p x y) e = absurd cc
lays_frame (command.Up p) e = absurd cc
lays_frame command.Cancel e = absurd cc
lays_frame (command.Bounds view) e = absurd cc
lays_frame (command.Pixels x y w h) e = absurd cc
lays_frame command.Digest e = absurd cc
lays_frame command.Save e = absurd cc
lays_frame (command.Restore text) e = absurd cc

-- after a line that was carried out

based_by : (effect : Effect) (marks : Marks) (scrolled : Bool) (old new : KeyedScreen) → (effect ≢ Lays → effect ≢ Opens → new.stage ≡ old.stage) → (marks.based ≡ true → old.stage ≡ Settled)
    → (marked effect marks (has_settled (stage_of new.stage)) scrolled).based ≡ true → new.stage ≡ Settled
based_by Opens marks scrolled old new kept was based = absurd cc
based_by Lays marks scrolled old new kept was based = settled_at new.stage based
based_by Asks marks scrolled old new kept was based = kept (λ e. cc) (λ e. cc) ∙ was based
based_by Repaints marks scrolled old new kept was based = kept (λ e. cc) (λ e. cc) ∙ was based
based_by Touches marks scrolled old new kept was based = kept (λ e. cc) (λ e. cc) ∙ was based
based_by Leaves marks scrolled old new kept was based = kept (λ e. cc) (λ e. cc) ∙ was based

based_after : (line : PlainCommand) (marks : Marks) (old new : KeyedScreen) → (line ≢ command.Frame → KeepsLine line old new) → (marks.based ≡ true → old.stage ≡ Settled)
    → (marks_after (world_of old) line (world_of new) marks).based ≡ true → new.stage ≡ Settled
based_after line marks old new keeps was based =
    based_by (effect_of line) marks (has_any_scrolled (line_deliveries (world_of old) line)) old new
    (λ other no_window. elim (frame_or_not line) [
      | inl e ↦ absurd (other (ap effect_of e))
      | inr ne ↦ (keeps ne).stage no_window
    ]) was based

rests_after : (line : PlainCommand) (marks : Marks) (old new : KeyedScreen) (before after : Work) → (line ≢ command.Frame → KeepsLine line old new) → (line ≡ command.Frame → IsFrameDone old new before after)
    → (marks.quiet ≡ true → IsResting old) → (marks_after (world_of old) line (world_of new) marks).quiet ≡ true → IsResting new
rests_after line marks old new before after keeps framed rest quiet =
    rests_by (effect_of line) marks (has_any_scrolled (line_deliveries (world_of old) line)) old new
    (λ leaves was. elim (frame_or_not line) [
      | inl e ↦ absurd (let clash = rw e at leaves in cc)
      | inr ne ↦ (keeps ne).rests leaves was
    ])
    (λ lays settled. (framed (lays_frame line lays)).shows settled) rest quiet

shows_after : (line : PlainCommand) (marks : Marks) (old new : KeyedScreen) (before after : Work) → (line ≢ command.Frame → KeepsLine line old new) → (line ≡ command.Frame → IsFrameDone old new before after)
    → (marks.idle ≡ true → IsShown old) → (marks_after (world_of old) line (world_of new) marks).idle ≡ true → IsShown new
shows_after line marks old new before after keeps framed rest idle =
    shows_by (effect_of line) marks (has_any_scrolled (line_deliveries (world_of old) line)) old new
    (λ leaves was. elim (frame_or_not line) [
      | inl e ↦ absurd (let clash = rw e at leaves in cc)
      | inr ne ↦ still_shown line old new (keeps ne) (ap leaves_layout leaves) (λ e. absurd (let clash : Opens ≡ Leaves = sym e ∙ leaves in cc)) (unchanged_leaves (world_of old) line leaves) was
    ])
    (λ touches none was. elim (frame_or_not line) [
      | inl e ↦ absurd (let clash = rw e at touches in cc)
      | inr ne ↦ still_shown line old new (keeps ne) (ap leaves_layout touches) (λ e. absurd (let clash : Opens ≡ Touches = sym e ∙ touches in cc)) (touch_changes (world_of old) line touches ∙ unscrolled (line_deliveries (world_of old) line) none) was
    ])
    (λ lays settled. (framed (lays_frame line lays)).shows settled) rest idle

-- how much a frame measures
pub bounded : (marks : Marks) (old new : KeyedScreen) (before after : Work) → (marks.quiet ≡ true → IsResting old) → IsFrameDone old new before after
    → after.measured ≤ before.measured + measure_bound (world_of old) marks
bounded marks old new before after rest framed = elim (cases_Bool marks.quiet) [
  | inl e ↦ let most = framed.calm (rest e) in rw e (omega (arith, most))
  | inr e ↦ rw e framed.measured
]

-- a line that was refused leaves all as it was
pub leaves_all : (line : PlainCommand) (outcome : Result (Unit {0}) StepFault) (old new : KeyedScreen) → IsDone outcome ⊎ (new ≡ old) → (IsDone outcome → KeepsLine line old new)
    → LeavesUnasked (world_of old) line old.views new.views
leaves_all line outcome old new (inl done) keeps = (keeps done).leaves
leaves_all line outcome old new (inr same) keeps = λ key live still free. (ap (λ (s : KeyedScreen). (state_of s.views key)) same, ap (λ (s : KeyedScreen). cache_of s.views key) same)

pub measures_same : (line : PlainCommand) (outcome : Result (Unit {0}) StepFault) (old new : KeyedScreen) → IsDone outcome ⊎ (new ≡ old) → (IsDone outcome → KeepsLine line old new)
    → new.views.counts.measures ≡ old.views.counts.measures
measures_same line outcome old new (inl done) keeps = (keeps done).measures
measures_same line outcome old new (inr same) keeps = ap (λ (s : KeyedScreen). s.views.counts.measures) same

-- a mark after a line, whether that was carried out or not, is right
mark_line : (P : KeyedScreen → Type 0) (mark : Marks → Bool) (line : PlainCommand) (outcome : Result (Unit {0}) StepFault) (marks now : Marks) (old new : KeyedScreen) → IsDone outcome ⊎ (new ≡ old)
    → (IsDone outcome → now ≡ marks_after (world_of old) line (world_of new) marks) → IsDone outcome ⊎ (now ≡ marks)
    → (IsDone outcome → mark (marks_after (world_of old) line (world_of new) marks) ≡ true → P new) → (mark marks ≡ true → P old) → mark now ≡ true → P new
mark_line P mark line outcome marks now old new unchanged done stays after before set = by unchanged stays
  where
    carried : IsDone outcome → P new
    carried is = after is (subst (λ (m : Marks). mark m ≡ true) (done is) set)

    by : IsDone outcome ⊎ (new ≡ old) → IsDone outcome ⊎ (now ≡ marks) → P new
    by (inl is) same = carried is
    by (inr one) (inl is) = carried is
    by (inr one) (inr other) = subst P (sym one) (before (subst (λ (m : Marks). mark m ≡ true) other set))

-- and so are both
pub marks_line : (line : PlainCommand) (outcome : Result (Unit {0}) StepFault) (old new : Inside) (before after : Work) → IsDone outcome ⊎ (new.screen ≡ old.screen)
    → (IsDone outcome → new.marks ≡ marks_after (world_of old.screen) line (world_of new.screen) old.marks) → IsDone outcome ⊎ (new.marks ≡ old.marks)
    → (line ≢ command.Frame → IsDone outcome → KeepsLine line old.screen new.screen) → (line ≡ command.Frame → IsDone outcome → IsFrameDone old.screen new.screen before after)
    → IsMarked old → IsMarked new
marks_line line outcome old new before after unchanged done stays keeps framed marked = record {
  based = mark_line (λ (screen : KeyedScreen). screen.stage ≡ Settled) (λ marks. marks.based) line outcome old.marks new.marks old.screen new.screen unchanged done stays
      (λ is. based_after line old.marks old.screen new.screen (λ ne. keeps ne is) marked.based) marked.based;
  rest = mark_line IsResting (λ marks. marks.quiet) line outcome old.marks new.marks old.screen new.screen unchanged done stays
      (λ is. rests_after line old.marks old.screen new.screen before after (λ ne. keeps ne is) (λ e. framed e is) marked.rest) marked.rest;
  idle = mark_line IsShown (λ marks. marks.idle) line outcome old.marks new.marks old.screen new.screen unchanged done stays
      (λ is. shows_after line old.marks old.screen new.screen before after (λ ne. keeps ne is) (λ e. framed e is) marked.idle) marked.idle;
}

pub unchanged_all : {A B : Type 0} (outcome : Result (Unit {0}) StepFault) (old new : A) (before after : B) → IsDone outcome ⊎ ((new ≡ old) × (after ≡ before)) → IsDone outcome ⊎ (new ≡ old)
unchanged_all outcome old new before after (inl is) = inl is
unchanged_all outcome old new before after (inr same) = inr same.0

pub world_same : {S : Type 0} (outcome : Result (Unit {0}) StepFault) (old new : KeyedScreen) (marks now : Marks) (before after : S) → IsDone outcome ⊎ ((new ≡ old) × (after ≡ before)) → IsDone outcome ⊎ (now ≡ marks)
    → IsDone outcome ⊎ ((let w : KeyedWorld = record { screen = new; marks = now } in w ≡ record { screen = old; marks = marks }) × (after ≡ before))
world_same outcome old new marks now before after (inl is) stays = inl is
world_same outcome old new marks now before after (inr same) (inl is) = inl is
world_same outcome old new marks now before after (inr same) (inr stay) = inr (rw (same.0, stay) refl, same.1)
