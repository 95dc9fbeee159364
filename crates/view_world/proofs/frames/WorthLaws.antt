-- What is known besides a world after a line, and what a line costs.
use Rattle.std.proofs.Common.{◌≡◌, ◌≢◌, ℕ, ◌+◌, ◌*◌, ◌≤◌, min, Bool, true, false, List, [], ◌∷◌, ◌++◌, Option, Some, None, Result, Ok, Err, refl, sym, ◌∙◌, ap, subst, arith, inl, inr}
use Rattle.std.specs.Prelude.{◌==◌, ◌&&◌, ◌||◌, not, if◌then◌else◌}
use Rattle.std.proofs.lemmas.Bool.{cases_eq, eqb-true, ne_eqb}
use Rattle.damage_rect.proofs.RectLaws.{in_hull_first, in_hull_second}
use Rattle.damage_rect.specs.Areas.{rect_area}
use Rattle.damage_rect.proofs.RectLaws.{empty_none}
use Rattle.geom_core.specs.Rects.{empty_rect, holds, hull_of, is_empty}
use Rattle.damage_rect.specs.Within.{LiesIn}
use Rattle.geom_core.specs.declared.color.Argb.{Argb}
use Rattle.geom_core.specs.declared.geometry.Rect.{Rect}
use Rattle.geom_core.specs.declared.geometry.Size.{Size}
use Rattle.pixel_raster.specs.Raster.{Raster}
use Rattle.script_lines.specs.commands.PlainCommands.{PlainCommand}
use Rattle.script_lines.specs.commands.PlainCommands as command
use Rattle.seen_edits.specs.Differing.{differing}
use Rattle.tool_io.specs.SinkState.{SinkState}
use Rattle.traversal.specs.Frames.{Framed, after_frame as frame_of}
use Rattle.tree_edits.specs.Asking.{requests_layout}
use Rattle.view_model.specs.declared.changes.Act.{Act}
use Rattle.view_model.specs.Forest.{Forest, Nothing, Branch, count_of}
use Rattle.view_model.specs.PlainTree.{PlainView}
use Rattle.view_model.specs.declared.work.Work.{Work}
use Rattle.view_tree.proofs.forest.PlainLaws.{plain-count}
use Rattle.view_tree.specs.Views.{held_of, plain_of}
use Rattle.view_tree.specs.declared.counts.Counts.{Counts}
use Rattle.view_world.proofs.frames.EditRest.{act_unopened}
use Rattle.view_world.proofs.worlds.MarkLaws.{settled_at}
use Rattle.view_world.proofs.frames.SeenLaws.{among_left, among_right}
use Rattle.view_world.specs.world.Carried.{IsDone, WritesReply}
use Rattle.view_world.specs.frames.Counting.{RisesWithin, area_of, paint_bound}
use Rattle.view_world.specs.screen.KeyedScreen.{KeyedScreen, picture_at, stage_of, window_of, world_of}
use Rattle.view_world.specs.world.KeyedWorld.{KeyedWorld}
use Rattle.view_world.specs.world.Marks.{effect_by, effect_of, effect_of_act, has_settled, marked, marks_after, measure_bound}
use Rattle.view_world.specs.frames.Resting.{AreSeenIn, CountsMeasures, FramePaints, IsFrameDone, KeepsLine, MovedIn, seen_on}
use Rattle.view_world.specs.frames.Seen.{act_paints, box_around, changed_views, line_box, line_deliveries, moved_views, seen}
use Rattle.world_parts.specs.Touching.{has_any_scrolled}
use Rattle.world_parts.specs.Reply.{Reply, Done}
use Rattle.view_world.specs.world.Step.{after_frame, framed, picture_after, stage_after}
use Rattle.world_parts.specs.Touching.{is_among}
use Rattle.view_world.specs.frames.Watched.{LineCosts, HasBox, IsWatched, IsWorth, Watched, box_after, costs_of, costs_of_frame, frame_box, layers, max_count, no_costs, painted_least, painted_most, points_most, shown_after, watched_after, watched_in}
use Rattle.world_parts.specs.World.{World}
use Rattle.world_parts.specs.declared.fault.StepFault.{StepFault}
use Rattle.world_parts.specs.declared.fault.StepFault.TheVariants as fault
use Rattle.view_world.specs.declared.world.marks.Effect.{Effect}
use Rattle.view_world.specs.declared.world.marks.Effect.TheVariants.{Opens, Lays, Asks, Repaints, Touches, Leaves}
use Rattle.view_world.specs.declared.world.marks.Marks.{Marks}
use Rattle.view_world.specs.declared.screen.stage.Stage.{Stage as CodeStage}
use Rattle.view_world.specs.declared.screen.stage.Stage.TheVariants.{NoWindow, NoFrame, Unsettled, Settled}

-- boxes

-- what is seen of each of these views, before and after, lies in the box around it
box_holds : (before after : World) (numbers : List ℕ) (number : ℕ) → is_among number numbers ≡ true → LiesIn (seen before number) (box_around before after numbers) × LiesIn (seen after number) (box_around before after numbers)
box_holds before after [] number there = absurd cc
box_holds before after (first ∷ numbers) number there =
    let own = hull_of (seen before first) (seen after first) in
    let rest = box_around before after numbers in
    elim (cases_eq number first) [
      | inl e ↦ (
        λ x y h. in_hull_first own rest x y (in_hull_first (seen before first) (seen after first) x y (subst (λ (n : ℕ). holds (seen before n) x y ≡ true) e h)),
        λ x y h. in_hull_first own rest x y (in_hull_second (seen before first) (seen after first) x y (subst (λ (n : ℕ). holds (seen after n) x y ≡ true) e h)),
      )
      | inr ne ↦
          let later = box_holds before after numbers number (rw (ne_eqb number first ne) at there) in
          (λ x y h. in_hull_second own rest x y (later.0 x y h), λ x y h. in_hull_second own rest x y (later.1 x y h))
    ]

-- on a screen that has settled, views are seen where they are seen in its plain world
seen_settled : (screen : KeyedScreen) (number : ℕ) → screen.stage ≡ Settled → seen (world_of screen) number ≡ seen_on screen number
seen_settled screen number settled = rw settled refl

-- the box of some views has what is seen of them on two screens that have settled
around_holds : (old new : KeyedScreen) (numbers : List ℕ) (box : Rect) → old.stage ≡ Settled → new.stage ≡ Settled → LiesIn (box_around (world_of old) (world_of new) numbers) box → (some : List ℕ)
    → ((number : ℕ) → is_among number some ≡ true → is_among number numbers ≡ true) → AreSeenIn box some old new
around_holds old new numbers box was is lies some among = λ number there.
    let both = box_holds (world_of old) (world_of new) numbers number (among number there) in (
      subst (λ (rect : Rect). LiesIn rect box) (seen_settled old number was) (λ x y h. lies x y (both.0 x y h)),
      subst (λ (rect : Rect). LiesIn rect box) (seen_settled new number is) (λ x y h. lies x y (both.1 x y h)),
    )

-- the box of a line has the views that it changes, and those that it moves
pub changed_in : (line : PlainCommand) (old new : KeyedScreen) (box : Rect) → old.stage ≡ Settled → new.stage ≡ Settled → AreSeenIn (hull_of box (line_box (world_of old) line (world_of new))) (changed_views (world_of old) line) old new
changed_in line old new box was is =
    around_holds old new (changed_views (world_of old) line ++ moved_views (world_of old) (world_of new)) (hull_of box (line_box (world_of old) line (world_of new))) was is
    (in_hull_second box (line_box (world_of old) line (world_of new))) (changed_views (world_of old) line)
    (λ number there. among_left number (changed_views (world_of old) line) (moved_views (world_of old) (world_of new)) there)

pub moved_in : (line : PlainCommand) (old new : KeyedScreen) (box : Rect) → old.stage ≡ Settled → new.stage ≡ Settled → MovedIn (hull_of box (line_box (world_of old) line (world_of new))) old new
moved_in line old new box was is =
    around_holds old new (changed_views (world_of old) line ++ moved_views (world_of old) (world_of new)) (hull_of box (line_box (world_of old) line (world_of new))) was is
    (in_hull_second box (line_box (world_of old) line (world_of new))) (moved_views (world_of old) (world_of new))
    (λ number there. among_right number (changed_views (world_of old) line) (moved_views (world_of old) (world_of new)) there)

-- lines that are no frame

act_unlaid : (act : Act) → effect_of_act act ≢ Lays
act_unlaid act e = by (requests_layout act) (act_paints act) e
  where
    by : (requests paints : Bool) → effect_by requests paints ≡ Lays → ⊥
    by true paints e = cc
    by false true e = cc
    by false false e = cc

-- a line that opens no window leaves the picture
picture_left : (line : PlainCommand) (old new : KeyedScreen) → KeepsLine line old new → effect_of line ≢ Opens → new.surface.pixels ≡ old.surface.pixels
picture_left line old new keeps other = ap (λ (surface : Raster). surface.pixels) (keeps.surface other)

frame_shows : (old new : KeyedScreen) (before after : Work) → FramePaints old new before after → new.surface.pixels ≡ shown_after command.Frame (world_of new) old.surface.pixels
frame_shows old new before after paints = by new.stage refl
  where
    left : new.stage ≢ Settled → new.surface.pixels ≡ old.surface.pixels
    left other = ap (λ (surface : Raster). surface.pixels) (paints.unsettled other).0

    by : (stage : CodeStage) → new.stage ≡ stage → new.surface.pixels ≡ (if has_settled (stage_of stage) then picture_at stage new.surface else old.surface.pixels)
    by NoWindow e = left (λ f. absurd (let clash : NoWindow ≡ Settled = sym e ∙ f in cc))
    by NoFrame e = left (λ f. absurd (let clash : NoFrame ≡ Settled = sym e ∙ f in cc))
    by Unsettled e = left (λ f. absurd (let clash : Unsettled ≡ Settled = sym e ∙ f in cc))
    by Settled e = refl

-- the picture that is shown after a line
pub shows_after : (line : PlainCommand) (old new : KeyedScreen) (before after : Work) → (line ≢ command.Frame → KeepsLine line old new) → (line ≡ command.Frame → FramePaints old new before after)
    → new.surface.pixels ≡ shown_after line (world_of new) old.surface.pixels
shows_after (command.Window w h) old new before after keeps paints = sym ((keeps (λ e. cc)).opened refl)
shows_after (command.Dpi dpi) old new before after keeps paints = picture_left (command.Dpi dpi) old new (keeps (λ e. cc)) (λ e. cc)
shows_after (command.Res id value) old new before after keeps paints = picture_left (command.Res id value) old new (keeps (λ e. cc)) (λ e. cc)
shows_after (command.Inflate name into) old new before after keeps paints = picture_left (command.Inflate name into) old new (keeps (λ e. cc)) (λ e. cc)
shows_after (command.Add parent class width height) old new before after keeps paints = picture_left (command.Add parent class width height) old new (keeps (λ e. cc)) (λ e. cc)
shows_after (command.Remove view) old new before after keeps paints = picture_left (command.Remove view) old new (keeps (λ e. cc)) (λ e. cc)
shows_after (command.Act view act) old new before after keeps paints = picture_left (command.Act view act) old new (keeps (λ e. cc)) (act_unopened act)
shows_after (command.SetText view text) old new before after keeps paints = picture_left (command.SetText view text) old new (keeps (λ e. cc)) (λ e. cc)
shows_after (command.Disallow view on) old new before after keeps paints = picture_left (command.Disallow view on) old new (keeps (λ e. cc)) (λ e. cc)
shows_after (command.Hook view edits bad) old new before after keeps paints = picture_left (command.Hook view edits bad) old new (keeps (λ e. cc)) (λ e. cc)
shows_after (command.Down p x y) old new before after keeps paints = picture_left (command.Down p x y) old new (keeps (λ e. cc)) (λ e. cc)
shows_after (command.Move p x y) old new before after keeps paints = picture_left (command.Move p x y) old new (keeps (λ e. cc)) (λ e. cc)
shows_after (command.Up p) old new before after keeps paints = picture_left (command.Up p) old new (keeps (λ e. cc)) (λ e. cc)
shows_after command.Cancel old new before after keeps paints = picture_left command.Cancel old new (keeps (λ e. cc)) (λ e. cc)
shows_after command.Frame old new before after keeps paints = frame_shows old new before after (paints refl)
shows_after (command.Bounds view) old new before after keeps paints = picture_left (command.Bounds view) old new (keeps (λ e. cc)) (λ e. cc)
shows_after (command.Pixels x y w h) old new before after keeps paints = picture_left (command.Pixels x y w h) old new (keeps (λ e. cc)) (λ e. cc)
shows_after command.Digest old new before after keeps paints = picture_left command.Digest old new (keeps (λ e. cc)) (λ e. cc)
shows_after command.Save old new before after keeps paints = picture_left command.Save old new (keeps (λ e. cc)) (λ e. cc)
shows_after (command.Restore text) old new before after keeps paints = picture_left (command.Restore text) old new (keeps (λ e. cc)) (λ e. cc)

-- only a frame costs anything
pub costs_none : (watched : Watched) (line : PlainCommand) → line ≢ command.Frame → costs_of watched line ≡ no_costs
costs_none watched (command.Window w h) ne = refl
costs_none watched (command.Dpi dpi) ne = refl
costs_none watched (command.Res id value) ne = refl
costs_none watched (command.Inflate name into) ne = refl
costs_none watched (command.Add parent class width height) ne = refl
costs_none watched (command.Remove view) ne = refl
costs_none watched (command.Act view act) ne = refl
costs_none watched (command.SetText view text) ne = refl
costs_none watched (command.Disallow view on) ne = refl
costs_none watched (command.Hook view edits bad) ne = refl
costs_none watched (command.Down p x y) ne = refl
costs_none watched (command.Move p x y) ne = refl
costs_none watched (command.Up p) ne = refl
costs_none watched command.Cancel ne = refl
costs_none watched command.Frame ne = absurd (ne refl)
costs_none watched (command.Bounds view) ne = refl
costs_none watched (command.Pixels x y w h) ne = refl
costs_none watched command.Digest ne = refl
costs_none watched command.Save ne = refl
costs_none watched (command.Restore text) ne = refl

worth_none : (old new : Work) → new ≡ old → IsWorth no_costs old new
worth_none old new same =
    let measured : new.measured ≡ old.measured = ap (λ (work : Work). work.measured) same in
    let painted : new.painted ≡ old.painted = ap (λ (work : Work). work.painted) same in
    record { measured = omega (arith, measured); measured_later = omega (arith, measured); least = omega (arith, painted); most = omega (arith, painted) }

pub worth_other : (watched : Watched) (line : PlainCommand) (old new : Work) → line ≢ command.Frame → new ≡ old → IsWorth (costs_of watched line) old new
worth_other watched line old new ne same = subst (λ (costs : LineCosts). IsWorth costs old new) (sym (costs_none watched line ne)) (worth_none old new same)

-- the box

based_back : (effect : Effect) (marks : Marks) (settled scrolled : Bool) → effect ≢ Lays → (marked effect marks settled scrolled).based ≡ true → marks.based ≡ true
based_back Opens marks settled scrolled ne based = absurd cc
based_back Lays marks settled scrolled ne based = absurd (ne refl)
based_back Asks marks settled scrolled ne based = based
based_back Repaints marks settled scrolled ne based = based
based_back Touches marks settled scrolled ne based = based
based_back Leaves marks settled scrolled ne based = based

-- the damage is still in the box, after a line that is neither a window nor a frame
kept_box : (line : PlainCommand) (marks : Marks) (old new : KeyedScreen) (box : Rect) → KeepsLine line old new → effect_of line ≢ Opens → effect_of line ≢ Lays → (marks.based ≡ true → old.stage ≡ Settled)
    → (marks.based ≡ true → LiesIn old.damage box) → (marks_after (world_of old) line (world_of new) marks).based ≡ true
    → LiesIn new.damage (if marks.based then hull_of box (line_box (world_of old) line (world_of new)) else empty_rect)
kept_box line marks old new box keeps no_window no_frame settled has based =
    let was : marks.based ≡ true = based_back (effect_of line) marks (has_settled (stage_of new.stage)) (has_any_scrolled (line_deliveries (world_of old) line)) no_frame based in
    let around = line_box (world_of old) line (world_of new) in
    rw was (keeps.within no_window (hull_of box around) (λ x y h. in_hull_first box around x y (has was x y h)) (changed_in line old new box (settled was) (keeps.stage no_window ∙ settled was)))

no_point : (rect other : Rect) → is_empty rect ≡ true → LiesIn rect other
no_point rect other empty = λ x y h. absurd (let clash : true ≡ false = sym h ∙ empty_none rect x y empty in cc)

-- it is in the box after each line
pub box_kept : (line : PlainCommand) (marks : Marks) (old new : KeyedScreen) (box : Rect) → (line ≢ command.Frame → KeepsLine line old new) → (line ≡ command.Frame → new.stage ≡ Settled → is_empty new.damage ≡ true)
    → (marks.based ≡ true → old.stage ≡ Settled) → (marks.based ≡ true → LiesIn old.damage box) → (marks_after (world_of old) line (world_of new) marks).based ≡ true
    → LiesIn new.damage (box_after (world_of old) line (world_of new) marks.based box)
box_kept (command.Window w h) marks old new box keeps clean settled has based = absurd cc
box_kept command.Frame marks old new box keeps clean settled has based = no_point new.damage empty_rect (clean refl (settled_at new.stage based))
box_kept (command.Dpi dpi) marks old new box keeps clean settled has based = kept_box (command.Dpi dpi) marks old new box (keeps (λ e. cc)) (λ e. cc) (λ e. cc) settled has based
box_kept (command.Res id value) marks old new box keeps clean settled has based = kept_box (command.Res id value) marks old new box (keeps (λ e. cc)) (λ e. cc) (λ e. cc) settled has based
box_kept (command.Inflate name into) marks old new box keeps clean settled has based = kept_box (command.Inflate name into) marks old new box (keeps (λ e. cc)) (λ e. cc) (λ e. cc) settled has based
box_kept (command.Add parent class width height) marks old new box keeps clean settled has based =
    kept_box (command.Add parent class width height) marks old new box (keeps (λ e. cc)) (λ e. cc) (λ e. cc) settled has based
box_kept (command.Remove view) marks old new box keeps clean settled has based = kept_box (command.Remove view) marks old new box (keeps (λ e. cc)) (λ e. cc) (λ e. cc) settled has based
box_kept (command.Act view act) marks old new box keeps clean settled has based = kept_box (command.Act view act) marks old new box (keeps (λ e. cc)) (act_unopened act) (act_unlaid act) settled has based
box_kept (command.SetText view text) marks old new box keeps clean settled has based = kept_box (command.SetText view text) marks old new box (keeps (λ e. cc)) (λ e. cc) (λ e. cc) settled has based
box_kept (command.Disallow view on) marks old new box keeps clean settled has based = kept_box (command.Disallow view on) marks old new box (keeps (λ e. cc)) (λ e. cc) (λ e. cc) settled has based
box_kept (command.Hook view edits bad) marks old new box keeps clean settled has based = kept_box (command.Hook view edits bad) marks old new box (keeps (λ e. cc)) (λ e. cc) (λ e. cc) settled has based
box_kept (command.Down p x y) marks old new box keeps clean settled has based = kept_box (command.Down p x y) marks old new box (keeps (λ e. cc)) (λ e. cc) (λ e. cc) settled has based
box_kept (command.Move p x y) marks old new box keeps clean settled has based = kept_box (command.Move p x y) marks old new box (keeps (λ e. cc)) (λ e. cc) (λ e. cc) settled has based
box_kept (command.Up p) marks old new box keeps clean settled has based = kept_box (command.Up p) marks old new box (keeps (λ e. cc)) (λ e. cc) (λ e. cc) settled has based
box_kept command.Cancel marks old new box keeps clean settled has based = kept_box command.Cancel marks old new box (keeps (λ e. cc)) (λ e. cc) (λ e. cc) settled has based
box_kept (command.Bounds view) marks old new box keeps clean settled has based = kept_box (command.Bounds view) marks old new box (keeps (λ e. cc)) (λ e. cc) (λ e. cc) settled has based
box_kept (command.Pixels x y w h) marks old new box keeps clean settled has based = kept_box (command.Pixels x y w h) marks old new box (keeps (λ e. cc)) (λ e. cc) (λ e. cc) settled has based
box_kept command.Digest marks old new box keeps clean settled has based = kept_box command.Digest marks old new box (keeps (λ e. cc)) (λ e. cc) (λ e. cc) settled has based
box_kept command.Save marks old new box keeps clean settled has based = kept_box command.Save marks old new box (keeps (λ e. cc)) (λ e. cc) (λ e. cc) settled has based
box_kept (command.Restore text) marks old new box keeps clean settled has based = kept_box (command.Restore text) marks old new box (keeps (λ e. cc)) (λ e. cc) (λ e. cc) settled has based

-- a world of the code is what is watched after a line
pub watched_line : (line : PlainCommand) (old new : KeyedWorld) (box : Rect) → new.marks ≡ marks_after (world_of old.screen) line (world_of new.screen) old.marks
    → new.screen.surface.pixels ≡ shown_after line (world_of new.screen) old.screen.surface.pixels
    → HasBox new (box_after (world_of old.screen) line (world_of new.screen) old.marks.based box) → IsWatched new (watched_after (watched_in old box) line (world_of new.screen))
unfolding watched_after
watched_line line old new box marks shown has =
    let around = box_after (world_of old.screen) line (world_of new.screen) old.marks.based box in
    let made : Marks → List Argb → Watched = λ marks shown. record { world = world_of new.screen; marks = marks; box = around; shown = shown } in
    record {
      same = ap (λ (marks : Marks). made marks new.screen.surface.pixels) marks ∙ ap (made (marks_after (world_of old.screen) line (world_of new.screen) old.marks)) shown;
      box = has;
    }

-- a frame

done_world : {one other : World} {text more : List ℕ} → Done one text ≡ Done other more → one ≡ other
done_world e = cc

-- the reply of a line that was carried out
pub done_reply : (reply : Reply) (new : World) (before after : SinkState) (result : Result (Unit {0}) StepFault) → WritesReply reply new before after result → IsDone result → (text : List ℕ) × (reply ≡ Done new text)
done_reply reply new before after (Ok _) written is = (written.0, written.1)
done_reply reply new before after (Err (fault.Refused refusal)) written is = absurd is
done_reply reply new before after (Err fault.NoMemory) written is = absurd is
done_reply reply new before after (Err fault.Sink) written is = (written.0, written.1)
done_reply reply new before after (Err fault.Shelf) written is = absurd is

-- a screen after a frame
pub record IsAfterFrame (old new : KeyedScreen) : Type 0 where
  pub size : Size
  pub window : window_of old ≡ Some size
  pub world : world_of new ≡ after_frame (world_of old) size

pub after_framed : (old new : KeyedScreen) (text : List ℕ) → framed (world_of old) (window_of old) (plain_of old.views) ≡ Done (world_of new) text → IsAfterFrame old new
after_framed old new text done = by (window_of old) (plain_of old.views) refl done
  where
    by : (window : Option Size) (tree : Forest PlainView) → window_of old ≡ window → framed (world_of old) window tree ≡ Done (world_of new) text → IsAfterFrame old new
    by None tree e done = absurd cc
    by (Some size) Nothing e done = absurd cc
    by (Some size) (Branch root below after) e done = record { size = size; window = e; world = sym (done_world done) }

-- a frame paints no more than the window for each layer
whole_most : (old : KeyedScreen) (size : Size) (before after : ℕ) → window_of old ≡ Some size → RisesWithin (paint_bound (world_of old)) before after → after ≤ before + layers (world_of old) * area_of (Some size)
unfolding paint_bound
whole_most old size before after window rises = subst (λ (window : Option Size). after ≤ before + layers (world_of old) * area_of window) window rises.most

-- what is known besides a screen
abbrev watched_on : KeyedScreen → Marks → Rect → Watched
watched_on screen marks box = record { world = world_of screen; marks = marks; box = box; shown = screen.surface.pixels }

module _ (old new : KeyedScreen) (before after : Work) (is : IsAfterFrame old new) (paints : FramePaints old new before after) where
  abbrev frame : Framed
  frame = frame_of (plain_of old.views) old.hooks is.size

  stage_is : stage_of new.stage ≡ stage_after frame.settled
  stage_is = ap (λ (world : World). world.stage) is.world

  settled : frame.settled ≡ true → new.stage ≡ Settled
  settled e = settled_at new.stage (ap has_settled stage_is ∙ ap (λ (s : Bool). has_settled (stage_after s)) e)

  unsettled : frame.settled ≡ false → new.stage ≢ Settled
  unsettled e f =
      let clash : true ≡ false = ap (λ (stage : CodeStage). has_settled (stage_of stage)) (sym f) ∙ ap has_settled stage_is ∙ ap (λ (s : Bool). has_settled (stage_after s)) e in cc

  least_by : (t : Bool) → frame.settled ≡ t → min (before.painted + (if t then differing old.surface.pixels (picture_after is.size frame) else 0)) max_count ≤ after.painted
  least_by true e =
      let pixels : new.surface.pixels ≡ picture_after is.size frame =
      sym (ap (λ (stage : CodeStage). picture_at stage new.surface) (settled e)) ∙ ap (λ (world : World). world.picture) is.world in
      subst (λ (shown : List Argb). min (before.painted + differing old.surface.pixels shown) max_count ≤ after.painted) pixels paints.least
  least_by false e = let same = (paints.unsettled (unsettled e)).1 in omega (arith, same)

  pub least_cost : min (before.painted + painted_least old.surface.pixels is.size frame) max_count ≤ after.painted
  unfolding painted_least
  least_cost = least_by frame.settled refl

  module _ (marks : Marks) (box : Rect) (based : marks.based ≡ true → old.stage ≡ Settled) (idle : marks.idle ≡ true → after ≡ before) (has : marks.based ≡ true → LiesIn old.damage box)
      (rises : RisesWithin (paint_bound (world_of old)) before.painted after.painted) where
    points_by : (b z : Bool) → marks.based ≡ b → (frame.fired == 0) ≡ z → frame.settled ≡ true
        → after.painted ≤ before.painted + layers (world_of old) * (if b && z then rect_area (frame_box (watched_on old marks box) is.size frame) else area_of (Some is.size))
    points_by false z e f s = whole_most old is.size before.painted after.painted is.window rises
    points_by true false e f s = whole_most old is.size before.painted after.painted is.window rises
    points_by true true e f s =
        let around = line_box (world_of old) command.Frame (world_of new) in
        let most = paints.most (based e) (settled s) is.size is.window (eqb-true _ _ f) (hull_of box around) (λ x y h. in_hull_first box around x y (has e x y h)) (moved_in command.Frame old new box (based e) (settled s)) in
        let count : 2 * count_of old.views.tree + 1 ≡ layers (world_of old) = ap (λ (n : ℕ). 2 * n + 1) (sym (plain-count (held_of old.views) old.views.tree)) in
        subst (λ (world : World). after.painted ≤ before.painted + layers (world_of old) * rect_area (hull_of box (line_box (world_of old) command.Frame world))) is.world
        (subst (λ (n : ℕ). after.painted ≤ before.painted + n * rect_area (hull_of box around)) count most)

    most_by : (i s : Bool) → marks.idle ≡ i → frame.settled ≡ s → after.painted ≤ before.painted + (if i || not s then 0 else layers (world_of old) * points_most (watched_on old marks box) is.size frame)
    most_by true s e f = let same : after.painted ≡ before.painted = ap (λ (work : Work). work.painted) (idle e) in omega (arith, same)
    most_by false false e f = let same = (paints.unsettled (unsettled f)).1 in omega (arith, same)
    most_by false true e f = points_by marks.based (frame.fired == 0) refl refl f

    pub most_cost : after.painted ≤ before.painted + painted_most (watched_on old marks box) is.size frame
    unfolding painted_most
    most_cost = most_by marks.idle frame.settled refl refl

counted_later : (before after : Counts) (old new : Work) → CountsMeasures before after old new → min old.measured max_count ≤ new.measured
counted_later before after old new counts = let e = counts.work in omega (arith, e)

-- what a frame costs
pub worth_frame : (old new : KeyedScreen) (marks : Marks) (box : Rect) (before after : Work) → IsAfterFrame old new → IsFrameDone old new before after → (marks.based ≡ true → old.stage ≡ Settled) → (marks.idle ≡ true → after ≡ before)
    → (marks.based ≡ true → LiesIn old.damage box) → RisesWithin (paint_bound (world_of old)) before.painted after.painted → after.measured ≤ before.measured + measure_bound (world_of old) marks
    → IsWorth (costs_of_frame (watched_on old marks box) (window_of old)) before after
worth_frame old new marks box before after is done based idle has rises measured =
    subst (λ (window : Option Size). IsWorth (costs_of_frame (watched_on old marks box) window) before after) (sym is.window) (record {
      measured = measured;
      measured_later = counted_later old.views.counts new.views.counts before after done.counted;
      least = least_cost old new before after is done.paints;
      most = most_cost old new before after is done.paints marks box based idle has rises;
    })
