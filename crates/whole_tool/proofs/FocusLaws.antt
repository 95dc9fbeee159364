-- Which answer a question has, and how the run of a script with a question after it ends.
use Rattle.std.proofs.Common.{◌≡◌, ℕ, ◌≤◌, cond, length, List, [], refl, ap, sym, subst, arith, inl, inr, ◌∙◌}
use Rattle.std.specs.Prelude.{◌⊎◌, Bool, true, false, ◌||◌, if◌then◌else◌, Option, Some, None, Result, Ok, Err, is_err, is_none}
use Rattle.std.specs.Io.KnownBytes.{Appends}
use Rattle.std.proofs.lemmas.List.{append-nil}
use Rattle.focus_finder.specs.Focus.{next_focus}
use Rattle.geom_core.specs.declared.geometry.Size.{Size}
use Rattle.script_lines.specs.cutting.Lines.{Line, lines_of}
use Rattle.text_lines.specs.Prefix.{AppendsPrefix}
use Rattle.text_lines.proofs.Prefixes.{appends_both, prefix_of_first, prefix_of_second}
use Rattle.tool_io.specs.Fetched.{Files}
use Rattle.view_model.specs.Forest.{Forest, Nothing, Branch}
use Rattle.view_model.specs.PlainTree.{PlainView, view_in}
use Rattle.view_model.specs.declared.refusals.TheConstants.{NO_FRAME, NO_ROOT, NO_VIEW, NO_WINDOW, UNSETTLED}
use Rattle.view_model.specs.declared.work.Work.{Work}
use Rattle.whole_tool.specs.Carried.{Alone, world_in}
use Rattle.whole_tool.specs.declared.focusing.Question.{Question}
use Rattle.whole_tool.specs.declared.run.Stop.TheVariants as stop
use Rattle.whole_tool.specs.declared.script.End.{End}
use Rattle.whole_tool.specs.declared.script.End.TheVariants as ends
use Rattle.whole_tool.specs.Focus.{Answers, AsksTo, AsksWith, CutsAnswer, answer_by, answer_of, answer_text, next_in, refuses_focus, script_answer}
use Rattle.whole_tool.specs.Script.{RunsTo}
use Rattle.whole_tool.specs.Tally.{costs_of_script}
use Rattle.whole_tool.specs.Tool.{RunsWith, status_of}
use Rattle.whole_tool.specs.Transcript.{after_lines, carried_lines, has_refusal, max_script, transcript}
use Rattle.whole_tool.specs.Works.{Trace, WorksPartFrom}
use Rattle.whole_tool.specs.WorksWith.{WorksWithFrom}
use Rattle.whole_tool.proofs.costs.CostLaws.{works_with}
use Rattle.whole_tool.proofs.lines.LongScriptLaws.{carried_long, carried_short}
use Rattle.tool_replies.proofs.EndingLaws.{not_ended, whole_prefix}
use Rattle.whole_tool.proofs.endings.ToolLaws.{runs_with}
use Rattle.view_tree.specs.Rows.{Row, first_key}
use Rattle.view_tree.specs.Views.{Held, held_of, plain_rows}
use Rattle.view_world.specs.screen.KeyedScreen.{KeyedScreen, stage_of, window_of, world_of}
use Rattle.world_parts.specs.Naming.{named}
use Rattle.view_world.specs.world.Step.{bounds_in, bounds_reported, touch_asked}
use Rattle.world_parts.specs.Reply.{with_named}
use Rattle.view_world.specs.frames.Watched.{IsWorth}
use Rattle.world_parts.specs.World.{World, empty_world}
use Rattle.world_parts.specs.World as plain
use Rattle.view_world.specs.declared.screen.stage.Stage.{Stage}
use Rattle.view_world.specs.declared.screen.stage.Stage.TheVariants as early

-- the answer in a window with views at a stage

abbrev pub answer_at : World → Question → Option Size → Forest PlainView → plain.Stage → Result (Option ℕ) ℕ
answer_at world question window tree stage = answer_by world question (touch_asked window tree stage (bounds_reported world (Some question.view)))

abbrev pub by_stage : World → Question → plain.Stage → Result (Option ℕ) ℕ
by_stage world question plain.NoWindow = Err NO_FRAME
by_stage world question plain.NoFrame = Err NO_FRAME
by_stage world question plain.Unsettled = Err UNSETTLED
by_stage world question plain.Settled = answer_by world question (bounds_reported world (Some question.view))

no_rows : (rows : Forest Row) (held : ℕ → Held) (root : Option ℕ) → root ≡ first_key rows → is_none root ≡ true → plain_rows held rows ≡ Nothing
no_rows Nothing held root er none = refl
no_rows (Branch row kids siblings) held root er none = absurd (let e = ap is_none er in cc)

some_rows : (world : World) (question : Question) (window : Size) (rows : Forest Row) (held : ℕ → Held) (root : Option ℕ) (stage : plain.Stage) → root ≡ first_key rows → is_none root ≡ false
    → answer_at world question (Some window) (plain_rows held rows) stage ≡ by_stage world question stage
some_rows world question window Nothing held root stage er some = absurd (let e = ap is_none er in cc)
some_rows world question window (Branch row kids siblings) held root plain.NoWindow er some = refl
some_rows world question window (Branch row kids siblings) held root plain.NoFrame er some = refl
some_rows world question window (Branch row kids siblings) held root plain.Unsettled er some = refl
some_rows world question window (Branch row kids siblings) held root plain.Settled er some = refl

pub answer-no_window : (screen : KeyedScreen) (question : Question) → window_of screen ≡ None → Err NO_WINDOW ≡ answer_of (world_of screen) question
answer-no_window screen question none =
    let world = world_of screen in
    sym (ap (λ (window : Option Size). answer_at world question window world.tree world.stage) none)

pub answer-no_root : (screen : KeyedScreen) (question : Question) (window : Size) (root : Option ℕ) → window_of screen ≡ Some window → root ≡ first_key screen.views.tree → is_none root ≡ true
    → Err NO_ROOT ≡ answer_of (world_of screen) question
answer-no_root screen question window root some er none =
    let world = world_of screen in
    sym (ap (λ (window : Option Size). answer_at world question window world.tree world.stage) some
    ∙ ap (λ (tree : Forest PlainView). answer_at world question (Some window) tree world.stage) (no_rows screen.views.tree (held_of screen.views) root er none))

pub answer-stage : (screen : KeyedScreen) (question : Question) (window : Size) (root : Option ℕ) (stage : Stage) → window_of screen ≡ Some window → root ≡ first_key screen.views.tree → is_none root ≡ false
    → screen.stage ≡ stage → answer_of (world_of screen) question ≡ by_stage (world_of screen) question (stage_of stage)
answer-stage screen question window root stage some er there at =
    let world = world_of screen in
    ap (λ (window : Option Size). answer_at world question window world.tree world.stage) some
    ∙ some_rows world question window screen.views.tree (held_of screen.views) root world.stage er there
    ∙ ap (λ (stage : Stage). by_stage world question (stage_of stage)) at

pub answer-no_frame : (screen : KeyedScreen) (question : Question) (window : Size) (root : Option ℕ) (stage : Stage) → window_of screen ≡ Some window → root ≡ first_key screen.views.tree
    → is_none root ≡ false → screen.stage ≡ stage → (stage ≡ early.NoWindow) ⊎ (stage ≡ early.NoFrame) → Err NO_FRAME ≡ answer_of (world_of screen) question
answer-no_frame screen question window root stage some er there at (inl is) = sym (answer-stage screen question window root early.NoWindow some er there (at ∙ is))
answer-no_frame screen question window root stage some er there at (inr is) = sym (answer-stage screen question window root early.NoFrame some er there (at ∙ is))

pub answer-no_view : (world : World) (question : Question) → named world.tree question.view ≡ None → by_stage world question plain.Settled ≡ Err NO_VIEW
answer-no_view world question none =
    ap (λ (found : Option ℕ). answer_by world question (with_named found (λ number. bounds_in world (view_in world.tree number)))) none

reported_answer : (world : World) (question : Question) (found : Option PlainView) → answer_by world question (bounds_in world found) ≡ Ok (next_in world question.side world.window (named world.tree question.view))
reported_answer world question None = refl
reported_answer world question (Some view) = refl

pub answer-view : (world : World) (question : Question) (window : Size) (number : ℕ) → world.window ≡ Some window → named world.tree question.view ≡ Some number
    → by_stage world question plain.Settled ≡ Ok (next_focus world.tree world.geometry window number question.side)
answer-view world question window number some found =
    ap (λ (found : Option ℕ). answer_by world question (with_named found (λ number. bounds_in world (view_in world.tree number)))) found
    ∙ reported_answer world question (view_in world.tree number)
    ∙ ap (λ (window : Option Size). Ok (next_in world question.side window (named world.tree question.view))) some
    ∙ ap (λ (found : Option ℕ). Ok (next_in world question.side (Some window) found)) found

-- how a run with a question ends

-- the script ended, and the answer was written
pub asks_answered : (files : Files) (script : List ℕ) (question : Question) (left : Option (List ℕ)) (first mid : Trace) (gone : Option (List ℕ)) (refused unanswered : Bool) (answer : Result (Option ℕ) ℕ) (world : World)
    → RunsTo (Alone empty_world) (record { files = files; script = script }) left first mid (Ok refused) → world ≡ world_in (after_lines files (lines_of script)).carried → answer ≡ answer_of world question → unanswered ≡ is_err answer
    → Appends mid.gone gone (answer_text answer) → AsksTo (record { files = files; script = script }) question left first (record mid { gone = gone }) (Ok (refused || unanswered))
asks_answered files script question left first mid gone refused unanswered answer world runs same is failed sent =
    let answered : answer ≡ script_answer script files question = is ∙ ap (λ (world : World). answer_of world question) same in (
      record {
        short = runs.0;
        gone = appends_both first.gone mid.gone gone (transcript script files) (answer_text (script_answer script files question)) runs.1.gone
            (subst (λ (answer : Result (Option ℕ) ℕ). Appends mid.gone gone (answer_text answer)) answered sent);
        worth = runs.1.worth;
        fetched = runs.1.fetched;
      },
      ap (λ (refused : Bool). refused || unanswered) runs.2 ∙ ap (λ (unanswered : Bool). has_refusal script files || unanswered) (failed ∙ ap is_err answered),
    )

-- the same where the write failed
pub asks_cut : (files : Files) (script : List ℕ) (question : Question) (left : Option (List ℕ)) (first mid : Trace) (gone : Option (List ℕ)) (refused : Bool) (answer : Result (Option ℕ) ℕ) (world : World)
    → RunsTo (Alone empty_world) (record { files = files; script = script }) left first mid (Ok refused) → world ≡ world_in (after_lines files (lines_of script)).carried → answer ≡ answer_of world question
    → AppendsPrefix mid.gone gone (answer_text answer) → AsksTo (record { files = files; script = script }) question left first (record mid { gone = gone }) (Err (ends.Stopped stop.Sink))
asks_cut files script question left first mid gone refused answer world runs same is part =
    let answered : answer ≡ script_answer script files question = is ∙ ap (λ (world : World). answer_of world question) same in
    inr (
      refl,
      record {
        short = runs.0;
        between = mid.gone;
        gone = runs.1.gone;
        part = subst (λ (answer : Result (Option ℕ) ℕ). AppendsPrefix mid.gone gone (answer_text answer)) answered part;
        worth = runs.1.worth;
        fetched = runs.1.fetched;
      },
    )

whole_part : (files : Files) (script : List ℕ) (old new : Work) → length script ≤ max_script → IsWorth (costs_of_script script files) old new → WorksPartFrom (Alone empty_world) files old new (carried_lines script)
whole_part files script old new short worth = record {
  done = lines_of script;
  left = [];
  all = append-nil (lines_of script) ∙ sym (carried_short script short);
  worth = worth;
}

asks_ended : (files : Files) (script : List ℕ) (question : Question) (left : Option (List ℕ)) (first last : Trace) (status : ℕ) → status ≤ 1 → Answers files script question first last
    → status ≡ (if refuses_focus script files question then 1 else 0) → AsksWith files script question left first last status
asks_ended files script question left first last status small answers reported = record {
  writes = λ _. record { whole = λ _. answers.gone; part = whole_prefix first.gone last.gone _ answers.gone };
  cut = λ long. absurd (let short = answers.short in omega (arith, short, long));
  part = whole_part files script first.work last.work answers.short answers.worth;
  ended = λ _. (answers, reported);
  taken = λ e. absurd (omega (arith, small, e));
  failed_write = λ e. absurd (omega (arith, small, e));
  no_memory = λ e. absurd (omega (arith, small, e));
  failed_fetch = λ e. absurd (omega (arith, small, e));
  long = λ e. absurd (omega (arith, small, e));
}

-- a status of a run that did not reach its end
unended : (end : End) → 2 ≤ status_of (Err end)
unended ends.Source = omega arith
unended ends.Long = omega arith
unended (ends.Stopped stop.Sink) = omega arith
unended (ends.Stopped stop.NoMemory) = omega arith
unended (ends.Stopped stop.Shelf) = omega arith

asks_unended : (files : Files) (script : List ℕ) (question : Question) (left : Option (List ℕ)) (first last : Trace) (status : ℕ) → 2 ≤ status → RunsWith (Alone empty_world) files script left first.gone last.gone status
    → WorksWithFrom (Alone empty_world) files script left first last status → AsksWith files script question left first last status
asks_unended files script question left first last status big runs works = record {
  writes = λ short. record {
    whole = λ ended. absurd (not_ended status big ended);
    part = prefix_of_first first.gone last.gone (transcript script files) (answer_text (script_answer script files question))
        (subst (λ (lines : List Line). AppendsPrefix first.gone last.gone (after_lines files lines).text) (carried_short script short) runs.writes.part);
  };
  cut = λ long. subst (λ (lines : List Line). AppendsPrefix first.gone last.gone (after_lines files lines).text) (carried_long script long) runs.writes.part;
  part = works.part;
  ended = λ ended. absurd (not_ended status big ended);
  taken = works.taken;
  failed_write = λ e. inl (works.failed_write e);
  no_memory = works.no_memory;
  failed_fetch = works.failed_fetch;
  long = λ e. ((runs.long e).0, works.long e);
}

asks_cut_off : (files : Files) (script : List ℕ) (question : Question) (left : Option (List ℕ)) (first last : Trace) → CutsAnswer files script question first last → AsksWith files script question left first last 4
asks_cut_off files script question left first last cuts = record {
  writes = λ _. record {
    whole = λ ended. absurd (not_ended 4 (omega arith) ended);
    part = prefix_of_second first.gone cuts.between last.gone (transcript script files) (answer_text (script_answer script files question)) cuts.gone cuts.part;
  };
  cut = λ long. absurd (let short = cuts.short in omega (arith, short, long));
  part = whole_part files script first.work last.work cuts.short cuts.worth;
  ended = λ ended. absurd (not_ended 4 (omega arith) ended);
  taken = λ e. absurd (omega arith);
  failed_write = λ _. inr cuts;
  no_memory = λ e. absurd (omega arith);
  failed_fetch = λ e. absurd (omega arith);
  long = λ e. absurd (omega arith);
}

pub asks_with : (files : Files) (script : List ℕ) (question : Question) (left : Option (List ℕ)) (first last : Trace) (outcome : Result Bool End) → AsksTo (record { files = files; script = script }) question left first last outcome
    → AsksWith files script question left first last (status_of outcome)
asks_with files script question left first last (Ok true) asks = asks_ended files script question left first last 1 (omega arith) asks.0 (ap (λ b. cond b 1 0) asks.1)
asks_with files script question left first last (Ok false) asks = asks_ended files script question left first last 0 (omega arith) asks.0 (ap (λ b. cond b 1 0) asks.1)
asks_with files script question left first last (Err end) (inl runs) =
    asks_unended files script question left first last (status_of (Err end)) (unended end) (runs_with (Alone empty_world) files script left first last (Err end) runs) (works_with (Alone empty_world) files script left first last (Err end) runs)
asks_with files script question left first last (Err end) (inr cuts) =
    subst (λ (end : End). AsksWith files script question left first last (status_of (Err end))) (sym cuts.0) (asks_cut_off files script question left first last cuts.1)
