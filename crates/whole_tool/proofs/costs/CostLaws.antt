-- What was counted in a run, and in a load: in any case what the first lines cost.
use Rattle.std.proofs.Common.{◌≡◌, ℕ, ◌≤◌, length, List, [], ◌∷◌, ◌++◌, append_assoc, refl, sym, subst, arith, ◌∙◌}
use Rattle.std.specs.Prelude.{Bool, true, false, Option, Result, Ok, Err}
use Rattle.std.proofs.lemmas.List.{append-nil}
use Rattle.load_maker.specs.Load.{load}
use Rattle.script_lines.specs.cutting.Lines.{Line, cut_of, lines_of}
use Rattle.tool_io.specs.Fetched.{Files}
use Rattle.view_model.specs.declared.work.Work.{Work}
use Rattle.whole_tool.specs.Carried.{Carried, Alone}
use Rattle.whole_tool.specs.declared.run.Stop.{Stop}
use Rattle.whole_tool.specs.declared.run.Stop.TheVariants as stop
use Rattle.whole_tool.specs.declared.script.End.{End}
use Rattle.whole_tool.specs.declared.script.End.TheVariants as end
use Rattle.whole_tool.specs.Run.{StopsIn}
use Rattle.whole_tool.specs.Script.{RunsTo, WorksTaken}
use Rattle.whole_tool.specs.Tally.{costs_from, costs_of_script, tally_from}
use Rattle.whole_tool.specs.Tool.{status_of}
use Rattle.whole_tool.specs.Transcript.{carried_lines, max_script}
use Rattle.whole_tool.specs.Works.{Trace, Works, WorksPartFrom}
use Rattle.whole_tool.specs.WorksWith.{WorksWithFrom}
use Rattle.whole_tool.proofs.lines.LongScriptLaws.{carried_front, carried_short}
use Rattle.whole_tool.proofs.lines.RunLaws.{parts_further}
use Rattle.whole_tool.proofs.costs.SumLaws.{worth_none}
use Rattle.tool_replies.proofs.EndingLaws.{not_ended}
use Rattle.view_world.specs.frames.Watched.{IsWorth}
use Rattle.world_parts.specs.World.{empty_world}

pub works_none : (start : Carried) (files : Files) (work : Work) (lines : List Line) → WorksPartFrom start files work work lines
unfolding tally_from
works_none start files work lines = record { done = []; left = lines; all = refl; worth = worth_none work }

pub works_whole : (start : Carried) (files : Files) (first last : Trace) (lines : List Line) → Works start files first last lines → WorksPartFrom start files first.work last.work lines
works_whole start files first last lines w = record { done = lines; left = []; all = append-nil lines; worth = w.worth }

pub works_further : (start : Carried) (files : Files) (old new : Work) (lines more all : List Line) → lines ++ more ≡ all → WorksPartFrom start files old new lines → WorksPartFrom start files old new all
works_further start files old new lines more all e w = record { done = w.done; left = w.left ++ more; all = parts_further w.done w.left lines more all w.all e; worth = w.worth }

-- those of a run that has stopped
pub works_stopped : (start : Carried) (files : Files) (first last : Trace) (lines : List Line) (stop : Stop) → StopsIn start files first last lines stop → WorksPartFrom start files first.work last.work lines
works_stopped start files first last lines stop.Sink w = record { done = w.done ++ w.line ∷ []; left = w.left; all = append_assoc w.done (w.line ∷ []) w.left ∙ w.all; worth = w.worth }
works_stopped start files first last lines stop.NoMemory w = record { done = w.done; left = w.line ∷ w.left; all = w.all; worth = w.worth }
works_stopped start files first last lines stop.Shelf w = record { done = w.done; left = w.line ∷ w.left; all = w.all; worth = w.worth }

works_ended : (start : Carried) (files : Files) (script : List ℕ) (left : Option (List ℕ)) (first last : Trace) (status : ℕ) → status ≤ 1 → length script ≤ max_script → Works start files first last (lines_of script)
    → WorksWithFrom start files script left first last status
works_ended start files script left first last status small short w =
    record {
      part = works_whole start files first last (carried_lines script) (subst (Works start files first last) (sym (carried_short script short)) w);
      ended = λ _. w;
      taken = λ e. absurd (omega (arith, small, e));
      failed_write = λ e. absurd (omega (arith, small, e));
      no_memory = λ e. absurd (omega (arith, small, e));
      failed_fetch = λ e. absurd (omega (arith, small, e));
      long = λ e. absurd (omega (arith, small, e));
    }

works_taken : (start : Carried) (files : Files) (script : List ℕ) (left : Option (List ℕ)) (first last : Trace) → WorksTaken start files script left first last → WorksPartFrom start files first.work last.work (carried_lines script)
works_taken start files script left first last w =
    let more = carried_front script w.taken w.takes.rest w.takes.front w.within in
    works_further start files first.work last.work (cut_of w.taken).lines more.0 (carried_lines script) more.1 (works_whole start files first last (cut_of w.taken).lines w.works)

pub works_with : (start : Carried) (files : Files) (script : List ℕ) (left : Option (List ℕ)) (first last : Trace) (outcome : Result Bool End) → RunsTo start (record { files = files; script = script }) left first last outcome
    → WorksWithFrom start files script left first last (status_of outcome)
works_with start files script left first last (Ok true) r = works_ended start files script left first last 1 (omega arith) r.0 r.1
works_with start files script left first last (Ok false) r = works_ended start files script left first last 0 (omega arith) r.0 r.1
works_with start files script left first last (Err end.Source) r = record {
  part = works_taken start files script left first last r;
  ended = λ e. absurd (not_ended 3 (omega arith) e);
  taken = λ _. r;
  failed_write = λ e. absurd (omega arith);
  no_memory = λ e. absurd (omega arith);
  failed_fetch = λ e. absurd (omega arith);
  long = λ e. absurd (omega arith);
}
works_with start files script left first last (Err end.Long) r = record {
  part = works_whole start files first last (carried_lines script) r.1;
  ended = λ e. absurd (not_ended 7 (omega arith) e);
  taken = λ e. absurd (omega arith);
  failed_write = λ e. absurd (omega arith);
  no_memory = λ e. absurd (omega arith);
  failed_fetch = λ e. absurd (omega arith);
  long = λ _. r.1;
}
works_with start files script left first last (Err (end.Stopped stop.Sink)) r = record {
  part = works_stopped start files first last (carried_lines script) stop.Sink r;
  ended = λ e. absurd (not_ended 4 (omega arith) e);
  taken = λ e. absurd (omega arith);
  failed_write = λ _. r;
  no_memory = λ e. absurd (omega arith);
  failed_fetch = λ e. absurd (omega arith);
  long = λ e. absurd (omega arith);
}
works_with start files script left first last (Err (end.Stopped stop.NoMemory)) r = record {
  part = works_stopped start files first last (carried_lines script) stop.NoMemory r;
  ended = λ e. absurd (not_ended 5 (omega arith) e);
  taken = λ e. absurd (omega arith);
  failed_write = λ e. absurd (omega arith);
  no_memory = λ _. r;
  failed_fetch = λ e. absurd (omega arith);
  long = λ e. absurd (omega arith);
}
works_with start files script left first last (Err (end.Stopped stop.Shelf)) r = record {
  part = works_stopped start files first last (carried_lines script) stop.Shelf r;
  ended = λ e. absurd (not_ended 6 (omega arith) e);
  taken = λ e. absurd (omega arith);
  failed_write = λ e. absurd (omega arith);
  no_memory = λ e. absurd (omega arith);
  failed_fetch = λ _. r;
  long = λ e. absurd (omega arith);
}

-- what was counted in a load

pub load_worth : (n : ℕ) (script : List ℕ) (old new : Work) → script ≡ load n → IsWorth (costs_from (Alone empty_world) [] (lines_of script)) old new → IsWorth (costs_of_script (load n) []) old new
load_worth n script old new made worth = subst (λ (l : List ℕ). IsWorth (costs_of_script l []) old new) made worth

pub load_works : (n : ℕ) (script : List ℕ) (old new : Work) → script ≡ load n → WorksPartFrom (Alone empty_world) [] old new (lines_of script) → WorksPartFrom (Alone empty_world) [] old new (lines_of (load n))
load_works n script old new made works = subst (λ (l : List ℕ). WorksPartFrom (Alone empty_world) [] old new (lines_of l)) made works
