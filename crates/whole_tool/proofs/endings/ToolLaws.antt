-- How a run ends with a status.
use Rattle.std.proofs.Common.{◌≡◌, ℕ, ◌≤◌, cond, length, List, [], ◌∷◌, ◌++◌, append_assoc, refl, ap, sym, subst, arith, inl, inr, ◌∙◌}
use Rattle.std.specs.Prelude.{◌⊎◌, nat_lt, Bool, true, false, ◌==◌, if◌then◌else◌, Option, Result, Ok, Err}
use Rattle.std.specs.Io.KnownBytes.{Appends}
use Rattle.script_lines.specs.cutting.Lines.{Line, cut_of, lines_of}
use Rattle.text_lines.specs.Prefix.{AppendsPrefix}
use Rattle.text_lines.proofs.Prefixes.{prefix_of_second}
use Rattle.tool_replies.proofs.EndingLaws.{not_ended, whole_prefix}
use Rattle.whole_tool.specs.Carried.{Carried}
use Rattle.whole_tool.specs.declared.run.Stop.TheVariants as stop
use Rattle.whole_tool.specs.declared.script.End.{End}
use Rattle.whole_tool.specs.declared.script.End.TheVariants as end
use Rattle.whole_tool.specs.Run.{StopsAtFetchFrom, StopsBeforeFrom}
use Rattle.whole_tool.specs.Script.{CountsEnd, RunsTo, WorksTaken, WritesTakenFrom, ends_counted, reads_counted}
use Rattle.tool_replies.specs.Endings.{IsComplete}
use Rattle.whole_tool.specs.Tool.{RunsWith, status_of}
use Rattle.tool_io.specs.Counts.{raised}
use Rattle.tool_io.specs.Fetched.{Files}
use Rattle.tool_io.proofs.Counting.{raised_later}
use Rattle.whole_tool.specs.Transcript.{after_from, carried_lines, max_script}
use Rattle.whole_tool.proofs.lines.LongScriptLaws.{carried_front, carried_short}
use Rattle.whole_tool.specs.Works.{Trace, WorksBefore, WorksToFetch, WorksToWrite}
use Rattle.whole_tool.proofs.lines.RunLaws.{line_after, prefix_lines}

-- a run that got to the end of its script
ended_with : (start : Carried) (files : Files) (script : List ℕ) (left first last : Option (List ℕ)) (status : ℕ) → status ≤ 1 → IsComplete status → length script ≤ max_script
    → Appends first last (after_from start files (lines_of script)).text → status ≡ (if nat_lt 0 (after_from start files (lines_of script)).refused then 1 else 0) → RunsWith start files script left first last status
ended_with start files script left first last status small ended short gone reported =
    let text = subst (λ (l : List Line). Appends first last (after_from start files l).text) (sym (carried_short script short)) gone in
    record {
      writes = record { whole = λ _. text; part = whole_prefix first last (after_from start files (carried_lines script)).text text };
      ended = λ _. (short, reported);
      taken = λ e. absurd (omega (arith, small, e));
      no_memory = λ e. absurd (omega (arith, small, e));
      failed_fetch = λ e. absurd (omega (arith, small, e));
      long = λ e. absurd (omega (arith, small, e));
    }

taken_prefix : (start : Carried) (files : Files) (script : List ℕ) (left first last : Option (List ℕ)) → WritesTakenFrom start files script left first last → AppendsPrefix first last (after_from start files (carried_lines script)).text
taken_prefix start files script left first last t =
    let more = carried_front script t.taken t.takes.rest t.takes.front t.within in
    prefix_lines start files first last (cut_of t.taken).lines more.0 (carried_lines script) more.1 (whole_prefix first last (after_from start files (cut_of t.taken).lines).text t.text)

stopped_prefix : (start : Carried) (files : Files) (lines : List Line) (first last : Option (List ℕ)) → StopsBeforeFrom start files first last lines → AppendsPrefix first last (after_from start files lines).text
stopped_prefix start files lines first last s = prefix_lines start files first last s.done (s.line ∷ s.left) lines s.all (whole_prefix first last (after_from start files s.done).text s.gone)

fetch_prefix : (start : Carried) (files : Files) (lines : List Line) (first last : Option (List ℕ)) → StopsAtFetchFrom start files first last lines → AppendsPrefix first last (after_from start files lines).text
fetch_prefix start files lines first last s =
    prefix_lines start files first last s.done (s.line ∷ s.left) lines s.all (whole_prefix first last (after_from start files s.done).text s.gone)

-- what was written in a run, by what was also counted in it

written_taken : (start : Carried) (files : Files) (script : List ℕ) (left : Option (List ℕ)) (first last : Trace) → WorksTaken start files script left first last → WritesTakenFrom start files script left first.gone last.gone
written_taken start files script left first last w = record { taken = w.taken; takes = w.takes; within = w.within; text = w.works.gone }

written_before : (start : Carried) (files : Files) (lines : List Line) (first last : Trace) → WorksBefore start files first last lines → StopsBeforeFrom start files first.gone last.gone lines
written_before start files lines first last w = record { done = w.done; line = w.line; left = w.left; all = w.all; wants = w.wants; gone = w.gone }

written_to_fetch : (start : Carried) (files : Files) (lines : List Line) (first last : Trace) → WorksToFetch start files first last lines → StopsAtFetchFrom start files first.gone last.gone lines
written_to_fetch start files lines first last w = record { done = w.done; line = w.line; left = w.left; all = w.all; asks = w.asks; gone = w.gone }

written_part : (start : Carried) (files : Files) (lines : List Line) (first last : Trace) → WorksToWrite start files first last lines → AppendsPrefix first.gone last.gone (after_from start files lines).text
written_part start files lines first last w =
    prefix_lines start files first.gone last.gone (w.done ++ w.line ∷ []) w.left lines (append_assoc w.done (w.line ∷ []) w.left ∙ w.all)
    (subst (AppendsPrefix first.gone last.gone) (sym (line_after start files w.done w.line)) (prefix_of_second first.gone w.between last.gone (after_from start files w.done).text _ w.gone w.part))

pub runs_with : (start : Carried) (files : Files) (script : List ℕ) (left : Option (List ℕ)) (first last : Trace) (outcome : Result Bool End) → RunsTo start (record { files = files; script = script }) left first last outcome
    → RunsWith start files script left first.gone last.gone (status_of outcome)
runs_with start files script left first last (Ok true) r = ended_with start files script left first.gone last.gone 1 (omega arith) (inr refl) r.0 r.1.gone (ap (λ b. cond b 1 0) r.2)
runs_with start files script left first last (Ok false) r = ended_with start files script left first.gone last.gone 0 (omega arith) (inl refl) r.0 r.1.gone (ap (λ b. cond b 1 0) r.2)
runs_with start files script left first last (Err end.Source) r =
    let taken = written_taken start files script left first last r in
    record {
      writes = record { whole = λ e. absurd (not_ended 3 (omega arith) e); part = taken_prefix start files script left first.gone last.gone taken };
      ended = λ e. absurd (not_ended 3 (omega arith) e);
      taken = λ _. taken;
      no_memory = λ e. absurd (omega arith);
      failed_fetch = λ e. absurd (omega arith);
      long = λ e. absurd (omega arith);
    }
runs_with start files script left first last (Err end.Long) r = record {
  writes = record { whole = λ e. absurd (not_ended 7 (omega arith) e); part = whole_prefix first.gone last.gone (after_from start files (carried_lines script)).text r.1.gone };
  ended = λ e. absurd (not_ended 7 (omega arith) e);
  taken = λ e. absurd (omega arith);
  no_memory = λ e. absurd (omega arith);
  failed_fetch = λ e. absurd (omega arith);
  long = λ _. (r.0, r.1.gone);
}
runs_with start files script left first last (Err (end.Stopped stop.Sink)) r = record {
  writes = record { whole = λ e. absurd (not_ended 4 (omega arith) e); part = written_part start files (carried_lines script) first last r };
  ended = λ e. absurd (not_ended 4 (omega arith) e);
  taken = λ e. absurd (omega arith);
  no_memory = λ e. absurd (omega arith);
  failed_fetch = λ e. absurd (omega arith);
  long = λ e. absurd (omega arith);
}
runs_with start files script left first last (Err (end.Stopped stop.NoMemory)) r =
    let before = written_before start files (carried_lines script) first last r in
    record {
      writes = record { whole = λ e. absurd (not_ended 5 (omega arith) e); part = stopped_prefix start files (carried_lines script) first.gone last.gone before };
      ended = λ e. absurd (not_ended 5 (omega arith) e);
      taken = λ e. absurd (omega arith);
      no_memory = λ _. before;
      failed_fetch = λ e. absurd (omega arith);
      long = λ e. absurd (omega arith);
    }
runs_with start files script left first last (Err (end.Stopped stop.Shelf)) r =
    let before = written_to_fetch start files (carried_lines script) first last r in
    record {
      writes = record { whole = λ e. absurd (not_ended 6 (omega arith) e); part = fetch_prefix start files (carried_lines script) first.gone last.gone before };
      ended = λ e. absurd (not_ended 6 (omega arith) e);
      taken = λ e. absurd (omega arith);
      no_memory = λ e. absurd (omega arith);
      failed_fetch = λ _. before;
      long = λ e. absurd (omega arith);
    }

-- the counts of failed calls, by the status
pub source_by_status : (outcome : Result Bool End) (faults : ℕ) → reads_counted outcome faults ≡ (if status_of outcome == 3 then raised faults else faults)
source_by_status (Ok true) faults = refl
source_by_status (Ok false) faults = refl
source_by_status (Err end.Source) faults = refl
source_by_status (Err end.Long) faults = refl
source_by_status (Err (end.Stopped stop.Sink)) faults = refl
source_by_status (Err (end.Stopped stop.NoMemory)) faults = refl
source_by_status (Err (end.Stopped stop.Shelf)) faults = refl

pub sink_by_status : (outcome : Result Bool End) (faults : ℕ) → ends_counted outcome faults ≡ (if status_of outcome == 4 then raised faults else faults)
sink_by_status (Ok true) faults = refl
sink_by_status (Ok false) faults = refl
sink_by_status (Err end.Source) faults = refl
sink_by_status (Err end.Long) faults = refl
sink_by_status (Err (end.Stopped stop.Sink)) faults = refl
sink_by_status (Err (end.Stopped stop.NoMemory)) faults = refl
sink_by_status (Err (end.Stopped stop.Shelf)) faults = refl

pub shelf_by_status : (outcome : Result Bool End) (before now : ℕ) → CountsEnd before now outcome → (status_of outcome ≡ 5 → ⊥)
    → now ≡ (if status_of outcome == 6 then raised before else before)
shelf_by_status (Ok true) before now counted not_5 = counted
shelf_by_status (Ok false) before now counted not_5 = counted
shelf_by_status (Err end.Source) before now counted not_5 = counted
shelf_by_status (Err end.Long) before now counted not_5 = counted
shelf_by_status (Err (end.Stopped stop.Sink)) before now counted not_5 = counted
shelf_by_status (Err (end.Stopped stop.NoMemory)) before now counted not_5 = absurd (not_5 refl)
shelf_by_status (Err (end.Stopped stop.Shelf)) before now counted not_5 = counted

-- no run lowers the count of a shelf
pub shelf_later : (outcome : Result Bool End) (before now : ℕ) → CountsEnd before now outcome → before ≤ now
shelf_later (Ok refused) before now counted = omega (arith, counted)
shelf_later (Err end.Source) before now counted = omega (arith, counted)
shelf_later (Err end.Long) before now counted = omega (arith, counted)
shelf_later (Err (end.Stopped stop.Sink)) before now counted = omega (arith, counted)
shelf_later (Err (end.Stopped stop.NoMemory)) before now counted = counted
shelf_later (Err (end.Stopped stop.Shelf)) before now counted = omega (arith, counted, raised_later before)

-- a run that met no failed call and no long script has ended, unless there was no memory
pub ends_whole : (outcome : Result Bool End) → (status_of outcome ≡ 3 → ⊥) → (status_of outcome ≡ 4 → ⊥) → (status_of outcome ≡ 6 → ⊥) → (status_of outcome ≡ 7 → ⊥)
    → IsComplete (status_of outcome) ⊎ (status_of outcome ≡ 5)
ends_whole (Ok true) no_3 no_4 no_6 no_7 = inl (inr refl)
ends_whole (Ok false) no_3 no_4 no_6 no_7 = inl (inl refl)
ends_whole (Err end.Source) no_3 no_4 no_6 no_7 = absurd (no_3 refl)
ends_whole (Err end.Long) no_3 no_4 no_6 no_7 = absurd (no_7 refl)
ends_whole (Err (end.Stopped stop.Sink)) no_3 no_4 no_6 no_7 = absurd (no_4 refl)
ends_whole (Err (end.Stopped stop.NoMemory)) no_3 no_4 no_6 no_7 = inr refl
ends_whole (Err (end.Stopped stop.Shelf)) no_3 no_4 no_6 no_7 = absurd (no_6 refl)
