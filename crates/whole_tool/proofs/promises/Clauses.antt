-- Each clause that a record of promises has, of the values that a call has, follows from that record.
use Rattle.std.proofs.Common.{◌≡◌, ◌≢◌, ℕ, ◌+◌, ◌-◌, ◌^◌, ◌≤◌, ◌<◌, List, [], ◌∷◌, length, min}
use Rattle.std.specs.Prelude.{◌⊎◌, ◌==◌, if◌then◌else◌, Option, ◌↔◌}
use Rattle.std.specs.Io.KnownBytes.{Appends, Consumes, IsAtEnd}
use Rattle.load_maker.specs.Load.{load}
use Rattle.script_lines.specs.cutting.Lines.{lines_of}
use Rattle.stack_worlds.specs.PlainStack.{empty_stack}
use Rattle.tool_io.specs.Counts.{raised, Rose}
use Rattle.tool_io.specs.Fetched.{Files}
use Rattle.tool_io.specs.Fetches.{Fetches, with_fetch, with_fetches}
use Rattle.tool_io.specs.SinkState.{SinkState}
use Rattle.view_world.specs.frames.Watched.{IsWorth}
use Rattle.world_parts.specs.Shelves.{layout_fetch}
use Rattle.world_parts.specs.World.{empty_world}
use Rattle.whole_tool.specs.Carried.{Alone, Stacked}
use Rattle.tool_replies.specs.Dump.{dump_page, refuses_file}
use Rattle.whole_tool.specs.Focus.{AsksWith, IsFocusOf, focus_page, refuses_focus}
use Rattle.whole_tool.specs.Gen.{gen_page}
use Rattle.tool_replies.specs.Lookup.{lookup_page, refuses_table, table_fetch}
use Rattle.whole_tool.specs.Promises.{FetchesFiles, CountsWork, HasStatus, LeavesAlone, LeavesRest, ReportsFailures, ReportsRefusals, Stops, WritesPages, failures}
use Rattle.whole_tool.specs.Tally.{costs_of_script, costs_of_stack}
use Rattle.tool_replies.specs.Endings.{IsOneOf, Writes, IsComplete}
use Rattle.whole_tool.specs.Tool.{IsRunOf, RunsWith, given, IsDumpOf, IsLookupOf, IsStackOf}
use Rattle.whole_tool.specs.Transcript.{max_script, carried_lines, cut_transcript, has_refusal, refuses_in_stack, stack_page}
use Rattle.whole_tool.specs.Usage.{Usage, Run, Stack, Dump, Gen, Lookup, Focus, Unknown}
use Rattle.whole_tool.specs.Works.{WorksPart, trace, fetches_from}
use Rattle.whole_tool.specs.WorksWith.{WorksWithFrom, WorksWith}
use Rattle.whole_tool.specs.declared.focusing.Question.{Question}
use Rattle.view_model.specs.declared.work.Work.{Work}
use Rattle.whole_tool.specs.Run.{StopsAtFetch, StopsBefore}
use Rattle.whole_tool.specs.Script.{WritesTaken}
use Rattle.whole_tool.specs.StackPage.{IsPageIsolated}

-- for its own sake: the promise `refused`, from its record
pub refused-from_refusals : {form : Usage} {left : Option (List ℕ)} {held : Option Files} {status : ℕ}
    → ReportsRefusals (given form left held) status
    → ((script : List ℕ) (files : Files) → IsRunOf (given form left held) script files → length script ≤ max_script → IsComplete status → status ≡ (if has_refusal script files then 1 else 0))
refused-from_refusals promises = promises.refused

-- for its own sake: the promise `read_to_end`, from its record
pub read_to_end-from_left : {form : Usage} {left left' : Option (List ℕ)} {held held' : Option Files} {status : ℕ}
    → LeavesRest (given form left held) left' held' status
    → (form ≡ Run → IsComplete status → IsAtEnd left')
read_to_end-from_left promises = promises.read_to_end

-- for its own sake: the promise `dump`, from its record
pub dump-from_written : {form : Usage} {left : Option (List ℕ)} {held : Option Files} {status : ℕ} (sink sink' : SinkState)
    → WritesPages (given form left held) sink.gone sink'.gone status
    → ((name : List ℕ) (files : Files) → IsDumpOf (given form left held) name files → Writes status sink.gone sink'.gone (dump_page files name))
dump-from_written sink sink' promises = promises.dump

-- for its own sake: the promise `dump_refused`, from its record
pub dump_refused-from_refusals : {form : Usage} {left : Option (List ℕ)} {held : Option Files} {status : ℕ}
    → ReportsRefusals (given form left held) status
    → ((name : List ℕ) (files : Files) → IsDumpOf (given form left held) name files → IsComplete status → status ≡ (if refuses_file files name then 1 else 0))
dump_refused-from_refusals promises = promises.dump_refused

-- for its own sake: the promise `dump_reads_no_script`, from its record
pub dump_reads_no_script-from_alone : {S K F : Type 0} {form : Usage} {work work' : Work} {status : ℕ} {source source' : S} {old_sink new_sink : K} {shelf shelf' : F}
    → LeavesAlone form status (source' ≡ source) (new_sink ≡ old_sink) (shelf' ≡ shelf) (work' ≡ work)
    → ((name : List ℕ) → form ≡ Dump name → source' ≡ source)
dump_reads_no_script-from_alone promises = promises.dump_reads_no_script

-- for its own sake: the promise `usage`, from its record
pub usage-from_alone : {S K F : Type 0} {form : Usage} {work work' : Work} {status : ℕ} {source source' : S} {old_sink new_sink : K} {shelf shelf' : F}
    → LeavesAlone form status (source' ≡ source) (new_sink ≡ old_sink) (shelf' ≡ shelf) (work' ≡ work)
    → ((status ≡ 2) ↔ (form ≡ Unknown))
usage-from_alone promises = promises.usage

-- for its own sake: the promise `untouched`, from its record
pub untouched-from_alone : {S K F : Type 0} {form : Usage} {work work' : Work} {status : ℕ} {source source' : S} {old_sink new_sink : K} {shelf shelf' : F}
    → LeavesAlone form status (source' ≡ source) (new_sink ≡ old_sink) (shelf' ≡ shelf) (work' ≡ work)
    → (status ≡ 2 → (source' ≡ source) × (new_sink ≡ old_sink) × (shelf' ≡ shelf) × (work' ≡ work))
untouched-from_alone promises = promises.untouched

-- for its own sake: the promise `lines_taken`, from its record
pub lines_taken-from_stopped : {K : Type 0} {form : Usage} {left left' : Option (List ℕ)} {held : Option Files} {status : ℕ} {old_sink new_sink : K} (sink sink' : SinkState)
    → Stops (given form left held) left' sink.gone sink'.gone status (new_sink ≡ old_sink)
    → ((script : List ℕ) (files : Files) → IsRunOf (given form left held) script files → status ≡ 3 → WritesTaken files script left' sink.gone sink'.gone)
lines_taken-from_stopped sink sink' promises = promises.lines_taken

-- for its own sake: the promise `failed_fetch`, from its record
pub failed_fetch-from_stopped : {K : Type 0} {form : Usage} {left left' : Option (List ℕ)} {held : Option Files} {status : ℕ} {old_sink new_sink : K} (sink sink' : SinkState)
    → Stops (given form left held) left' sink.gone sink'.gone status (new_sink ≡ old_sink)
    → ((script : List ℕ) (files : Files) → IsRunOf (given form left held) script files → status ≡ 6 → StopsAtFetch files sink.gone sink'.gone (carried_lines script))
failed_fetch-from_stopped sink sink' promises = promises.failed_fetch

-- for its own sake: the promise `dump_failed_fetch`, from its record
pub dump_failed_fetch-from_stopped : {K : Type 0} {form : Usage} {left left' : Option (List ℕ)} {held : Option Files} {status : ℕ} {old_sink new_sink : K} (sink sink' : SinkState)
    → Stops (given form left held) left' sink.gone sink'.gone status (new_sink ≡ old_sink)
    → ((name : List ℕ) → form ≡ Dump name → status ≡ 6 → new_sink ≡ old_sink)
dump_failed_fetch-from_stopped sink sink' promises = promises.dump_failed_fetch

-- for its own sake: the promise `source_failed`, from its record
pub source_failed-from_failed : {form : Usage} {left : Option (List ℕ)} {held : Option Files} {reads reads' failed failed' status : ℕ} (sink sink' : SinkState)
    → ReportsFailures (given form left held) (failures reads sink.faults failed) (failures reads' sink'.faults failed') status
    → (reads' ≡ (if status == 3 then raised reads else reads))
source_failed-from_failed sink sink' promises = promises.source_failed

-- for its own sake: the promise `sink_failed`, from its record
pub sink_failed-from_failed : {form : Usage} {left : Option (List ℕ)} {held : Option Files} {reads reads' failed failed' status : ℕ} (sink sink' : SinkState)
    → ReportsFailures (given form left held) (failures reads sink.faults failed) (failures reads' sink'.faults failed') status
    → (sink'.faults ≡ (if status == 4 then raised sink.faults else sink.faults))
sink_failed-from_failed sink sink' promises = promises.sink_failed

-- for its own sake: the promise `shelf_failed`, from its record
pub shelf_failed-from_failed : {form : Usage} {left : Option (List ℕ)} {held : Option Files} {reads reads' failed failed' status : ℕ} (sink sink' : SinkState)
    → ReportsFailures (given form left held) (failures reads sink.faults failed) (failures reads' sink'.faults failed') status
    → (status ≢ 5 → failed' ≡ (if status == 6 then raised failed else failed))
shelf_failed-from_failed sink sink' promises = promises.shelf_failed

-- for its own sake: the promise `shelf_later`, from its record
pub shelf_later-from_failed : {form : Usage} {left : Option (List ℕ)} {held : Option Files} {reads reads' failed failed' status : ℕ} (sink sink' : SinkState)
    → ReportsFailures (given form left held) (failures reads sink.faults failed) (failures reads' sink'.faults failed') status
    → (failed ≤ failed')
shelf_later-from_failed sink sink' promises = promises.shelf_later

-- for its own sake: the promise `no_memory`, from its record
pub no_memory-from_stopped : {K : Type 0} {form : Usage} {left left' : Option (List ℕ)} {held : Option Files} {status : ℕ} {old_sink new_sink : K} (sink sink' : SinkState)
    → Stops (given form left held) left' sink.gone sink'.gone status (new_sink ≡ old_sink)
    → ((script : List ℕ) (files : Files) → IsRunOf (given form left held) script files → status ≡ 5 → StopsBefore files sink.gone sink'.gone (carried_lines script))
no_memory-from_stopped sink sink' promises = promises.no_memory

-- for its own sake: the promise `dump_no_memory`, from its record
pub dump_no_memory-from_stopped : {K : Type 0} {form : Usage} {left left' : Option (List ℕ)} {held : Option Files} {status : ℕ} {old_sink new_sink : K} (sink sink' : SinkState)
    → Stops (given form left held) left' sink.gone sink'.gone status (new_sink ≡ old_sink)
    → ((name : List ℕ) → form ≡ Dump name → status ≡ 5 → new_sink ≡ old_sink)
dump_no_memory-from_stopped sink sink' promises = promises.dump_no_memory

-- for its own sake: the promise `long`, from its record
pub long-from_written : {form : Usage} {left : Option (List ℕ)} {held : Option Files} {status : ℕ} (sink sink' : SinkState)
    → WritesPages (given form left held) sink.gone sink'.gone status
    → ((script : List ℕ) (files : Files) → IsRunOf (given form left held) script files → max_script < length script → (IsComplete status → ⊥) × Writes status sink.gone sink'.gone (cut_transcript script files) × (status ≡ 7 → Appends sink.gone sink'.gone (cut_transcript script files)))
long-from_written sink sink' promises = promises.long

-- for its own sake: the promise `long_only`, from its record
pub long_only-from_statuses : {form : Usage} {left : Option (List ℕ)} {held : Option Files} {status : ℕ}
    → HasStatus (given form left held) status
    → ((script : List ℕ) (files : Files) → IsRunOf (given form left held) script files → status ≡ 7 → max_script < length script)
long_only-from_statuses promises = promises.long_only

-- for its own sake: the promise `run_statuses`, from its record
pub run_statuses-from_statuses : {form : Usage} {left : Option (List ℕ)} {held : Option Files} {status : ℕ}
    → HasStatus (given form left held) status
    → (form ≡ Run → IsOneOf status (0 ∷ 1 ∷ 3 ∷ 4 ∷ 5 ∷ 6 ∷ 7 ∷ []))
run_statuses-from_statuses promises = promises.run_statuses

-- for its own sake: the promise `dump_statuses`, from its record
pub dump_statuses-from_statuses : {form : Usage} {left : Option (List ℕ)} {held : Option Files} {status : ℕ}
    → HasStatus (given form left held) status
    → ((name : List ℕ) → form ≡ Dump name → IsOneOf status (0 ∷ 1 ∷ 4 ∷ 5 ∷ 6 ∷ []))
dump_statuses-from_statuses promises = promises.dump_statuses

-- for its own sake: the promise `complete`, from its record
pub complete-from_failed : {form : Usage} {left : Option (List ℕ)} {held : Option Files} {reads reads' failed failed' status : ℕ} (sink sink' : SinkState)
    → ReportsFailures (given form left held) (failures reads sink.faults failed) (failures reads' sink'.faults failed') status
    → ((script : List ℕ) (files : Files) → IsRunOf (given form left held) script files → length script ≤ max_script → (Rose reads reads' → ⊥) → (Rose sink.faults sink'.faults → ⊥) → (Rose failed failed' → ⊥) → IsComplete status ⊎ (status ≡ 5))
complete-from_failed sink sink' promises = promises.complete

-- for its own sake: the promise `dump_complete`, from its record
pub dump_complete-from_failed : {form : Usage} {left : Option (List ℕ)} {held : Option Files} {reads reads' failed failed' status : ℕ} (sink sink' : SinkState)
    → ReportsFailures (given form left held) (failures reads sink.faults failed) (failures reads' sink'.faults failed') status
    → ((name : List ℕ) → form ≡ Dump name → (Rose sink.faults sink'.faults → ⊥) → (Rose failed failed' → ⊥) → IsComplete status ⊎ (status ≡ 5))
dump_complete-from_failed sink sink' promises = promises.dump_complete

-- for its own sake: the promise `taken`, from its record
pub taken-from_left : {form : Usage} {left left' : Option (List ℕ)} {held held' : Option Files} {status : ℕ}
    → LeavesRest (given form left held) left' held' status
    → ((taken : List ℕ) × Consumes left left' taken × (length taken ≤ max_script + 1))
taken-from_left promises = promises.taken

-- for its own sake: the promise `files_stay`, from its record
pub files_stay-from_left : {form : Usage} {left left' : Option (List ℕ)} {held held' : Option Files} {status : ℕ}
    → LeavesRest (given form left held) left' held' status
    → (held' ≡ held)
files_stay-from_left promises = promises.files_stay

-- for its own sake: the promise `painted_later`, from its record
pub painted_later-from_counted : {form : Usage} {left left' : Option (List ℕ)} {held : Option Files} {fetches fetches' : Fetches} {work work' : Work} {status : ℕ} (sink sink' : SinkState)
    → CountsWork (given form left held) left' (trace sink work fetches) (trace sink' work' fetches') status
    → (work.painted ≤ work'.painted)
painted_later-from_counted sink sink' promises = promises.painted_later

-- for its own sake: the promise `measured_later`, from its record
pub measured_later-from_counted : {form : Usage} {left left' : Option (List ℕ)} {held : Option Files} {fetches fetches' : Fetches} {work work' : Work} {status : ℕ} (sink sink' : SinkState)
    → CountsWork (given form left held) left' (trace sink work fetches) (trace sink' work' fetches') status
    → (min work.measured (2 ^ 64 - 1) ≤ work'.measured)
measured_later-from_counted sink sink' promises = promises.measured_later

-- for its own sake: the promise `dump_measures_nothing`, from its record
pub dump_measures_nothing-from_alone : {S K F : Type 0} {form : Usage} {work work' : Work} {status : ℕ} {source source' : S} {old_sink new_sink : K} {shelf shelf' : F}
    → LeavesAlone form status (source' ≡ source) (new_sink ≡ old_sink) (shelf' ≡ shelf) (work' ≡ work)
    → ((name : List ℕ) → form ≡ Dump name → work' ≡ work)
dump_measures_nothing-from_alone promises = promises.dump_measures_nothing

-- for its own sake: the promise `worth`, from its record
pub worth-from_counted : {form : Usage} {left left' : Option (List ℕ)} {held : Option Files} {fetches fetches' : Fetches} {work work' : Work} {status : ℕ} (sink sink' : SinkState)
    → CountsWork (given form left held) left' (trace sink work fetches) (trace sink' work' fetches') status
    → ((script : List ℕ) (files : Files) → IsRunOf (given form left held) script files → IsComplete status → IsWorth (costs_of_script script files) work work')
worth-from_counted sink sink' promises = promises.worth

-- for its own sake: the promise `works`, from its record
pub works-from_counted : {form : Usage} {left left' : Option (List ℕ)} {held : Option Files} {fetches fetches' : Fetches} {work work' : Work} {status : ℕ} (sink sink' : SinkState)
    → CountsWork (given form left held) left' (trace sink work fetches) (trace sink' work' fetches') status
    → ((script : List ℕ) (files : Files) → IsRunOf (given form left held) script files → WorksWith files script left' (trace sink work fetches) (trace sink' work' fetches') status)
works-from_counted sink sink' promises = promises.works

-- for its own sake: the promise `gen_worth`, from its record
pub gen_worth-from_counted : {form : Usage} {left left' : Option (List ℕ)} {held : Option Files} {fetches fetches' : Fetches} {work work' : Work} {status : ℕ} (sink sink' : SinkState)
    → CountsWork (given form left held) left' (trace sink work fetches) (trace sink' work' fetches') status
    → ((n : ℕ) → form ≡ Gen n → status ≢ 5 → IsWorth (costs_of_script (load n) []) work work')
gen_worth-from_counted sink sink' promises = promises.gen_worth

-- for its own sake: the promise `gen_works`, from its record
pub gen_works-from_counted : {form : Usage} {left left' : Option (List ℕ)} {held : Option Files} {fetches fetches' : Fetches} {work work' : Work} {status : ℕ} (sink sink' : SinkState)
    → CountsWork (given form left held) left' (trace sink work fetches) (trace sink' work' fetches') status
    → ((n : ℕ) → form ≡ Gen n → WorksPart [] work work' (lines_of (load n)))
gen_works-from_counted sink sink' promises = promises.gen_works

-- for its own sake: the promise `uncounted`, from its record
pub uncounted-from_alone : {S K F : Type 0} {form : Usage} {work work' : Work} {status : ℕ} {source source' : S} {old_sink new_sink : K} {shelf shelf' : F}
    → LeavesAlone form status (source' ≡ source) (new_sink ≡ old_sink) (shelf' ≡ shelf) (work' ≡ work)
    → (form ≢ Run → form ≢ Stack → ((n : ℕ) → form ≢ Gen n) → ((question : Question) → form ≢ Focus question) → work' ≡ work)
uncounted-from_alone promises = promises.uncounted

-- for its own sake: the promise `load`, from its record
pub load-from_written : {form : Usage} {left : Option (List ℕ)} {held : Option Files} {status : ℕ} (sink sink' : SinkState)
    → WritesPages (given form left held) sink.gone sink'.gone status
    → ((n : ℕ) → form ≡ Gen n → Writes status sink.gone sink'.gone (gen_page n))
load-from_written sink sink' promises = promises.load

-- for its own sake: the promise `gen_accepts`, from its record
pub gen_accepts-from_refusals : {form : Usage} {left : Option (List ℕ)} {held : Option Files} {status : ℕ}
    → ReportsRefusals (given form left held) status
    → ((n : ℕ) → form ≡ Gen n → IsComplete status → status ≡ 0)
gen_accepts-from_refusals promises = promises.gen_accepts

-- for its own sake: the promise `gen_alone`, from its record
pub gen_alone-from_alone : {S K F : Type 0} {form : Usage} {work work' : Work} {status : ℕ} {source source' : S} {old_sink new_sink : K} {shelf shelf' : F}
    → LeavesAlone form status (source' ≡ source) (new_sink ≡ old_sink) (shelf' ≡ shelf) (work' ≡ work)
    → ((n : ℕ) → form ≡ Gen n → (source' ≡ source) × (shelf' ≡ shelf))
gen_alone-from_alone promises = promises.gen_alone

-- for its own sake: the promise `gen_no_memory`, from its record
pub gen_no_memory-from_stopped : {K : Type 0} {form : Usage} {left left' : Option (List ℕ)} {held : Option Files} {status : ℕ} {old_sink new_sink : K} (sink sink' : SinkState)
    → Stops (given form left held) left' sink.gone sink'.gone status (new_sink ≡ old_sink)
    → ((n : ℕ) → form ≡ Gen n → status ≡ 5 → new_sink ≡ old_sink)
gen_no_memory-from_stopped sink sink' promises = promises.gen_no_memory

-- for its own sake: the promise `gen_statuses`, from its record
pub gen_statuses-from_statuses : {form : Usage} {left : Option (List ℕ)} {held : Option Files} {status : ℕ}
    → HasStatus (given form left held) status
    → ((n : ℕ) → form ≡ Gen n → IsOneOf status (0 ∷ 4 ∷ 5 ∷ []))
gen_statuses-from_statuses promises = promises.gen_statuses

-- for its own sake: the promise `gen_complete`, from its record
pub gen_complete-from_failed : {form : Usage} {left : Option (List ℕ)} {held : Option Files} {reads reads' failed failed' status : ℕ} (sink sink' : SinkState)
    → ReportsFailures (given form left held) (failures reads sink.faults failed) (failures reads' sink'.faults failed') status
    → ((n : ℕ) → form ≡ Gen n → (Rose sink.faults sink'.faults → ⊥) → (status ≡ 0) ⊎ (status ≡ 5))
gen_complete-from_failed sink sink' promises = promises.gen_complete

-- for its own sake: the promise `lookup`, from its record
pub lookup-from_written : {form : Usage} {left : Option (List ℕ)} {held : Option Files} {status : ℕ} (sink sink' : SinkState)
    → WritesPages (given form left held) sink.gone sink'.gone status
    → ((name ids : List ℕ) (files : Files) → IsLookupOf (given form left held) name ids files → Writes status sink.gone sink'.gone (lookup_page files name ids))
lookup-from_written sink sink' promises = promises.lookup

-- for its own sake: the promise `lookup_refused`, from its record
pub lookup_refused-from_refusals : {form : Usage} {left : Option (List ℕ)} {held : Option Files} {status : ℕ}
    → ReportsRefusals (given form left held) status
    → ((name ids : List ℕ) (files : Files) → IsLookupOf (given form left held) name ids files → IsComplete status → status ≡ (if refuses_table files name then 1 else 0))
lookup_refused-from_refusals promises = promises.lookup_refused

-- for its own sake: the promise `lookup_alone`, from its record
pub lookup_alone-from_alone : {S K F : Type 0} {form : Usage} {work work' : Work} {status : ℕ} {source source' : S} {old_sink new_sink : K} {shelf shelf' : F}
    → LeavesAlone form status (source' ≡ source) (new_sink ≡ old_sink) (shelf' ≡ shelf) (work' ≡ work)
    → ((name ids : List ℕ) → form ≡ Lookup name ids → (source' ≡ source) × (work' ≡ work))
lookup_alone-from_alone promises = promises.lookup_alone

-- for its own sake: the promise `lookup_stops`, from its record
pub lookup_stops-from_stopped : {K : Type 0} {form : Usage} {left left' : Option (List ℕ)} {held : Option Files} {status : ℕ} {old_sink new_sink : K} (sink sink' : SinkState)
    → Stops (given form left held) left' sink.gone sink'.gone status (new_sink ≡ old_sink)
    → ((name ids : List ℕ) → form ≡ Lookup name ids → (status ≡ 5) ⊎ (status ≡ 6) → new_sink ≡ old_sink)
lookup_stops-from_stopped sink sink' promises = promises.lookup_stops

-- for its own sake: the promise `lookup_statuses`, from its record
pub lookup_statuses-from_statuses : {form : Usage} {left : Option (List ℕ)} {held : Option Files} {status : ℕ}
    → HasStatus (given form left held) status
    → ((name ids : List ℕ) → form ≡ Lookup name ids → IsOneOf status (0 ∷ 1 ∷ 4 ∷ 5 ∷ 6 ∷ []))
lookup_statuses-from_statuses promises = promises.lookup_statuses

-- for its own sake: the promise `lookup_complete`, from its record
pub lookup_complete-from_failed : {form : Usage} {left : Option (List ℕ)} {held : Option Files} {reads reads' failed failed' status : ℕ} (sink sink' : SinkState)
    → ReportsFailures (given form left held) (failures reads sink.faults failed) (failures reads' sink'.faults failed') status
    → ((name ids : List ℕ) → form ≡ Lookup name ids → (Rose sink.faults sink'.faults → ⊥) → (Rose failed failed' → ⊥) → IsComplete status ⊎ (status ≡ 5))
lookup_complete-from_failed sink sink' promises = promises.lookup_complete

-- for its own sake: the promise `focus`, from its record
pub focus-from_written : {form : Usage} {left : Option (List ℕ)} {held : Option Files} {status : ℕ} (sink sink' : SinkState)
    → WritesPages (given form left held) sink.gone sink'.gone status
    → ((script : List ℕ) (files : Files) (question : Question) → IsFocusOf (given form left held) script files question → length script ≤ max_script → Writes status sink.gone sink'.gone (focus_page script files question))
focus-from_written sink sink' promises = promises.focus

-- for its own sake: the promise `focus_refused`, from its record
pub focus_refused-from_refusals : {form : Usage} {left : Option (List ℕ)} {held : Option Files} {status : ℕ}
    → ReportsRefusals (given form left held) status
    → ((script : List ℕ) (files : Files) (question : Question) → IsFocusOf (given form left held) script files question → IsComplete status → status ≡ (if refuses_focus script files question then 1 else 0))
focus_refused-from_refusals promises = promises.focus_refused

-- for its own sake: the promise `focus_read_to_end`, from its record
pub focus_read_to_end-from_left : {form : Usage} {left left' : Option (List ℕ)} {held held' : Option Files} {status : ℕ}
    → LeavesRest (given form left held) left' held' status
    → ((question : Question) → form ≡ Focus question → IsComplete status → IsAtEnd left')
focus_read_to_end-from_left promises = promises.focus_read_to_end

-- for its own sake: the promise `focus_ends`, from its record
pub focus_ends-from_counted : {form : Usage} {left left' : Option (List ℕ)} {held : Option Files} {fetches fetches' : Fetches} {work work' : Work} {status : ℕ} (sink sink' : SinkState)
    → CountsWork (given form left held) left' (trace sink work fetches) (trace sink' work' fetches') status
    → ((script : List ℕ) (files : Files) (question : Question) → IsFocusOf (given form left held) script files question → AsksWith files script question left' (trace sink work fetches) (trace sink' work' fetches') status)
focus_ends-from_counted sink sink' promises = promises.focus_ends

-- for its own sake: the promise `focus_worth`, from its record
pub focus_worth-from_counted : {form : Usage} {left left' : Option (List ℕ)} {held : Option Files} {fetches fetches' : Fetches} {work work' : Work} {status : ℕ} (sink sink' : SinkState)
    → CountsWork (given form left held) left' (trace sink work fetches) (trace sink' work' fetches') status
    → ((script : List ℕ) (files : Files) (question : Question) → IsFocusOf (given form left held) script files question → IsComplete status → IsWorth (costs_of_script script files) work work')
focus_worth-from_counted sink sink' promises = promises.focus_worth

-- for its own sake: the promise `focus_statuses`, from its record
pub focus_statuses-from_statuses : {form : Usage} {left : Option (List ℕ)} {held : Option Files} {status : ℕ}
    → HasStatus (given form left held) status
    → ((question : Question) → form ≡ Focus question → IsOneOf status (0 ∷ 1 ∷ 3 ∷ 4 ∷ 5 ∷ 6 ∷ 7 ∷ []))
focus_statuses-from_statuses promises = promises.focus_statuses

-- for its own sake: the promise `focus_complete`, from its record
pub focus_complete-from_failed : {form : Usage} {left : Option (List ℕ)} {held : Option Files} {reads reads' failed failed' status : ℕ} (sink sink' : SinkState)
    → ReportsFailures (given form left held) (failures reads sink.faults failed) (failures reads' sink'.faults failed') status
    → ((script : List ℕ) (files : Files) (question : Question) → IsFocusOf (given form left held) script files question → length script ≤ max_script → (Rose reads reads' → ⊥) → (Rose sink.faults sink'.faults → ⊥) → (Rose failed failed' → ⊥) → IsComplete status ⊎ (status ≡ 5))
focus_complete-from_failed sink sink' promises = promises.focus_complete

-- for its own sake: the promise `stack`, from its record
pub stack-from_written : {form : Usage} {left : Option (List ℕ)} {held : Option Files} {status : ℕ} (sink sink' : SinkState)
    → WritesPages (given form left held) sink.gone sink'.gone status
    → ((script : List ℕ) (files : Files) → IsStackOf (given form left held) script files → length script ≤ max_script → Writes status sink.gone sink'.gone (stack_page script files))
stack-from_written sink sink' promises = promises.stack

-- for its own sake: the promise `stack_refused`, from its record
pub stack_refused-from_refusals : {form : Usage} {left : Option (List ℕ)} {held : Option Files} {status : ℕ}
    → ReportsRefusals (given form left held) status
    → ((script : List ℕ) (files : Files) → IsStackOf (given form left held) script files → IsComplete status → status ≡ (if refuses_in_stack script files then 1 else 0))
stack_refused-from_refusals promises = promises.stack_refused

-- for its own sake: the promise `stack_read_to_end`, from its record
pub stack_read_to_end-from_left : {form : Usage} {left left' : Option (List ℕ)} {held held' : Option Files} {status : ℕ}
    → LeavesRest (given form left held) left' held' status
    → (form ≡ Stack → IsComplete status → IsAtEnd left')
stack_read_to_end-from_left promises = promises.stack_read_to_end

-- for its own sake: the promise `stack_ends`, from its record
pub stack_ends-from_stopped : {K : Type 0} {form : Usage} {left left' : Option (List ℕ)} {held : Option Files} {status : ℕ} {old_sink new_sink : K} (sink sink' : SinkState)
    → Stops (given form left held) left' sink.gone sink'.gone status (new_sink ≡ old_sink)
    → ((script : List ℕ) (files : Files) → IsStackOf (given form left held) script files → RunsWith (Stacked empty_stack) files script left' sink.gone sink'.gone status)
stack_ends-from_stopped sink sink' promises = promises.stack_ends

-- for its own sake: the promise `stack_works`, from its record
pub stack_works-from_counted : {form : Usage} {left left' : Option (List ℕ)} {held : Option Files} {fetches fetches' : Fetches} {work work' : Work} {status : ℕ} (sink sink' : SinkState)
    → CountsWork (given form left held) left' (trace sink work fetches) (trace sink' work' fetches') status
    → ((script : List ℕ) (files : Files) → IsStackOf (given form left held) script files → WorksWithFrom (Stacked empty_stack) files script left' (trace sink work fetches) (trace sink' work' fetches') status)
stack_works-from_counted sink sink' promises = promises.stack_works

-- for its own sake: the promise `stack_worth`, from its record
pub stack_worth-from_counted : {form : Usage} {left left' : Option (List ℕ)} {held : Option Files} {fetches fetches' : Fetches} {work work' : Work} {status : ℕ} (sink sink' : SinkState)
    → CountsWork (given form left held) left' (trace sink work fetches) (trace sink' work' fetches') status
    → ((script : List ℕ) (files : Files) → IsStackOf (given form left held) script files → IsComplete status → IsWorth (costs_of_stack script files) work work')
stack_worth-from_counted sink sink' promises = promises.stack_worth

-- for its own sake: the promise `stack_isolated`, from its record
pub stack_isolated-from_written : {form : Usage} {left : Option (List ℕ)} {held : Option Files} {status : ℕ} (sink sink' : SinkState)
    → WritesPages (given form left held) sink.gone sink'.gone status
    → ((script : List ℕ) (files : Files) (k : ℕ) → IsStackOf (given form left held) script files → IsPageIsolated script files k)
stack_isolated-from_written sink sink' promises = promises.stack_isolated

-- for its own sake: the promise `stack_statuses`, from its record
pub stack_statuses-from_statuses : {form : Usage} {left : Option (List ℕ)} {held : Option Files} {status : ℕ}
    → HasStatus (given form left held) status
    → (form ≡ Stack → IsOneOf status (0 ∷ 1 ∷ 3 ∷ 4 ∷ 5 ∷ 6 ∷ 7 ∷ []))
stack_statuses-from_statuses promises = promises.stack_statuses

-- for its own sake: the promise `stack_complete`, from its record
pub stack_complete-from_failed : {form : Usage} {left : Option (List ℕ)} {held : Option Files} {reads reads' failed failed' status : ℕ} (sink sink' : SinkState)
    → ReportsFailures (given form left held) (failures reads sink.faults failed) (failures reads' sink'.faults failed') status
    → ((script : List ℕ) (files : Files) → IsStackOf (given form left held) script files → length script ≤ max_script → (Rose reads reads' → ⊥) → (Rose sink.faults sink'.faults → ⊥) → (Rose failed failed' → ⊥) → IsComplete status ⊎ (status ≡ 5))
stack_complete-from_failed sink sink' promises = promises.stack_complete

-- for its own sake: the promise `fetched`, from its record
pub fetched-from_asked : {form : Usage} {left : Option (List ℕ)} {held : Option Files} {fetches fetches' : Fetches} {status : ℕ}
    → FetchesFiles (given form left held) fetches fetches' status
    → ((script : List ℕ) (files : Files) → IsRunOf (given form left held) script files → IsComplete status → fetches' ≡ with_fetches fetches (fetches_from (Alone empty_world) files (lines_of script)))
fetched-from_asked promises = promises.fetched

-- for its own sake: the promise `stack_fetched`, from its record
pub stack_fetched-from_asked : {form : Usage} {left : Option (List ℕ)} {held : Option Files} {fetches fetches' : Fetches} {status : ℕ}
    → FetchesFiles (given form left held) fetches fetches' status
    → ((script : List ℕ) (files : Files) → IsStackOf (given form left held) script files → IsComplete status → fetches' ≡ with_fetches fetches (fetches_from (Stacked empty_stack) files (lines_of script)))
stack_fetched-from_asked promises = promises.stack_fetched

-- for its own sake: the promise `dump_fetched`, from its record
pub dump_fetched-from_asked : {form : Usage} {left : Option (List ℕ)} {held : Option Files} {fetches fetches' : Fetches} {status : ℕ}
    → FetchesFiles (given form left held) fetches fetches' status
    → ((name : List ℕ) → form ≡ Dump name → fetches' ≡ with_fetch fetches (layout_fetch name))
dump_fetched-from_asked promises = promises.dump_fetched

-- for its own sake: the promise `lookup_fetched`, from its record
pub lookup_fetched-from_asked : {form : Usage} {left : Option (List ℕ)} {held : Option Files} {fetches fetches' : Fetches} {status : ℕ}
    → FetchesFiles (given form left held) fetches fetches' status
    → ((name ids : List ℕ) → form ≡ Lookup name ids → fetches' ≡ with_fetch fetches (table_fetch name))
lookup_fetched-from_asked promises = promises.lookup_fetched
