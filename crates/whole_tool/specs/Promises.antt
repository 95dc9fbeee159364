-- What the call `tool` promises besides its headline, a record a subject. Comments and names of fields are those of the
-- page of promises.
use Rattle.std.specs.Prelude.{◌≡◌, ◌≢◌, ◌⊎◌, ◌↔◌, ℕ, ◌+◌, ◌-◌, ◌^◌, ◌<◌, ◌≤◌, ◌==◌, if◌then◌else◌, List, [], ◌∷◌}
use Rattle.std.specs.Prelude.{Option, length, min}
use Rattle.std.specs.Io.KnownBytes.{Appends, Consumes, IsAtEnd}
use Rattle.load_maker.specs.Load.{load}
use Rattle.script_lines.specs.cutting.Lines.{lines_of}
use Rattle.stack_worlds.specs.PlainStack.{empty_stack}
use Rattle.tool_io.specs.Counts.{Rose, raised}
use Rattle.tool_io.specs.Fetched.{Files}
use Rattle.tool_io.specs.Fetches.{Fetches, with_fetch, with_fetches}
use Rattle.view_world.specs.frames.Watched.{IsWorth}
use Rattle.world_parts.specs.Shelves.{layout_fetch}
use Rattle.world_parts.specs.World.{empty_world}
use Rattle.whole_tool.specs.Carried.{Alone, Stacked}
use Rattle.tool_replies.specs.Dump.{dump_page, refuses_file}
use Rattle.whole_tool.specs.Focus.{AsksWith, IsFocusOf, focus_page, refuses_focus}
use Rattle.whole_tool.specs.Gen.{gen_page}
use Rattle.tool_replies.specs.Lookup.{lookup_page, refuses_table, table_fetch}
use Rattle.whole_tool.specs.Run.{StopsAtFetch, StopsBefore}
use Rattle.whole_tool.specs.Script.{WritesTaken}
use Rattle.whole_tool.specs.StackPage.{IsPageIsolated}
use Rattle.whole_tool.specs.Tally.{costs_of_script, costs_of_stack}
use Rattle.whole_tool.specs.Tool.{Given, IsDumpOf, IsLookupOf, IsRunOf, IsStackOf, RunsWith}
use Rattle.tool_replies.specs.Endings.{IsComplete, IsOneOf}
use Rattle.tool_replies.specs.Endings.{Writes}
use Rattle.whole_tool.specs.Transcript.{carried_lines, cut_transcript, has_refusal, max_script, refuses_in_stack}
use Rattle.whole_tool.specs.Transcript.{stack_page}
use Rattle.whole_tool.specs.Usage.{Usage, Run, Stack, Dump, Gen, Lookup, Focus, Unknown}
use Rattle.whole_tool.specs.Works.{Trace, WorksPart, fetches_from}
use Rattle.whole_tool.specs.WorksWith.{WorksWith, WorksWithFrom}
use Rattle.whole_tool.specs.declared.focusing.Question.{Question}

-- The bytes that a call writes, where they are not the headline's.
pub record WritesPages (call : Given) (old new : Option (List ℕ)) (status : ℕ) : Type 0 where
  -- The print of a file: the text of its document, or why it is refused.
  pub dump : (name : List ℕ) (files : Files) → IsDumpOf call name files → Writes status old new (dump_page files name)
  -- The results of the load of a size, in a world of its own.
  pub load : (n : ℕ) → call.usage ≡ Gen n → Writes status old new (gen_page n)
  -- What resources hold in a compiled table: one line per id, or why the file is refused.
  pub lookup : (name ids : List ℕ) (files : Files) → IsLookupOf call name ids files
      → Writes status old new (lookup_page files name ids)
  -- Which view gets the focus next after a script: its transcript and then the answer, which is that of the plain world
  -- after its lines, or the refusal of a `bounds` line of the same view.
  pub focus : (script : List ℕ) (files : Files) (question : Question) → IsFocusOf call script files question
      → length script ≤ max_script → Writes status old new (focus_page script files question)
  -- A script for a stack of windows: each line goes to the world of one window at most, and the page is the texts of
  -- all lines. The windows are isolated: whatever the lines give to others, the state of each open window and its
  -- replies are those of its own share alone.
  pub stack : (script : List ℕ) (files : Files) → IsStackOf call script files → length script ≤ max_script
      → Writes status old new (stack_page script files)
  pub stack_isolated : (script : List ℕ) (files : Files) (k : ℕ) → IsStackOf call script files
      → IsPageIsolated script files k
  -- Too long a script: the lines whose line feed is among its first bytes are carried out.
  pub long : (script : List ℕ) (files : Files) → IsRunOf call script files → max_script < length script
      → (IsComplete status → ⊥)
      × Writes status old new (cut_transcript script files)
      × (status ≡ 7 → Appends old new (cut_transcript script files))

-- Whether something was refused, by the status of a call that ended by itself.
pub record ReportsRefusals (call : Given) (status : ℕ) : Type 0 where
  -- The status of a run that ended by itself says whether a line was refused.
  pub refused : (script : List ℕ) (files : Files) → IsRunOf call script files → length script ≤ max_script
      → IsComplete status → status ≡ (if has_refusal script files then 1 else 0)
  pub stack_refused : (script : List ℕ) (files : Files) → IsStackOf call script files → IsComplete status
      → status ≡ (if refuses_in_stack script files then 1 else 0)
  -- With a question after it: whether a line or the question was.
  pub focus_refused : (script : List ℕ) (files : Files) (question : Question) → IsFocusOf call script files question
      → IsComplete status → status ≡ (if refuses_focus script files question then 1 else 0)
  -- Of a print and a look-up: whether the file was.
  pub dump_refused : (name : List ℕ) (files : Files) → IsDumpOf call name files → IsComplete status
      → status ≡ (if refuses_file files name then 1 else 0)
  pub lookup_refused : (name ids : List ℕ) (files : Files) → IsLookupOf call name ids files → IsComplete status
      → status ≡ (if refuses_table files name then 1 else 0)
  -- No load is refused.
  pub gen_accepts : (n : ℕ) → call.usage ≡ Gen n → IsComplete status → status ≡ 0

-- Which statuses a call may end with.
pub record HasStatus (call : Given) (status : ℕ) : Type 0 where
  -- There is no other status.
  pub run_statuses : call.usage ≡ Run → IsOneOf status (0 ∷ 1 ∷ 3 ∷ 4 ∷ 5 ∷ 6 ∷ 7 ∷ [])
  pub stack_statuses : call.usage ≡ Stack → IsOneOf status (0 ∷ 1 ∷ 3 ∷ 4 ∷ 5 ∷ 6 ∷ 7 ∷ [])
  pub focus_statuses : (question : Question) → call.usage ≡ Focus question
      → IsOneOf status (0 ∷ 1 ∷ 3 ∷ 4 ∷ 5 ∷ 6 ∷ 7 ∷ [])
  pub dump_statuses : (name : List ℕ) → call.usage ≡ Dump name → IsOneOf status (0 ∷ 1 ∷ 4 ∷ 5 ∷ 6 ∷ [])
  pub lookup_statuses : (name ids : List ℕ) → call.usage ≡ Lookup name ids
      → IsOneOf status (0 ∷ 1 ∷ 4 ∷ 5 ∷ 6 ∷ [])
  pub gen_statuses : (n : ℕ) → call.usage ≡ Gen n → IsOneOf status (0 ∷ 4 ∷ 5 ∷ [])
  -- Only too long a script ends with its status.
  pub long_only : (script : List ℕ) (files : Files) → IsRunOf call script files → status ≡ 7
      → max_script < length script

-- how many reads, writes and fetches have failed
pub record Failures : Type 0 where
  pub reads : ℕ
  pub writes : ℕ
  pub fetches : ℕ

abbrev pub failures : ℕ → ℕ → ℕ → Failures
failures reads writes fetches = record { reads = reads; writes = writes; fetches = fetches }

-- Which call of an object failed.
pub record ReportsFailures (call : Given) (before after : Failures) (status : ℕ) : Type 0 where
  -- The call that failed is the one that the status reports, and after it nothing more is asked of that object: its
  -- count of failed calls is one higher, and each other count is as it was. Running out of memory may count as a failed
  -- fetch.
  pub source_failed : after.reads ≡ (if status == 3 then raised before.reads else before.reads)
  pub sink_failed : after.writes ≡ (if status == 4 then raised before.writes else before.writes)
  pub shelf_failed : status ≢ 5 → after.fetches ≡ (if status == 6 then raised before.fetches else before.fetches)
  pub shelf_later : before.fetches ≤ after.fetches
  -- If no object failed, only running out of memory keeps a call from its end.
  pub complete : (script : List ℕ) (files : Files) → IsRunOf call script files → length script ≤ max_script
      → (Rose before.reads after.reads → ⊥) → (Rose before.writes after.writes → ⊥)
      → (Rose before.fetches after.fetches → ⊥) → IsComplete status ⊎ (status ≡ 5)
  pub stack_complete : (script : List ℕ) (files : Files) → IsStackOf call script files → length script ≤ max_script
      → (Rose before.reads after.reads → ⊥) → (Rose before.writes after.writes → ⊥)
      → (Rose before.fetches after.fetches → ⊥) → IsComplete status ⊎ (status ≡ 5)
  pub focus_complete : (script : List ℕ) (files : Files) (question : Question) → IsFocusOf call script files question
      → length script ≤ max_script → (Rose before.reads after.reads → ⊥) → (Rose before.writes after.writes → ⊥)
      → (Rose before.fetches after.fetches → ⊥) → IsComplete status ⊎ (status ≡ 5)
  pub dump_complete : (name : List ℕ) → call.usage ≡ Dump name → (Rose before.writes after.writes → ⊥)
      → (Rose before.fetches after.fetches → ⊥) → IsComplete status ⊎ (status ≡ 5)
  pub lookup_complete : (name ids : List ℕ) → call.usage ≡ Lookup name ids → (Rose before.writes after.writes → ⊥)
      → (Rose before.fetches after.fetches → ⊥) → IsComplete status ⊎ (status ≡ 5)
  pub gen_complete : (n : ℕ) → call.usage ≡ Gen n → (Rose before.writes after.writes → ⊥)
      → (status ≡ 0) ⊎ (status ≡ 5)

-- What was written when a call stopped. `left` is left of the source, and `SameSink` says that the sink is as it was.
pub record Stops (call : Given) (left old new : Option (List ℕ)) (status : ℕ) (SameSink : Type 0) : Type 0 where
  -- A failed read: exactly the lines whose line feed was taken were carried out. A failed write: some prefix was
  -- written. A failed fetch: exactly the texts of the lines before the one that asked for the file were written; of a
  -- file, nothing.
  pub lines_taken : (script : List ℕ) (files : Files) → IsRunOf call script files → status ≡ 3
      → WritesTaken files script left old new
  pub failed_fetch : (script : List ℕ) (files : Files) → IsRunOf call script files → status ≡ 6
      → StopsAtFetch files old new (carried_lines script)
  pub dump_failed_fetch : (name : List ℕ) → call.usage ≡ Dump name → status ≡ 6 → SameSink
  -- No memory: exactly the texts of the lines before one that may run out of memory were written; of a file, nothing.
  pub no_memory : (script : List ℕ) (files : Files) → IsRunOf call script files → status ≡ 5
      → StopsBefore files old new (carried_lines script)
  pub dump_no_memory : (name : List ℕ) → call.usage ≡ Dump name → status ≡ 5 → SameSink
  pub gen_no_memory : (n : ℕ) → call.usage ≡ Gen n → status ≡ 5 → SameSink
  pub lookup_stops : (name ids : List ℕ) → call.usage ≡ Lookup name ids → (status ≡ 5) ⊎ (status ≡ 6) → SameSink
  -- Of a stack of windows, what was written, counted, read and fetched is as of a run.
  pub stack_ends : (script : List ℕ) (files : Files) → IsStackOf call script files
      → RunsWith (Stacked empty_stack) files script left old new status

-- What a call does not touch, by the form of its words. The facts say that the objects and the work are as they were.
pub record LeavesAlone (form : Usage) (status : ℕ) (SameSource SameSink SameShelf SameWork : Type 0) : Type 0 where
  -- Other words: nothing is read, fetched, written or counted.
  pub usage : (status ≡ 2) ↔ (form ≡ Unknown)
  pub untouched : status ≡ 2 → SameSource × SameSink × SameShelf × SameWork
  -- A print reads no script, and measures nothing.
  pub dump_reads_no_script : (name : List ℕ) → form ≡ Dump name → SameSource
  pub dump_measures_nothing : (name : List ℕ) → form ≡ Dump name → SameWork
  -- In a load neither the source nor the shelf is asked.
  pub gen_alone : (n : ℕ) → form ≡ Gen n → SameSource × SameShelf
  -- In a look-up the source is not asked, and nothing is measured or painted.
  pub lookup_alone : (name ids : List ℕ) → form ≡ Lookup name ids → SameSource × SameWork
  -- Only a run, a load, a stack and a question count.
  pub uncounted : form ≢ Run → form ≢ Stack → ((n : ℕ) → form ≢ Gen n) → ((question : Question) → form ≢ Focus question)
      → SameWork

-- What is left of the source, and the files of the shelf.
pub record LeavesRest (call : Given) (left : Option (List ℕ)) (held : Option Files) (status : ℕ) : Type 0 where
  -- A script that ended by itself was read to its end.
  pub read_to_end : call.usage ≡ Run → IsComplete status → IsAtEnd left
  pub stack_read_to_end : call.usage ≡ Stack → IsComplete status → IsAtEnd left
  pub focus_read_to_end : (question : Question) → call.usage ≡ Focus question → IsComplete status → IsAtEnd left
  -- What is taken of the source, and what stays.
  pub taken : (bytes : List ℕ) × Consumes call.left left bytes × (length bytes ≤ max_script + 1)
  pub files_stay : held ≡ call.held

-- What was counted between two moments of a call. `left` is left of the source.
pub record CountsWork (call : Given) (left : Option (List ℕ)) (first last : Trace) (status : ℕ) : Type 0 where
  -- The work of a run, in whatever way it ends: of the frames that were carried out it measures at most as many views,
  -- and paints at least and at most as many pixels, as they cost in the plain world. All lines of the script were
  -- carried out where the run ended by itself, and else the first ones: the very lines whose texts were written. The
  -- work of a load is that of its script. Of a script with a question after it `focus_ends` says the same, of one for a
  -- stack of windows `stack_works`, and nothing else is counted.
  pub worth : (script : List ℕ) (files : Files) → IsRunOf call script files → IsComplete status
      → IsWorth (costs_of_script script files) first.work last.work
  pub works : (script : List ℕ) (files : Files) → IsRunOf call script files
      → WorksWith files script left first last status
  pub gen_worth : (n : ℕ) → call.usage ≡ Gen n → status ≢ 5
      → IsWorth (costs_of_script (load n) []) first.work last.work
  pub gen_works : (n : ℕ) → call.usage ≡ Gen n → WorksPart [] first.work last.work (lines_of (load n))
  pub stack_worth : (script : List ℕ) (files : Files) → IsStackOf call script files → IsComplete status
      → IsWorth (costs_of_stack script files) first.work last.work
  pub stack_works : (script : List ℕ) (files : Files) → IsStackOf call script files
      → WorksWithFrom (Stacked empty_stack) files script left first last status
  -- Where the run of a script with a question after it ends by another status than 0 or 1, no question is answered, and
  -- what was written, counted, read and fetched is as of the run alone; but a write may fail at the answer too.
  pub focus_worth : (script : List ℕ) (files : Files) (question : Question) → IsFocusOf call script files question
      → IsComplete status → IsWorth (costs_of_script script files) first.work last.work
  pub focus_ends : (script : List ℕ) (files : Files) (question : Question) → IsFocusOf call script files question
      → AsksWith files script question left first last status
  -- No call takes away from what was counted.
  pub painted_later : first.work.painted ≤ last.work.painted
  pub measured_later : min first.work.measured (2 ^ 64 - 1) ≤ last.work.measured

-- What the shelf shows of the calls on it.
pub record FetchesFiles (call : Given) (before after : Fetches) (status : ℕ) : Type 0 where
  -- What the shelf is asked for, each call by its name and its limit, in the order of the calls, if the shelf shows
  -- that: by a run once for each line that is carried out and asks for a file, whatever comes of it, by a print or a
  -- look-up once, and by a load not at all. A layout file is asked for with the limit of its bytes, a table with that
  -- of a table. Of a run that stopped `works` says it, and of the others `focus_ends` and `stack_works`: the line in
  -- which it stopped has asked too, if it asks.
  pub fetched : (script : List ℕ) (files : Files) → IsRunOf call script files → IsComplete status
      → after ≡ with_fetches before (fetches_from (Alone empty_world) files (lines_of script))
  pub stack_fetched : (script : List ℕ) (files : Files) → IsStackOf call script files → IsComplete status
      → after ≡ with_fetches before (fetches_from (Stacked empty_stack) files (lines_of script))
  pub dump_fetched : (name : List ℕ) → call.usage ≡ Dump name → after ≡ with_fetch before (layout_fetch name)
  pub lookup_fetched : (name ids : List ℕ) → call.usage ≡ Lookup name ids
      → after ≡ with_fetch before (table_fetch name)
