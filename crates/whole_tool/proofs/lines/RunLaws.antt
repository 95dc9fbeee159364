-- The results of lines, one after another, and where a run stops in them.
use Rattle.std.proofs.Common.{◌≡◌, ℕ, ◌+◌, ◌<◌, suc, true, length, take, drop, List, [], ◌∷◌, ◌++◌, refl, ap, sym, subst, ◌∙◌, arith, append_assoc, inl, inr, Err, length-append, length-take}
use Rattle.std.specs.Prelude.{◌⊎◌, Option, Some, None, Bool, false, ◌&&◌, fold}
use Rattle.std.specs.List.{list_all}
use Rattle.std.specs.Io.KnownBytes.{Appends}
use Rattle.std.proofs.lemmas.Grind.{fold-append}
use Rattle.std.proofs.lemmas.List.{append-nil, take-append-drop}
use Rattle.script_lines.specs.cutting.LineBuffer.{LineBuffer, IsAfter}
use Rattle.script_lines.specs.cutting.Lines.{ArePassedOver, Line, Text, LongLine, cut_of, is_idle, last_of, lines_of, is_passed_over}
use Rattle.text_lines.specs.BufferedText.{BufferedText as BufferedText}
use Rattle.text_lines.specs.Prefix.{AppendsPrefix}
use Rattle.text_lines.proofs.Prefixes.{appends_both, prefix_of_first}
use Rattle.tool_io.specs.Fetched.{Files}
use Rattle.tool_io.specs.Fetches.{Fetch, Fetches, with_fetch, with_fetches}
use Rattle.whole_tool.specs.Carried.{Carried, LineReply, Done, Refused, asked_by_bytes, reply_to_bytes}
use Rattle.whole_tool.specs.Carrier.{IsWatching, WritesLine, carried_of}
use Rattle.whole_tool.specs.declared.carrier.Carrier.{Carrier}
use Rattle.whole_tool.specs.declared.run.LineRunner.{LineRunner}
use Rattle.whole_tool.specs.declared.run.Stop.{Stop}
use Rattle.whole_tool.specs.declared.run.Stop.TheVariants as stop
use Rattle.tool_replies.specs.Refusals.{refused_line}
use Rattle.whole_tool.specs.Run.{HasCarriedOut, HasReadUpTo, HasTallied, StopsIn, WithFiles}
use Rattle.whole_tool.specs.Tally.{Tally, carried_in, tally_from, with_cost}
use Rattle.whole_tool.specs.Transcript.{Asks, MayWant, ScriptProgress, after_asked, after_line, after_from, after_reply, asked_by_line, at_start, line_text, reply_text, reply_to_line}
use Rattle.whole_tool.specs.Works.{HasFetched, Trace, Works, WorksBefore, WorksToFetch, WorksToWrite}
use Rattle.tool_io.specs.Counts.{raised}
use Rattle.tool_io.specs.SinkState.{SinkState}
use Rattle.view_model.specs.declared.refusal.Refusal.{Refusal}
use Rattle.view_model.specs.Refusals.{PlainRefusal, plain_refusal}
use Rattle.world_parts.specs.declared.fault.StepFault.{StepFault}
use Rattle.world_parts.specs.declared.fault.StepFault.TheVariants as step
use Rattle.view_world.specs.world.Carried.{IsDone}
use Rattle.world_parts.specs.Shelves.{fetches_after, layout_fetch}
use Rattle.view_world.specs.frames.Watched.{IsWorth}
use Rattle.whole_tool.proofs.lines.CarrierLaws.{watching_same}
use Rattle.whole_tool.proofs.costs.SumLaws.{worth_same}
use Rattle.whole_tool.proofs.costs.TallyLaws.{passed_cost, refused_cost, tally_from-append, tally_from-push}
use Rattle.script_lines.proofs.lines.LineLaws.{cut_lines-append, cut_lines-length}

after_from-append : (start : Carried) (files : Files) (lines more : List Line) → after_from start files (lines ++ more) ≡ fold (after_line files) (after_from start files lines) more
unfolding after_from
after_from-append start files lines more = fold-append (after_line files) (at_start start) lines more

pub after_from-push : (start : Carried) (files : Files) (lines : List Line) (line : Line) → after_from start files (lines ++ line ∷ []) ≡ after_line files (after_from start files lines) line
after_from-push start files lines line = after_from-append start files lines (line ∷ [])

counted_reply : (progress : ScriptProgress) (reply : LineReply) → (after_reply progress reply).lines ≡ progress.lines + 1
counted_reply progress (Done carried text) = refl
counted_reply progress (Refused refusal) = refl

counted_from : (files : Files) (progress : ScriptProgress) (lines : List Line) → (fold (after_line files) progress lines).lines ≡ progress.lines + length lines
counted_from files progress [] = (let e : progress.lines ≡ progress.lines + 0 = omega arith in e)
counted_from files progress (line ∷ lines) =
    let more = counted_from files (after_line files progress line) lines in
    let one = counted_reply progress (reply_to_line files progress.carried line) in
    more ∙ (let e : (after_line files progress line).lines + length lines ≡ progress.lines + suc (length lines) = omega arith in e)

-- as many lines are counted as there are
pub after_from-lines : (start : Carried) (files : Files) (lines : List Line) → (after_from start files lines).lines ≡ length lines
unfolding after_from
after_from-lines start files lines = counted_from files (at_start start) lines ∙ (let e : 0 + length lines ≡ length lines = omega arith in e)

pub counted_short : (start : Carried) (files : Files) (bytes : List ℕ) (most : ℕ) → length bytes < most → (after_from start files (cut_of bytes).lines).lines < most
counted_short start files bytes most short = omega (arith, short, after_from-lines start files (cut_of bytes).lines, cut_lines-length bytes)

pub lines_short : (bytes : List ℕ) (most : ℕ) → length bytes < most → length (cut_of bytes).lines < most
lines_short bytes most short = omega (arith, short, cut_lines-length bytes)

pub front_short : (before piece : List ℕ) (most : ℕ) → length (before ++ piece) < most → length before < most
front_short before piece most short = omega (arith, short, length-append before piece)

-- the lines at the front of a piece that are passed over are counted
pub passed_few : (start : Carried) (files : Files) (before piece : List ℕ) (n count most : ℕ) → length (before ++ piece) < most → ArePassedOver (take n piece) count → (after_from start files (cut_of before).lines).lines + count < most
passed_few start files before piece n count most short passed =
    omega (arith, short, passed.counted, after_from-lines start files (cut_of before).lines, cut_lines-length before, cut_lines-length (take n piece), length-take n piece, length-append before piece)

text_after : (progress : ScriptProgress) (reply : LineReply) → (after_reply progress reply).text ≡ progress.text ++ reply_text progress reply
text_after progress (Done carried text) = refl
text_after progress (Refused refusal) = refl

-- a line adds its text
pub line_after : (start : Carried) (files : Files) (lines : List Line) (line : Line) → (after_from start files (lines ++ line ∷ [])).text ≡ (after_from start files lines).text ++ line_text files (after_from start files lines) line
line_after start files lines line =
    let so_far = after_from start files lines in
    ap (λ (p : ScriptProgress). p.text) (after_from-push start files lines line) ∙ text_after so_far (reply_to_line files so_far.carried line)

text_from : (files : Files) (progress : ScriptProgress) (lines : List Line) → (more : List ℕ) × ((fold (after_line files) progress lines).text ≡ progress.text ++ more)
text_from files progress [] = ([], sym (append-nil progress.text))
text_from files progress (line ∷ lines) =
    let rest = text_from files (after_line files progress line) lines in
    let one = line_text files progress line in
    (one ++ rest.0, rest.1 ∙ ap (λ l. l ++ rest.0) (text_after progress (reply_to_line files progress.carried line)) ∙ append_assoc progress.text one rest.0)

-- more lines only add text
pub after_from-text : (start : Carried) (files : Files) (before after : List Line) → (more : List ℕ) × ((after_from start files (before ++ after)).text ≡ (after_from start files before).text ++ more)
unfolding after_from
after_from-text start files before after =
    let more = text_from files (fold (after_line files) (at_start start) before) after in
    (more.0, ap (λ (p : ScriptProgress). p.text) (fold-append (after_line files) (at_start start) before after) ∙ more.1)

-- a front part of the text of some lines is one of the text of all
pub prefix_lines : (start : Carried) (files : Files) (first now : Option (List ℕ)) (lines more all : List Line) → lines ++ more ≡ all → AppendsPrefix first now (after_from start files lines).text → AppendsPrefix first now (after_from start files all).text
prefix_lines start files first now lines more all e part =
    let text = after_from-text start files lines more in
    subst (AppendsPrefix first now) (sym text.1 ∙ ap (λ (l : List Line). (after_from start files l).text) e) (prefix_of_first first now (after_from start files lines).text text.0 part)

-- some lines at the front of others are at the front of these and more
pub parts_further : (done left lines more all : List Line) → done ++ left ≡ lines → lines ++ more ≡ all → done ++ (left ++ more) ≡ all
parts_further done left lines more all front further = sym (append_assoc done left more) ∙ ap (λ (l : List Line). l ++ more) front ∙ further

-- a run that stopped in some lines stopped in these and more
pub stops_further : (start : Carried) (files : Files) (first now : Trace) (lines more all : List Line) (stop : Stop) → lines ++ more ≡ all → StopsIn start files first now lines stop → StopsIn start files first now all stop
stops_further start files first now lines more all stop.Sink e s =
    record { done = s.done; line = s.line; left = s.left ++ more; all = parts_further s.done (s.line ∷ s.left) lines more all s.all e; between = s.between; gone = s.gone; part = s.part; worth = s.worth; fetched = s.fetched }
stops_further start files first now lines more all stop.Shelf e s =
    record { done = s.done; line = s.line; left = s.left ++ more; all = parts_further s.done (s.line ∷ s.left) lines more all s.all e; asks = s.asks; gone = s.gone; worth = s.worth; fetched = s.fetched }
stops_further start files first now lines more all stop.NoMemory e s =
    record { done = s.done; line = s.line; left = s.left ++ more; all = parts_further s.done (s.line ∷ s.left) lines more all s.all e; wants = s.wants; gone = s.gone; worth = s.worth; fetched = s.fetched }

-- what the shelf was asked for

asked_more : (asked : List Fetch) (name : Option (List ℕ)) (seen : Fetches) → fetches_after name (with_fetches seen asked) ≡ with_fetches seen (after_asked asked name)
asked_more asked None seen = refl
asked_more asked (Some name) seen = sym (fold-append with_fetch seen asked (layout_fetch name ∷ []))

-- once a line was carried out, by what the code has
fetched_at : (files : Files) (first mid now : Trace) (runner : LineRunner) (progress : ScriptProgress) (tally : Tally) (line : Line) → HasCarriedOut first mid runner progress tally
    → now.fetches ≡ fetches_after (asked_by_line (carried_of runner.carrier) line) mid.fetches → now.fetches ≡ with_fetches first.fetches (after_line files progress line).asked
fetched_at files first mid now runner progress tally line at fetched =
    fetched
    ∙ ap (λ (c : Carried). fetches_after (asked_by_line c line) mid.fetches) at.carried
    ∙ ap (fetches_after (asked_by_line progress.carried line)) at.fetched
    ∙ asked_more progress.asked (asked_by_line progress.carried line) first.fetches

fetched_in : (start : Carried) (files : Files) (first mid now : Trace) (runner : LineRunner) (lines : List Line) (line : Line) → HasCarriedOut first mid runner (after_from start files lines) (tally_from start files lines)
    → now.fetches ≡ fetches_after (asked_by_line (carried_of runner.carrier) line) mid.fetches → HasFetched start files (lines ++ line ∷ []) first now
fetched_in start files first mid now runner lines line at fetched =
    fetched_at files first mid now runner (after_from start files lines) (tally_from start files lines) line at fetched
    ∙ ap (λ (p : ScriptProgress). with_fetches first.fetches p.asked) (sym (after_from-push start files lines line))

-- a line that is passed over
passed_asked : (carried : Carried) (line : Line) → is_idle line ≡ true → asked_by_line carried line ≡ None
unfolding asked_by_line
passed_asked carried LongLine e = refl
passed_asked carried (Text bytes) e = rw e refl

passed_reply : (files : Files) (carried : Carried) (line : Line) → is_idle line ≡ true → reply_to_line files carried line ≡ Done carried []
unfolding reply_to_line
passed_reply files carried LongLine e = absurd (cc)
passed_reply files carried (Text bytes) e = rw e refl

pub passed_line : (files : Files) (first now : Trace) (runner : LineRunner) (progress : ScriptProgress) (tally : Tally) (line : Line) (number : ℕ) → is_idle line ≡ true → number ≡ progress.lines + 1
    → HasCarriedOut first now runner progress tally → HasCarriedOut first now (record runner { lines = number }) (after_line files progress line) (with_cost files tally line)
passed_line files first now runner progress tally line number passed counted at =
    let reply = passed_reply files progress.carried line passed in
    rw (reply, passed_cost files tally line passed, passed_asked progress.carried line passed) (record {
      lines = counted;
      carried = at.carried;
      refused = at.refused;
      few = omega (arith, at.few);
      gone = subst (Appends first.gone now.gone) (sym (append-nil progress.text)) at.gone;
      tallied = at.tallied;
      fetched = at.fetched;
    })

first_true : (a b : Bool) → (a && b) ≡ true → a ≡ true
first_true true b e = refl
first_true false b e = e

second_true : (a b : Bool) → (a && b) ≡ true → b ≡ true
second_true true b e = e
second_true false b e = absurd (cc)

-- lines that are passed over
passed_lines : (files : Files) (first now : Trace) (runner : LineRunner) (progress : ScriptProgress) (tally : Tally) (lines : List Line) (number : ℕ) → list_all is_idle lines ≡ true → number ≡ progress.lines + length lines
    → HasCarriedOut first now runner progress tally → HasCarriedOut first now (record runner { lines = number }) (fold (after_line files) progress lines) (fold (with_cost files) tally lines)
passed_lines files first now runner progress tally [] number idle counted at = record {
  lines = counted ∙ (let e : progress.lines + 0 ≡ progress.lines = omega arith in e);
  carried = at.carried;
  refused = at.refused;
  few = at.few;
  gone = at.gone;
  tallied = at.tallied;
  fetched = at.fetched;
}
passed_lines files first now runner progress tally (line ∷ lines) number idle counted at =
    let one = counted_reply progress (reply_to_line files progress.carried line) in
    passed_lines files first now (record runner { lines = progress.lines + 1 }) (after_line files progress line) (with_cost files tally line) lines number (second_true (is_idle line) (list_all is_idle lines) idle)
    (let e : number ≡ (after_line files progress line).lines + length lines = omega (arith, counted, one) in e)
    (passed_line files first now runner progress tally line (progress.lines + 1) (first_true (is_idle line) (list_all is_idle lines) idle) refl at)

-- a line that is not passed over does what its bytes do
pub bytes_line : (files : Files) (carried : Carried) (bytes : List ℕ) → is_passed_over bytes ≡ false → reply_to_line files carried (Text bytes) ≡ reply_to_bytes files carried bytes
unfolding reply_to_line
bytes_line files carried bytes passed = rw passed refl

-- and asks for the file that they ask for
pub bytes_line-asked : (carried : Carried) (bytes : List ℕ) → is_passed_over bytes ≡ false → asked_by_line carried (Text bytes) ≡ asked_by_bytes carried bytes
unfolding asked_by_line
bytes_line-asked carried bytes passed = rw passed refl

-- what a line leaves that was refused, that ran out of memory, or whose fetch failed
pub not_done : {X : Type 0} (fault : StepFault) (refusal : Refusal) → fault ≡ step.Refused refusal → IsDone (Err fault) ⊎ X → X
not_done fault refusal e (inl done) = absurd (subst (λ (f : StepFault). IsDone (Err f)) e done)
not_done fault refusal e (inr same) = same

pub not_done_memory : {X : Type 0} (fault : StepFault) → fault ≡ step.NoMemory → IsDone (Err fault) ⊎ X → X
not_done_memory fault e (inl done) = absurd (subst (λ (f : StepFault). IsDone (Err f)) e done)
not_done_memory fault e (inr same) = same

pub not_done_fetch : {X : Type 0} (fault : StepFault) → fault ≡ step.Shelf → IsDone (Err fault) ⊎ X → X
not_done_fetch fault e (inl done) = absurd (subst (λ (f : StepFault). IsDone (Err f)) e done)
not_done_fetch fault e (inr same) = same

pub carried_refused : (reply : LineReply) (new : Carried) (before after : SinkState) (fault : StepFault) (refusal : Refusal) → fault ≡ step.Refused refusal
    → WritesLine reply new before after (Err fault) → reply ≡ Refused (plain_refusal refusal)
carried_refused reply new before after fault refusal e carried = subst (λ (f : StepFault). WritesLine reply new before after (Err f)) e carried

-- what a line whose text could not be written has done
pub carried_sink : (reply : LineReply) (new : Carried) (before after : SinkState) (fault : StepFault) → fault ≡ step.Sink → WritesLine reply new before after (Err fault)
    → (text : List ℕ) × (reply ≡ Done new text) × AppendsPrefix before.gone after.gone text × (after.faults ≡ raised before.faults)
carried_sink reply new before after fault e carried = subst (λ (f : StepFault). WritesLine reply new before after (Err f)) e carried

-- the reply to a line, by what the code has
reply_at : (files : Files) (first mid : Trace) (runner : LineRunner) (progress : ScriptProgress) (tally : Tally) (line : Line) (reply : LineReply) → HasCarriedOut first mid runner progress tally
    → reply_to_line files (carried_of runner.carrier) line ≡ reply → reply_to_line files progress.carried line ≡ reply
reply_at files first mid runner progress tally line reply at reported = ap (λ (c : Carried). reply_to_line files c line) (sym at.carried) ∙ reported

tally_reply_at : (files : Files) (first mid : Trace) (runner : LineRunner) (progress : ScriptProgress) (tally : Tally) (line : Line) (reply : LineReply) → HasCarriedOut first mid runner progress tally
    → reply_to_line files (carried_of runner.carrier) line ≡ reply → reply_to_line files (carried_in tally.watched) line ≡ reply
tally_reply_at files first mid runner progress tally line reply at reported = ap (λ (c : Carried). reply_to_line files c line) (sym (watching_same runner.carrier tally.watched at.tallied.watched)) ∙ reported

-- a line was refused, and to write that failed
pub refused_part : (start : Carried) (files : Files) (first mid now : Trace) (runner : LineRunner) (lines : List Line) (line : Line) (number : ℕ) (refusal : PlainRefusal)
    → HasCarriedOut first mid runner (after_from start files lines) (tally_from start files lines) → reply_to_line files (carried_of runner.carrier) line ≡ Refused refusal → number ≡ (after_from start files lines).lines + 1
    → now.work ≡ mid.work → now.fetches ≡ fetches_after (asked_by_line (carried_of runner.carrier) line) mid.fetches → AppendsPrefix mid.gone now.gone (refused_line number refusal) → WorksToWrite start files first now (lines ++ line ∷ [])
refused_part start files first mid now runner lines line number refusal at refused counted same fetched part =
    let so_far = after_from start files lines in
    let cost = tally_from-push start files lines line ∙ refused_cost files (tally_from start files lines) refusal line (tally_reply_at files first mid runner so_far (tally_from start files lines) line (Refused refusal) at refused) in
    let text : line_text files so_far line ≡ refused_line number refusal =
    ap (reply_text so_far) (reply_at files first mid runner so_far (tally_from start files lines) line (Refused refusal) at refused) ∙ ap (λ (n : ℕ). refused_line n refusal) (sym counted) in
    record {
      done = lines;
      line = line;
      left = [];
      all = refl;
      between = mid.gone;
      gone = at.gone;
      part = subst (AppendsPrefix mid.gone now.gone) (sym text) part;
      worth = worth_same (tally_from start files (lines ++ line ∷ [])).costs first.work mid.work now.work same (subst (λ (t : Tally). IsWorth t.costs first.work mid.work) (sym cost) at.tallied.worth);
      fetched = fetched_in start files first mid now runner lines line at fetched;
    }

-- a line was refused, and that was written
pub refused_at : (files : Files) (first mid now : Trace) (runner : LineRunner) (carrier : Carrier) (text : BufferedText) (progress : ScriptProgress) (tally : Tally) (line : Line) (number count : ℕ) (refusal : PlainRefusal)
    → HasCarriedOut first mid runner progress tally → carrier ≡ runner.carrier → now.work ≡ mid.work → now.fetches ≡ fetches_after (asked_by_line (carried_of runner.carrier) line) mid.fetches → reply_to_line files (carried_of runner.carrier) line ≡ Refused refusal → number ≡ progress.lines + 1
    → count ≡ progress.refused + 1 → Appends mid.gone now.gone (refused_line number refusal)
    → HasCarriedOut first now (record runner { carrier = carrier; lines = number; refused = count; text = text }) (after_line files progress line) (with_cost files tally line)
refused_at files first mid now runner carrier text progress tally line number count refusal at same idle fetched refused counted reported gone =
    let reply = reply_at files first mid runner progress tally line (Refused refusal) at refused in
    let cost = refused_cost files tally refusal line (tally_reply_at files first mid runner progress tally line (Refused refusal) at refused) in
    rw (reply, cost) (record {
      lines = counted;
      carried = ap carried_of same ∙ at.carried;
      refused = reported;
      few = omega (arith, at.few);
      gone = appends_both first.gone mid.gone now.gone progress.text (refused_line (progress.lines + 1) refusal) at.gone (subst (λ (n : ℕ). Appends mid.gone now.gone (refused_line n refusal)) counted gone);
      tallied = record {
        watched = subst (λ (c : Carrier). IsWatching c tally.watched) (sym same) at.tallied.watched;
        worth = worth_same tally.costs first.work mid.work now.work idle at.tallied.worth;
      };
      fetched = fetched_at files first mid now runner progress tally line at fetched;
    })

-- a line was carried out, and its text was written
pub done_at : (files : Files) (first mid now : Trace) (runner : LineRunner) (carrier : Carrier) (progress : ScriptProgress) (tally : Tally) (line : Line) (number : ℕ) (text : List ℕ) → HasCarriedOut first mid runner progress tally
    → reply_to_line files (carried_of runner.carrier) line ≡ Done (carried_of carrier) text → number ≡ progress.lines + 1 → Appends mid.gone now.gone text → HasTallied first.work now.work carrier (with_cost files tally line)
    → now.fetches ≡ fetches_after (asked_by_line (carried_of runner.carrier) line) mid.fetches → HasCarriedOut first now (record runner { carrier = carrier; lines = number }) (after_line files progress line) (with_cost files tally line)
done_at files first mid now runner carrier progress tally line number text at done counted gone tallied fetched =
    let reply = reply_at files first mid runner progress tally line (Done (carried_of carrier) text) at done in
    rw reply (record {
      lines = counted;
      carried = refl;
      refused = at.refused;
      few = omega (arith, at.few);
      gone = appends_both first.gone mid.gone now.gone progress.text text at.gone gone;
      tallied = tallied;
      fetched = fetched_at files first mid now runner progress tally line at fetched;
    })

-- a line was carried out, and to write its text failed
pub done_part : (start : Carried) (files : Files) (first mid now : Trace) (runner : LineRunner) (lines : List Line) (line : Line) (carrier : Carrier) (text : List ℕ)
    → HasCarriedOut first mid runner (after_from start files lines) (tally_from start files lines) → reply_to_line files (carried_of runner.carrier) line ≡ Done (carried_of carrier) text → AppendsPrefix mid.gone now.gone text
    → HasTallied first.work now.work carrier (with_cost files (tally_from start files lines) line) → now.fetches ≡ fetches_after (asked_by_line (carried_of runner.carrier) line) mid.fetches
    → WorksToWrite start files first now (lines ++ line ∷ [])
done_part start files first mid now runner lines line carrier text at done part tallied fetched =
    let so_far = after_from start files lines in
    let reported : line_text files so_far line ≡ text = ap (reply_text so_far) (reply_at files first mid runner so_far (tally_from start files lines) line (Done (carried_of carrier) text) at done) in
    record {
      done = lines;
      line = line;
      left = [];
      all = refl;
      between = mid.gone;
      gone = at.gone;
      part = subst (AppendsPrefix mid.gone now.gone) (sym reported) part;
      worth = subst (λ (t : Tally). IsWorth t.costs first.work now.work) (sym (tally_from-push start files lines line)) tallied.worth;
      fetched = fetched_in start files first mid now runner lines line at fetched;
    }

-- a line was not carried out: what was written and counted for the lines before it stays

pub works_before : (start : Carried) (files : Files) (first mid now : Trace) (runner : LineRunner) (lines : List Line) (line : Line) → HasCarriedOut first mid runner (after_from start files lines) (tally_from start files lines)
    → MayWant (carried_of runner.carrier) line → now.gone ≡ mid.gone → now.work ≡ mid.work → now.fetches ≡ fetches_after (asked_by_line (carried_of runner.carrier) line) mid.fetches
    → WorksBefore start files first now (lines ++ line ∷ [])
works_before start files first mid now runner lines line at wants gone work fetched = record {
  done = lines;
  line = line;
  left = [];
  all = refl;
  wants = subst (λ (c : Carried). MayWant c line) at.carried wants;
  gone = subst (λ (g : Option (List ℕ)). Appends first.gone g (after_from start files lines).text) (sym gone) at.gone;
  worth = worth_same (tally_from start files lines).costs first.work mid.work now.work work at.tallied.worth;
  fetched = fetched_in start files first mid now runner lines line at fetched;
}

pub works_to_fetch : (start : Carried) (files : Files) (first mid now : Trace) (runner : LineRunner) (lines : List Line) (line : Line) → HasCarriedOut first mid runner (after_from start files lines) (tally_from start files lines)
    → Asks (carried_of runner.carrier) line → now.gone ≡ mid.gone → now.work ≡ mid.work → now.fetches ≡ fetches_after (asked_by_line (carried_of runner.carrier) line) mid.fetches
    → WorksToFetch start files first now (lines ++ line ∷ [])
works_to_fetch start files first mid now runner lines line at asks gone work fetched = record {
  done = lines;
  line = line;
  left = [];
  all = refl;
  asks = subst (λ (c : Carried). Asks c line) at.carried asks;
  gone = subst (λ (g : Option (List ℕ)). Appends first.gone g (after_from start files lines).text) (sym gone) at.gone;
  worth = worth_same (tally_from start files lines).costs first.work mid.work now.work work at.tallied.worth;
  fetched = fetched_in start files first mid now runner lines line at fetched;
}

-- a run that stopped in the line that a part of a piece ended stopped in the lines of the piece
pub stops_in_piece : (start : Carried) (files : Files) (first now : Trace) (before piece : List ℕ) (n : ℕ) (line : Line) (stop : Stop) → (cut_of (before ++ take n piece)).lines ≡ (cut_of before).lines ++ line ∷ []
    → StopsIn start files first now ((cut_of before).lines ++ line ∷ []) stop → StopsIn start files first now (cut_of (before ++ piece)).lines stop
stops_in_piece start files first now before piece n line stop e stops =
    let more = cut_lines-append (before ++ take n piece) (drop n piece) in
    let all : (before ++ take n piece) ++ drop n piece ≡ before ++ piece = append_assoc before (take n piece) (drop n piece) ∙ ap (λ l. before ++ l) (take-append-drop n piece) in
    stops_further start files first now ((cut_of before).lines ++ line ∷ []) more.0 (cut_of (before ++ piece)).lines stop
    (ap (λ (l : List Line). l ++ more.0) (sym e) ∙ sym more.1 ∙ ap (λ (l : List ℕ). (cut_of l).lines) all) stops

-- no line ended
pub after_same : (start : Carried) (shelf : Option Files) (first now : Trace) (held : LineBuffer) (runner : LineRunner) (before bytes : List ℕ)
    → WithFiles shelf (λ files. HasCarriedOut first now runner (after_from start files (cut_of before).lines) (tally_from start files (cut_of before).lines)) → IsAfter held bytes
    → (cut_of bytes).lines ≡ (cut_of before).lines ++ [] → HasReadUpTo start shelf first now (record { lines = held; runner = runner }) bytes
after_same start shelf first now held runner before bytes at reached e = record {
  held = reached;
  runner = λ files reported. subst (λ (l : List Line). HasCarriedOut first now runner (after_from start files l) (tally_from start files l)) (sym (e ∙ append-nil (cut_of before).lines)) (at files reported);
}

-- the lines that ended are passed over
pub after_passed : (start : Carried) (shelf : Option Files) (first now : Trace) (held : LineBuffer) (runner : LineRunner) (before front : List ℕ) (number count : ℕ)
    → WithFiles shelf (λ files. HasCarriedOut first now runner (after_from start files (cut_of before).lines) (tally_from start files (cut_of before).lines))
    → WithFiles shelf (λ files. number ≡ (after_from start files (cut_of before).lines).lines + count) → IsAfter held (before ++ front)
    → (cut_of (before ++ front)).lines ≡ (cut_of before).lines ++ (cut_of front).lines → ArePassedOver front count
    → HasReadUpTo start shelf first now (record { lines = held; runner = record runner { lines = number } }) (before ++ front)
after_passed start shelf first now held runner before front number count at counted reached e passed = record {
  held = reached;
  runner = λ files reported.
      let done = passed_lines files first now runner (after_from start files (cut_of before).lines) (tally_from start files (cut_of before).lines) (cut_of front).lines number passed.idle (omega (arith, counted files reported, passed.counted)) (at files reported) in
      subst (λ (l : List Line). HasCarriedOut first now (record runner { lines = number }) (after_from start files l) (tally_from start files l)) (sym e)
      (rw (after_from-append start files (cut_of before).lines (cut_of front).lines, tally_from-append start files (cut_of before).lines (cut_of front).lines) done);
}

-- one line ended, and was carried out
pub after_more : (start : Carried) (shelf : Option Files) (first now : Trace) (held : LineBuffer) (runner : LineRunner) (before bytes : List ℕ) (line : Line)
    → WithFiles shelf (λ files. HasCarriedOut first now runner (after_line files (after_from start files (cut_of before).lines) line) (with_cost files (tally_from start files (cut_of before).lines) line))
    → IsAfter held bytes → (cut_of bytes).lines ≡ (cut_of before).lines ++ line ∷ [] → HasReadUpTo start shelf first now (record { lines = held; runner = runner }) bytes
after_more start shelf first now held runner before bytes line at reached e = record {
  held = reached;
  runner = λ files reported. subst (λ (l : List Line). HasCarriedOut first now runner (after_from start files l) (tally_from start files l)) (sym e)
      (rw (after_from-push start files (cut_of before).lines line, tally_from-push start files (cut_of before).lines line) (at files reported));
}

-- the last line, if there is none, and if there is one
pub last_none : (script : List ℕ) → last_of (cut_of script).rest ≡ [] → lines_of script ≡ (cut_of script).lines
unfolding lines_of
last_none script e = ap (λ l. (cut_of script).lines ++ l) e ∙ append-nil (cut_of script).lines

pub last_one : (script : List ℕ) (line : Line) → last_of (cut_of script).rest ≡ line ∷ [] → lines_of script ≡ (cut_of script).lines ++ line ∷ []
unfolding lines_of
last_one script line e = ap (λ l. (cut_of script).lines ++ l) e

-- what was written and counted in a run so far
pub works_of : (start : Carried) (files : Files) (first now : Trace) (runner : LineRunner) (lines : List Line) → HasCarriedOut first now runner (after_from start files lines) (tally_from start files lines) → Works start files first now lines
works_of start files first now runner lines at = record { gone = at.gone; worth = at.tallied.worth; fetched = at.fetched }
