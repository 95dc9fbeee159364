-- A script that grows by one line at a time.
use Rattle.std.proofs.Common.{◌≡◌, ◌∙◌, ℕ, ◌+◌, ◌^◌, ◌<◌, ◌≤◌, true, false, List, [], ◌∷◌, ◌++◌, refl, ap, sym, subst, arith, append_assoc}
use Rattle.std.specs.Prelude.{◌-◌, ◌==◌, Bool, ◌||◌, nat_lt, if◌then◌else◌, fold}
use Rattle.std.specs.Io.KnownBytes.{Appends}
use Rattle.std.proofs.lemmas.Grind.{fold-append}
use Rattle.std.proofs.lemmas.List.{append-nil}
use Rattle.script_lines.specs.cutting.Lines.{Cut, Line, cut_of, cut_step, is_line_feed, last_of, line_of, lines_of}
use Rattle.tool_io.specs.Fetched.{Files}
use Rattle.text_lines.proofs.Prefixes.{appends_none}
use Rattle.whole_tool.specs.Carried.{Alone, LineReply, Done, Refused}
use Rattle.whole_tool.specs.Carrier.{IsFirst, IsWatching, carried_of}
use Rattle.whole_tool.specs.Run.{HasCarriedOut}
use Rattle.whole_tool.specs.Session.{HasRun, IsAnswered, after_script, answer_to, has_line_feed, max_lines, with_line}
use Rattle.whole_tool.specs.Tally.{Tally, watching_first}
use Rattle.whole_tool.specs.Transcript.{ScriptProgress, after_line, after_lines, after_from, after_reply, line_text, reply_text, reply_to_line, transcript}
use Rattle.whole_tool.specs.Works.{Trace}
use Rattle.whole_tool.specs.declared.carrier.Carrier.{Carrier}
use Rattle.whole_tool.specs.declared.run.LineRunner.{LineRunner}
use Rattle.whole_tool.specs.declared.session.Session.{Session}
use Rattle.whole_tool.proofs.lines.CarrierLaws.{first_watching}
use Rattle.whole_tool.proofs.lines.RunLaws.{after_from-push, line_after}
use Rattle.whole_tool.proofs.costs.SumLaws.{worth_none}
use Rattle.view_world.specs.frames.Watched.{no_costs}
use Rattle.world_parts.specs.World.{empty_world}

first_false : (a b : Bool) → (a || b) ≡ false → a ≡ false
first_false true b e = e
first_false false b e = refl

second_false : (a b : Bool) → (a || b) ≡ false → b ≡ false
second_false true b e = absurd (cc)
second_false false b e = e

step_other : (lines : List Line) (held : List ℕ) (b : ℕ) → is_line_feed b ≡ false → cut_step (record { lines = lines; rest = held }) b ≡ record { lines = lines; rest = held ++ b ∷ [] }
step_other lines held b other = rw other refl

-- bytes without a line feed, and then one, are a line
cut_line : (lines : List Line) (held bytes : List ℕ) → has_line_feed bytes ≡ false
    → fold cut_step (record { lines = lines; rest = held }) (bytes ++ 10 ∷ []) ≡ record { lines = lines ++ line_of (held ++ bytes) ∷ []; rest = [] }
cut_line lines held [] none = ap (λ h. record { lines = lines ++ line_of h ∷ []; rest = [] }) (sym (append-nil held))
cut_line lines held (b ∷ bytes) none =
    let other : is_line_feed b ≡ false = first_false (is_line_feed b) (has_line_feed bytes) none in
    let more = cut_line lines (held ++ b ∷ []) bytes (second_false (is_line_feed b) (has_line_feed bytes) none) in
    ap (λ (c : Cut). fold cut_step c (bytes ++ 10 ∷ [])) (step_other lines held b other)
    ∙ more
    ∙ ap (λ h. record { lines = lines ++ line_of h ∷ []; rest = [] }) (append_assoc held (b ∷ []) bytes)

pub cut_more : (script line : List ℕ) → (cut_of script).rest ≡ [] → has_line_feed line ≡ false
    → cut_of (with_line script line) ≡ record { lines = (cut_of script).lines ++ line_of line ∷ []; rest = [] }
cut_more script line ended none =
    fold-append cut_step (record { lines = []; rest = [] }) script (line ++ 10 ∷ [])
    ∙ ap (λ (rest : List ℕ). fold cut_step (record { lines = (cut_of script).lines; rest = rest }) (line ++ 10 ∷ [])) ended
    ∙ cut_line (cut_of script).lines [] line none

whole_lines : (script : List ℕ) → (cut_of script).rest ≡ [] → lines_of script ≡ (cut_of script).lines
unfolding lines_of
whole_lines script ended = ap (λ rest. (cut_of script).lines ++ last_of rest) ended ∙ append-nil (cut_of script).lines

pub still_ended : (script line : List ℕ) → (cut_of script).rest ≡ [] → has_line_feed line ≡ false → (cut_of (with_line script line)).rest ≡ []
still_ended script line ended none = ap (λ (c : Cut). c.rest) (cut_more script line ended none)

pub lines_more : (script line : List ℕ) → (cut_of script).rest ≡ [] → has_line_feed line ≡ false → lines_of (with_line script line) ≡ lines_of script ++ line_of line ∷ []
lines_more script line ended none =
    whole_lines (with_line script line) (still_ended script line ended none)
    ∙ ap (λ (c : Cut). c.lines) (cut_more script line ended none)
    ∙ ap (λ (l : List Line). l ++ line_of line ∷ []) (sym (whole_lines script ended))

-- what a script has made grows by that line
pub after_more : (files : Files) (script line : List ℕ) → (cut_of script).rest ≡ [] → has_line_feed line ≡ false → after_script files (with_line script line) ≡ after_line files (after_script files script) (line_of line)
after_more files script line ended none =
    ap (after_lines files) (lines_more script line ended none) ∙ after_from-push (Alone empty_world) files (lines_of script) (line_of line)

pub text_more : (files : Files) (script line : List ℕ) → (cut_of script).rest ≡ [] → has_line_feed line ≡ false → transcript (with_line script line) files ≡ transcript script files ++ answer_to files script line
text_more files script line ended none =
    ap (λ (l : List Line). (after_lines files l).text) (lines_more script line ended none) ∙ line_after (Alone empty_world) files (lines_of script) (line_of line)

-- the lines so far without what was written for them
abbrev pub unwritten : ScriptProgress → ScriptProgress
unwritten progress = record { lines = progress.lines; carried = progress.carried; text = []; refused = progress.refused; asked = [] }

-- a line does the same after these, and its text is all that is written
pub record DoesSame (after alone : ScriptProgress) (all : List ℕ) : Type 0 where
  pub lines : alone.lines ≡ after.lines
  pub carried : alone.carried ≡ after.carried
  pub refused : alone.refused ≡ after.refused
  pub text : alone.text ≡ all

same_reply : (progress : ScriptProgress) (reply : LineReply) → DoesSame (after_reply progress reply) (after_reply (unwritten progress) reply) (reply_text progress reply)
same_reply progress (Done carried text) = record { lines = refl; carried = refl; refused = refl; text = refl }
same_reply progress (Refused refusal) = record { lines = refl; carried = refl; refused = refl; text = refl }

pub same_line : (files : Files) (progress : ScriptProgress) (line : Line) → DoesSame (after_line files progress line) (after_line files (unwritten progress) line) (line_text files progress line)
same_line files progress line =
    let same = same_reply progress (reply_to_line files progress.carried line) in
    record { lines = same.lines; carried = same.carried; refused = same.refused; text = same.text }

-- a line is refused or not
one_reply : (progress : ScriptProgress) (reply : LineReply) → ((after_reply progress reply).lines ≡ progress.lines + 1) × ((after_reply progress reply).refused ≡ progress.refused + (if nat_lt progress.refused (after_reply progress reply).refused then 1 else 0))
one_reply progress (Done carried text) = let same : nat_lt progress.refused progress.refused ≡ false = grind arith in (refl, rw same (omega arith))
one_reply progress (Refused refusal) = let more : nat_lt progress.refused (progress.refused + 1) ≡ true = grind arith in (refl, rw more refl)

pub one_line : (files : Files) (progress : ScriptProgress) (line : Line) → ((after_line files progress line).lines ≡ progress.lines + 1) × ((after_line files progress line).refused ≡ progress.refused + (if nat_lt progress.refused (after_line files progress line).refused then 1 else 0))
one_line files progress line = one_reply progress (reply_to_line files progress.carried line)

-- a session of no lines
pub runs_nothing : (files : Files) (session : Session) (carrier : Carrier) → session.runner.lines ≡ 0 → session.left ≡ max_lines → session.runner.refused ≡ 0
    → session.runner.carrier ≡ carrier → carried_of carrier ≡ Alone empty_world → IsFirst carrier → HasRun files [] session
unfolding lines_of after_from
runs_nothing files session carrier lines left refused same start first = record {
  ended = refl;
  lines = lines;
  counted = omega (arith, lines, left);
  carried = ap carried_of same ∙ start;
  refused = refused;
  few = omega arith;
  watching = watching_first (carried_of carrier);
  watched = subst (λ (c : Carrier). IsWatching c (watching_first (carried_of carrier))) (sym same) (first_watching carrier first);
}

-- what a run of lines says of a session that has run a script, seen from this moment
pub at_line : (files : Files) (script : List ℕ) (session : Session) (now : Trace) (has : HasRun files script session)
    → HasCarriedOut now now session.runner (unwritten (after_script files script)) (record { watched = has.watching; costs = no_costs })
at_line files script session now has = record {
  lines = has.lines;
  carried = has.carried;
  refused = has.refused;
  few = has.few;
  gone = appends_none now.gone;
  tallied = record { watched = has.watched; worth = worth_none now.work };
  fetched = refl;
}

-- it has run no more lines than it takes
pub few_lines : (files : Files) (script : List ℕ) (session : Session) → HasRun files script session → (after_script files script).lines < 2 ^ 63
few_lines files script session has = omega (arith, has.lines, has.counted)

-- and after one more line
pub ran_line : (files : Files) (script line : List ℕ) (old new : Session) (first now : Trace) (tally : Tally) → has_line_feed line ≡ false → (old.left == 0) ≡ false → new.left ≡ old.left - 1
    → HasRun files script old → HasCarriedOut first now new.runner (after_line files (unwritten (after_script files script)) (line_of line)) tally → HasRun files (with_line script line) new
ran_line files script line old new first now tally none room left has at =
    let so_far = after_script files script in
    let same = same_line files so_far (line_of line) in
    let one = one_line files so_far (line_of line) in
    let more = after_more files script line has.ended none in
    let lines : new.runner.lines ≡ (after_line files so_far (line_of line)).lines = at.lines ∙ same.lines in
    let some : 0 < old.left = grind (arith, room) in
    record {
      ended = still_ended script line has.ended none;
      lines = lines ∙ ap (λ (p : ScriptProgress). p.lines) (sym more);
      counted = omega (arith, lines, one.0, left, has.counted, has.lines, some);
      carried = at.carried ∙ same.carried ∙ ap (λ (p : ScriptProgress). p.carried) (sym more);
      refused = at.refused ∙ same.refused ∙ ap (λ (p : ScriptProgress). p.refused) (sym more);
      few = subst (λ (p : ScriptProgress). p.refused ≤ p.lines) (sym more) (omega (arith, same.refused, same.lines, at.few));
      watching = tally.watched;
      watched = at.tallied.watched;
    }

pub answered_line : (files : Files) (script line : List ℕ) (old : Session) (new : LineRunner) (first now : Trace) (tally : Tally) → has_line_feed line ≡ false
    → HasRun files script old → HasCarriedOut first now new (after_line files (unwritten (after_script files script)) (line_of line)) tally
    → IsAnswered files script line first.gone now.gone (nat_lt old.runner.refused new.refused)
answered_line files script line old new first now tally none has at =
    let so_far = after_script files script in
    let same = same_line files so_far (line_of line) in
    let one = one_line files so_far (line_of line) in
    let more = after_more files script line has.ended none in
    record {
      gone = subst (Appends first.gone now.gone) same.text at.gone;
      whole = text_more files script line has.ended none;
      refused =
          ap (λ (p : ScriptProgress). p.refused) more ∙ one.1
          ∙ ap (λ (b : Bool). so_far.refused + (if b then 1 else 0)) (ap (λ n. nat_lt n (after_line files so_far (line_of line)).refused) (sym has.refused) ∙ ap (nat_lt old.runner.refused) (sym (at.refused ∙ same.refused)));
    }
