-- What was taken of a script, and how its run ends.
use Rattle.std.proofs.Common.{◌≡◌, ℕ, ◌+◌, ◌-◌, ◌<◌, ◌≤◌, ◌^◌, length, take, drop, List, [], ◌++◌, refl, ap, sym, subst, ◌∙◌, arith, append_assoc, length-append, length-take}
use Rattle.std.specs.Prelude.{nat_lt, Option, Some, None, Ok, Err}
use Rattle.std.specs.Io.KnownBytes.{Consumes, IsAtEnd, Keeps}
use Rattle.std.proofs.lemmas.List.{append-nil, take-append-drop, take-append-le}
use Rattle.std.proofs.Math.Seq.{take-append-add}
use Rattle.script_lines.specs.cutting.Lines.{Line, cut_of, lines_of}
use Rattle.tool_io.specs.Fetched.{Files}
use Rattle.whole_tool.specs.Carried.{Carried}
use Rattle.whole_tool.specs.declared.run.LineRunner.{LineRunner}
use Rattle.whole_tool.specs.declared.run.Run.{Run}
use Rattle.whole_tool.specs.declared.run.Stop.{Stop}
use Rattle.whole_tool.specs.declared.script.End.TheVariants as end
use Rattle.whole_tool.specs.Run.{HasCarriedOut, HasReadUpTo, StopsIn}
use Rattle.whole_tool.specs.Script.{RunsTo, WorksTaken}
use Rattle.whole_tool.specs.Tally.{tally_from}
use Rattle.whole_tool.specs.Transcript.{after_from, carried_lines, max_script}
use Rattle.whole_tool.specs.Works.{Trace, Works}
use Rattle.whole_tool.proofs.lines.LongScriptLaws.{carried_front, carried_long, carried_short}
use Rattle.whole_tool.proofs.lines.RunLaws.{stops_further}

pub Consumes-nil : (left : Option (List ℕ)) → Consumes left left []
Consumes-nil None = tt
Consumes-nil (Some left) = refl

pub Consumes-Consumes : (old mid new : Option (List ℕ)) (xs ys : List ℕ) → Consumes old mid xs → Consumes mid new ys → Consumes old new (xs ++ ys)
Consumes-Consumes None mid new xs ys first second = tt
Consumes-Consumes (Some a) None new xs ys first second = elim first [ ]
Consumes-Consumes (Some a) (Some b) None xs ys first second = elim second [ ]
Consumes-Consumes (Some a) (Some b) (Some c) xs ys first second = first ∙ ap (λ l. xs ++ l) second ∙ sym (append_assoc xs ys c)

-- a read that failed took nothing
pub Consumes-Keeps : (old mid new : Option (List ℕ)) (xs : List ℕ) → Consumes old mid xs → Keeps mid new → Consumes old new xs
Consumes-Keeps None mid new xs lost kept = tt
Consumes-Keeps (Some a) None new xs lost kept = elim lost [ ]
Consumes-Keeps (Some a) (Some b) None xs lost kept = elim kept [ ]
Consumes-Keeps (Some a) (Some b) (Some c) xs lost kept = lost ∙ ap (λ l. xs ++ l) (sym kept)

-- what was taken is at the front of the script
pub consumed : (old new : Option (List ℕ)) (script taken : List ℕ) → old ≡ Some script → Consumes old new taken → (rest : List ℕ) × (script ≡ taken ++ rest) × (new ≡ Some rest)
consumed old None script taken reported lost = elim (subst (λ l. Consumes l None taken) reported lost) [ ]
consumed old (Some rest) script taken reported lost = (rest, subst (λ l. Consumes l (Some rest) taken) reported lost, refl)

-- if nothing is left, all was taken
pub taken_whole : (new : Option (List ℕ)) (script taken : List ℕ) → Consumes (Some script) new taken → IsAtEnd new → taken ≡ script
taken_whole None script taken lost end = elim lost [ ]
taken_whole (Some rest) script taken lost end = sym (lost ∙ ap (λ l. taken ++ l) end ∙ append-nil taken)

pub taken_by_end : (old new : Option (List ℕ)) (script taken : List ℕ) → old ≡ Some script → Consumes old new taken → IsAtEnd new → taken ≡ script
taken_by_end old new script taken reported lost end = taken_whole new script taken (subst (λ l. Consumes l new taken) reported lost) end

-- the first bytes of a script that is too long, by what was taken
take_front : (script taken bytes rest : List ℕ) (left : ℕ) → script ≡ (taken ++ bytes) ++ rest → length taken + left ≡ max_script → left ≤ length bytes
    → take max_script script ≡ taken ++ take left bytes
take_front script taken bytes rest left e count enough =
    ap (take max_script) (e ∙ append_assoc taken bytes rest)
    ∙ ap (λ n. take n (taken ++ (bytes ++ rest))) (sym count)
    ∙ take-append-add taken (bytes ++ rest) left
    ∙ ap (λ l. taken ++ l) (take-append-le left bytes rest enough)

-- a read failed
pub ends_source : (start : Carried) (files : Files) (first last : Trace) (old new : Option (List ℕ)) (script taken : List ℕ) → old ≡ Some script → Consumes old new taken → length taken ≤ max_script
    → Works start files first last (cut_of taken).lines → WorksTaken start files script new first last
ends_source start files first last old new script taken reported lost within works =
    let c = consumed old new script taken reported lost in
    record { taken = taken; takes = record { rest = c.0; front = c.1; left = c.2 }; within = within; works = works }

-- one byte too many came
pub ends_long : (start : Carried) (files : Files) (first last : Trace) (old new : Option (List ℕ)) (script taken bytes : List ℕ) (left : ℕ) → old ≡ Some script → Consumes old new (taken ++ bytes)
    → length taken + left ≡ max_script → length bytes ≡ left + 1 → Works start files first last (cut_of (taken ++ take left bytes)).lines → RunsTo start (record { files = files; script = script }) new first last (Err end.Long)
ends_long start files first last old new script taken bytes left reported lost count many works =
    let c = consumed old new script (taken ++ bytes) reported lost in
    let long : max_script < length script = omega (arith, ap length c.1, length-append (taken ++ bytes) c.0, length-append taken bytes, count, many) in
    let front = take_front script taken bytes c.0 left c.1 count (omega (arith, many)) in
    (long, subst (Works start files first last) (sym (carried_long script long ∙ ap (λ (l : List ℕ). (cut_of l).lines) front)) works)

-- the run stopped in a line that ended in the first bytes of a piece
pub ends_stopped : (start : Carried) (files : Files) (first last : Trace) (old new : Option (List ℕ)) (script taken bytes : List ℕ) (left n : ℕ) (stop : Stop) → old ≡ Some script → Consumes old new (taken ++ bytes)
    → length taken + left ≡ max_script → n ≤ left → StopsIn start files first last (cut_of (taken ++ take n bytes)).lines stop → StopsIn start files first last (carried_lines script) stop
ends_stopped start files first last old new script taken bytes left n stop reported lost count within stops =
    let c = consumed old new script (taken ++ bytes) reported lost in
    let split : script ≡ (taken ++ take n bytes) ++ (drop n bytes ++ c.0) =
    c.1 ∙ ap (λ l. (taken ++ l) ++ c.0) (sym (take-append-drop n bytes))
    ∙ ap (λ l. l ++ c.0) (sym (append_assoc taken (take n bytes) (drop n bytes)))
    ∙ append_assoc (taken ++ take n bytes) (drop n bytes) c.0 in
    let short : length (taken ++ take n bytes) ≤ max_script = omega (arith, length-append taken (take n bytes), length-take n bytes, count, within) in
    let more = carried_front script (taken ++ take n bytes) (drop n bytes ++ c.0) split short in
    stops_further start files first last (cut_of (taken ++ take n bytes)).lines more.0 (carried_lines script) stop more.1 stops

-- what a run has taken of a source, of which at most n more bytes are taken
pub record HasTakenBytes (start : Carried) (shelf : Option Files) (before after : Option (List ℕ)) (first now : Trace) (run : Run) (left : ℕ) : Type 0 where
  pub bytes : List ℕ
  pub consumed : Consumes before after bytes
  pub count : length bytes + left ≡ max_script
  pub following : HasReadUpTo start shelf first now run bytes

-- what a run is given of a piece that was read is not too long
pub piece_short : (taken buffer : List ℕ) (left n : ℕ) → length taken + left ≡ max_script → n ≤ left → length (taken ++ take n buffer) < 2 ^ 63
piece_short taken buffer left n count within = omega (arith, length-append taken (take n buffer), length-take n buffer, count, within)

-- and once one piece more was read and carried out
pub taken_on : (start : Carried) (shelf : Option Files) (before mid new : Option (List ℕ)) (first last now : Trace) (old run : Run) (left n given : ℕ) (buffer : List ℕ) (t : HasTakenBytes start shelf before mid first last old left)
    → Consumes mid new (take n buffer) → n ≤ length buffer → n ≤ left → given ≡ n → HasReadUpTo start shelf first now run (t.bytes ++ take given buffer) → HasTakenBytes start shelf before new first now run (left - n)
taken_on start shelf before mid new first last now old run left n given buffer t lost read within all following = record {
  bytes = t.bytes ++ take n buffer;
  consumed = Consumes-Consumes before mid new t.bytes (take n buffer) t.consumed lost;
  count = omega (arith, length-append t.bytes (take n buffer), length-take n buffer, t.count, read, within);
  following = subst (λ (k : ℕ). HasReadUpTo start shelf first now run (t.bytes ++ take k buffer)) all following;
}

-- what a run has taken of a source that is at its end
pub record HasTakenAll (start : Carried) (shelf : Option Files) (before after : Option (List ℕ)) (first now : Trace) (run : Run) : Type 0 where
  pub bytes : List ℕ
  pub consumed : Consumes before after bytes
  pub ended : IsAtEnd after
  pub fits : length bytes ≤ max_script
  pub following : HasReadUpTo start shelf first now run bytes

-- the run got to the end of its script, and stopped in the last line
pub ends_last : (start : Carried) (files : Files) (first last : Trace) (old new : Option (List ℕ)) (script taken : List ℕ) (stop : Stop) → old ≡ Some script → Consumes old new taken → IsAtEnd new → length taken ≤ max_script
    → StopsIn start files first last (lines_of taken) stop → StopsIn start files first last (carried_lines script) stop
ends_last start files first last old new script taken stop reported lost end short stops =
    let all = taken_by_end old new script taken reported lost end in
    let fits : length script ≤ max_script = subst (λ (l : List ℕ). length l ≤ max_script) all short in
    subst (λ (l : List Line). StopsIn start files first last l stop) (ap lines_of all ∙ sym (carried_short script fits)) stops

-- the run got to the end of its script
pub ends_well : (start : Carried) (files : Files) (first last : Trace) (old new : Option (List ℕ)) (script taken : List ℕ) (runner : LineRunner) → old ≡ Some script → Consumes old new taken → IsAtEnd new → length taken ≤ max_script
    → HasCarriedOut first last runner (after_from start files (lines_of taken)) (tally_from start files (lines_of taken)) → RunsTo start (record { files = files; script = script }) new first last (Ok (nat_lt 0 runner.refused))
ends_well start files first last old new script taken runner reported lost end short at =
    let all = taken_by_end old new script taken reported lost end in (
      subst (λ (l : List ℕ). length l ≤ max_script) all short,
      subst (λ (l : List ℕ). Works start files first last (lines_of l)) all (record { gone = at.gone; worth = at.tallied.worth; fetched = at.fetched }),
      ap (nat_lt 0) (at.refused ∙ ap (λ (l : List ℕ). (after_from start files (lines_of l)).refused) all),
    )
