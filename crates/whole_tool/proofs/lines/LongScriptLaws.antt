-- Lines of more bytes, and how many they are.
use Rattle.std.proofs.Common.{◌≡◌, ℕ, ◌+◌, ◌-◌, ◌<◌, ◌≤◌, cond, length, take, drop, List, ◌++◌, ap, sym, subst, ◌∙◌, arith, append_assoc, length-append, length-take, length-drop, inl, inr}
use Rattle.std.proofs.lemmas.Bool.{cases_lt, lt-ltb, le-ltb}
use Rattle.std.proofs.lemmas.List.{take-append-drop, take_all}
use Rattle.std.proofs.Math.Seq.{take-append-add}
use Rattle.script_lines.proofs.lines.LineLaws.{cut_lines-append}
use Rattle.script_lines.specs.cutting.Lines.{Line, cut_of, last_of, lines_of}
use Rattle.text_lines.proofs.Prefixes.{take_further}
use Rattle.whole_tool.specs.Transcript.{carried_lines, max_script}

pub taken_more : (before piece : List ℕ) (at n : ℕ) → at ≤ length piece → (before ++ take at piece) ++ take n (take (length piece - at) (drop at piece)) ≡ before ++ take (at + n) piece
taken_more before piece at n within =
    append_assoc before (take at piece) (take n (take (length piece - at) (drop at piece))) ∙ ap (λ l. before ++ l) (take_further at n piece within)

pub taken_rest : (before piece : List ℕ) (at : ℕ) → (before ++ take at piece) ++ take (length piece - at) (drop at piece) ≡ before ++ piece
taken_rest before piece at =
    append_assoc before (take at piece) (take (length piece - at) (drop at piece))
    ∙ ap (λ l. before ++ (take at piece ++ l)) (take_all (length piece - at) (drop at piece) (omega (arith, length-drop at piece)))
    ∙ ap (λ l. before ++ l) (take-append-drop at piece)

pub rest_short : (before piece : List ℕ) (at most : ℕ) → length (before ++ piece) < most → length ((before ++ take at piece) ++ take (length piece - at) (drop at piece)) < most
rest_short before piece at most short = subst (λ (l : List ℕ). length l < most) (sym (taken_rest before piece at)) short

pub taken_short : (before piece : List ℕ) (at most : ℕ) → length (before ++ piece) < most → length (before ++ take at piece) < most
taken_short before piece at most short =
    omega (arith, short, length-append before piece, length-append before (take at piece), length-take at piece)

pub carried_short : (script : List ℕ) → length script ≤ max_script → carried_lines script ≡ lines_of script
unfolding carried_lines
carried_short script short = ap (λ b. cond b (cut_of (take max_script script)).lines (lines_of script)) (le-ltb max_script (length script) short)

pub carried_long : (script : List ℕ) → max_script < length script → carried_lines script ≡ (cut_of (take max_script script)).lines
unfolding carried_lines
carried_long script long = ap (λ b. cond b (cut_of (take max_script script)).lines (lines_of script)) (lt-ltb max_script (length script) long)

pub lines_of-cut : (taken rest : List ℕ) → (more : List Line) × ((cut_of taken).lines ++ more ≡ lines_of (taken ++ rest))
unfolding lines_of
lines_of-cut taken rest =
    let more = cut_lines-append taken rest in (
      more.0 ++ last_of (cut_of (taken ++ rest)).rest,
      sym (append_assoc (cut_of taken).lines more.0 (last_of (cut_of (taken ++ rest)).rest))
          ∙ ap (λ (l : List Line). l ++ last_of (cut_of (taken ++ rest)).rest) (sym more.1),
    )

cut_front : (taken rest : List ℕ) → length taken ≤ max_script → (more : List Line) × ((cut_of taken).lines ++ more ≡ (cut_of (take max_script (taken ++ rest))).lines)
cut_front taken rest short =
    let n = max_script - length taken in
    let split : max_script ≡ length taken + n = omega (arith, short) in
    let e : take max_script (taken ++ rest) ≡ taken ++ take n rest = ap (λ m. take m (taken ++ rest)) split ∙ take-append-add taken rest n in
    let more = cut_lines-append taken (take n rest) in
    (more.0, sym more.1 ∙ ap (λ (l : List ℕ). (cut_of l).lines) (sym e))

-- the lines whose line feed is among the first bytes of a script are the first that are carried out
pub carried_front : (script taken rest : List ℕ) → script ≡ taken ++ rest → length taken ≤ max_script → (more : List Line) × ((cut_of taken).lines ++ more ≡ carried_lines script)
carried_front script taken rest e short = elim (cases_lt max_script (length script)) [
  | inl long ↦ (
      let more = cut_front taken rest short in
      (more.0, more.1 ∙ ap (λ (l : List ℕ). (cut_of (take max_script l)).lines) (sym e) ∙ sym (carried_long script long))
      )
  | inr all ↦ (
      let more = lines_of-cut taken rest in
      (more.0, more.1 ∙ ap lines_of (sym e) ∙ sym (carried_short script all))
      )
]
