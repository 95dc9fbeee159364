use Rattle.std.proofs.Common.{◌++◌, ◌-◌, ◌∙◌, inl, inr, ap, arith, sym, take, drop, length, length-drop, length-take}
use Rattle.std.proofs.lemmas.List.{take_all}
use Rattle.std.proofs.Math.Seq.{take-add}
use Rattle.script_lines.proofs.lines.PassedLaws.{one_more_passed}
use Rattle.script_lines.proofs.cutting.passed_front.Goals as goal

pub loop-bytes-preserved : goal.loop-bytes-preserved
loop-bytes-preserved c =
    let at = c.loop-bytes.bytes in
    let piece = c.args.piece.now in
    let more = c.passed_len-more.result in
    let all = take-add at more piece ∙ ap (λ l. take at piece ++ take more l) (sym (take_all (length piece - at) (drop at piece) (omega (arith, length-drop at piece)))) in
    record {
      within = omega (arith, c.loop-bytes.invariant.within, c.passed_len-more.ensures.within, length-take (length piece - at) (drop at piece), length-drop at piece);
      few = omega (arith, c.loop-bytes.invariant.few, c.if-more-eq0.false);
      passed = elim c.passed_len-more.ensures.passed [
        | inl none ↦ absurd (c.if-more-eq0.false none)
        | inr passed ↦ one_more_passed _ _ _ c.loop-bytes.lines c.loop-bytes.invariant.passed passed all
      ];
    }
