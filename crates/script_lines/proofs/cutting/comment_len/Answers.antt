use Rattle.std.proofs.Common.{◌≡◌, ◌+◌, ◌-◌, ◌∙◌, arith, ap, subst, inr, take, drop, length, length-drop, length-take}
use Rattle.std.proofs.lemmas.List.{take_all}
use Rattle.std.specs.List.{position_or_len}
use Rattle.script_lines.specs.cutting.Lines.{ArePassedOver, is_line_feed}
use Rattle.script_lines.proofs.lines.PassedLaws.{comment_passed}
use Rattle.script_lines.proofs.cutting.comment_len.Goals as goal

pub returns-clause-passed : goal.returns-clause-passed
returns-clause-passed c =
    let place = c.line_end-end.result in
    inr (subst (λ n. ArePassedOver (take n c.args.bytes.now) 1) (let e : place + 2 ≡ 1 + place + 1 = omega arith in e)
    (comment_passed c.args.bytes.now place c.requires.some c.requires.first
    (c.line_end-end.ensures.place ∙ ap (position_or_len is_line_feed) (take_all _ (drop 1 c.args.bytes.now) (omega (arith, length-drop 1 c.args.bytes.now))))
    (omega (arith, c.line_end-end.ensures.within, c.if-end-bytes.false, length-take (length c.args.bytes.now - 1) (drop 1 c.args.bytes.now), length-drop 1 c.args.bytes.now, c.requires.some)) (omega (arith, c.if-end-gt-MAX_LINE.false))))
