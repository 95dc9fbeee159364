use Rattle.std.proofs.Common.{◌≡◌, ◌∙◌, ap, sym, arith, take}
use Rattle.script_lines.proofs.lines.PassedLaws.{passed-lines, passed-reached}
use Rattle.script_lines.proofs.cutting.Lines.passed_over.Goals as goal

pub returns-clause-lines : goal.returns-clause-lines
returns-clause-lines c before s =
    let none : c.self.inside.begun ≡ 0 = omega (arith, c.if-self-gt0.false) in
    passed-lines c.args.self.now before _ (sym (ap (λ h. h.begun) c.self.view_is) ∙ ap (λ n. take n c.self.inside.buffer) none) s

pub returns-clause-reached : goal.returns-clause-reached
returns-clause-reached c before s =
    let none : c.self.inside.begun ≡ 0 = omega (arith, c.if-self-gt0.false) in
    passed-reached c.args.self.now before _ c.passed_front.result.lines (sym (ap (λ h. h.begun) c.self.view_is) ∙ ap (λ n. take n c.self.inside.buffer) none) s c.passed_front.ensures.passed
