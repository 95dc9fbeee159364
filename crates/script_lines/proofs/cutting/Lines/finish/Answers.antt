use Rattle.std.proofs.Common.{◌≡◌, arith, ap, sym, ◌∙◌, take, length, length-take, ◌∷◌, []}
use Rattle.script_lines.specs.cutting.Lines.{cut_of, Text}
use Rattle.script_lines.specs.cutting.LineBuffer.{held_of}
use Rattle.script_lines.proofs.lines.FeedLaws.{last_of-long, last_of-none, last_of-text}
use Rattle.script_lines.proofs.lines.PieceLaws.{lines_in_pieces}
use Rattle.script_lines.proofs.cutting.Lines.finish.Goals as goal

pub returns-then-len-eq0-clause-lines : goal.returns-then-len-eq0-clause-lines
returns-then-len-eq0-clause-lines c before s =
    let e : take c.self.inside.begun c.self.inside.buffer ≡ held_of (cut_of before).rest = ap (λ h. h.begun) c.self.view_is ∙ s.begun in
    last_of-none (cut_of before).rest (omega (arith, ap length e, length-take c.self.inside.begun c.self.inside.buffer))

pub returns-then-len-eq0-clause-pieces : goal.returns-then-len-eq0-clause-pieces
returns-then-len-eq0-clause-pieces c first course start steps = lines_in_pieces first c.args.self.now course _ start steps (returns-then-len-eq0-clause-lines c)

pub returns-then-len-gt-MAX_LINE-clause-lines : goal.returns-then-len-gt-MAX_LINE-clause-lines
returns-then-len-gt-MAX_LINE-clause-lines c before s =
    let e : take c.self.inside.begun c.self.inside.buffer ≡ held_of (cut_of before).rest = ap (λ h. h.begun) c.self.view_is ∙ s.begun in
    last_of-long (cut_of before).rest (omega (arith, ap length e, length-take c.self.inside.begun c.self.inside.buffer))

pub returns-clause-lines : goal.returns-clause-lines
returns-clause-lines c before s =
    let e : take c.self.inside.begun c.self.inside.buffer ≡ held_of (cut_of before).rest = ap (λ h. h.begun) c.self.view_is ∙ s.begun in
    last_of-text (cut_of before).rest (omega (arith, ap length e, length-take c.self.inside.begun c.self.inside.buffer)) (omega (arith, ap length e, length-take c.self.inside.begun c.self.inside.buffer))
    ∙ ap (λ l. Text l ∷ []) (sym e)

pub returns-then-len-gt-MAX_LINE-clause-pieces : goal.returns-then-len-gt-MAX_LINE-clause-pieces
returns-then-len-gt-MAX_LINE-clause-pieces c first course start steps = lines_in_pieces first c.args.self.now course _ start steps (returns-then-len-gt-MAX_LINE-clause-lines c)

pub returns-clause-pieces : goal.returns-clause-pieces
returns-clause-pieces c first course start steps = lines_in_pieces first c.args.self.now course _ start steps (returns-clause-lines c)
