use Rattle.std.proofs.Common.{ℕ, List, ◌≤◌, length, sym, subst}
use Rattle.load_maker.proofs.LengthLaws.{load_short}
use Rattle.load_maker.proofs.writing.script.Goals as goal

pub returns-clause-short : goal.returns-clause-short
returns-clause-short c few =
    subst (λ (l : List ℕ). length l ≤ 16777216) (sym (c.made-maker.ensures.text c.if-maker.false)) (load_short c.args.n few)
