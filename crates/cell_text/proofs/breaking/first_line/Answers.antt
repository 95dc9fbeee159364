use Rattle.std.proofs.Common.{rules, arith}
use Rattle.std.proofs.lemmas.Bool.Decides.{nat_tests}
use Rattle.cell_text.proofs.BreakLaws.{first_cell, next-last, next-newline, next-other}
use Rattle.cell_text.proofs.breaking.first_line.Goals as goal

pub returns-then-c-eq-NEWLINE-clause-first : goal.returns-then-c-eq-NEWLINE-clause-first
returns-then-c-eq-NEWLINE-clause-first c =
    let e = c.line_end-end.ensures in
    first_cell c.args.n c.line_end-end.result c.args.text.now c.requires e.short e.within e.plain e.full

pub returns-else-c-eq-NEWLINE-clause-first : goal.returns-else-c-eq-NEWLINE-clause-first
returns-else-c-eq-NEWLINE-clause-first c =
    let e = c.line_end-end.ensures in
    first_cell c.args.n c.line_end-end.result c.args.text.now c.requires e.short e.within e.plain e.full

pub returns-in-None-clause-first : goal.returns-in-None-clause-first
returns-in-None-clause-first c =
    let e = c.line_end-end.ensures in
    first_cell c.args.n c.line_end-end.result c.args.text.now c.requires e.short e.within e.plain e.full

pub returns-then-c-eq-NEWLINE-clause-rest : goal.returns-then-c-eq-NEWLINE-clause-rest
returns-then-c-eq-NEWLINE-clause-rest c =
    let e = c.line_end-end.ensures in
    next-newline c.args.n c.line_end-end.result c.args.text.now c.requires e.short e.within e.plain e.full (grind (arith, nat_tests)) (search rules)

pub returns-else-c-eq-NEWLINE-clause-rest : goal.returns-else-c-eq-NEWLINE-clause-rest
returns-else-c-eq-NEWLINE-clause-rest c =
    let e = c.line_end-end.ensures in
    next-other c.args.n c.line_end-end.result c.args.text.now c.requires e.short e.within e.plain e.full (grind (arith, nat_tests)) (search rules)

pub returns-in-None-clause-rest : goal.returns-in-None-clause-rest
returns-in-None-clause-rest c =
    let e = c.line_end-end.ensures in
    next-last c.args.n c.line_end-end.result c.args.text.now c.requires e.short e.within e.plain e.full (grind (arith, nat_tests))
