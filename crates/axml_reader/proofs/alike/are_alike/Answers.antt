use Rattle.std.proofs.Common.{sym, ◌∙◌}
use Rattle.axml_reader.proofs.AlikeLaws.{same_text_by, text_of_same}
use Rattle.axml_reader.proofs.alike.are_alike.Goals as goal

pub returns-then-same-clause-value : goal.returns-then-same-clause-value
returns-then-same-clause-value c =
    let a = c.least-a.ensures c.args.pool.now c.requires in
    let b = c.least-b.ensures c.args.pool.now a.0 in
    c.same_text-same.ensures ∙ same_text_by c.args.pool.now _ _ _ _ a.1 b.1

pub returns-then-same-clause-known : goal.returns-then-same-clause-known
returns-then-same-clause-known c =
    let a = c.least-a.ensures c.args.pool.now c.requires in
    let b = c.least-b.ensures c.args.pool.now a.0 in
    c.join.ensures c.args.pool.now b.0 (text_of_same c.args.pool.now _ _ (sym c.same_text-same.ensures ∙ c.if-same.true))

pub returns-else-same-clause-value : goal.returns-else-same-clause-value
returns-else-same-clause-value c =
    let a = c.least-a.ensures c.args.pool.now c.requires in
    let b = c.least-b.ensures c.args.pool.now a.0 in
    c.same_text-same.ensures ∙ same_text_by c.args.pool.now _ _ _ _ a.1 b.1
