use Rattle.std.proofs.Common.{[], ◌<◌, length, arith, ap, sym, ◌∙◌}
use Rattle.std.specs.List.{enumerate_from}
use Rattle.std.proofs.lemmas.List.FromFn.{length-enumerate_from}
use Rattle.text_lines.proofs.Items.{items_none, items_more, items_all}
use Rattle.text_lines.proofs.Sending.{sends_as}
use Rattle.axml_reader.specs.Dump.{string_line}
use Rattle.axml_reader.proofs.Strings.{string_there}
use Rattle.axml_reader.proofs.dump.put_each_string.Goals as goal

pub loop-k-init : goal.loop-k-init
loop-k-init g c = items_none string_line _ _

pub loop-k-preserved : goal.loop-k-preserved
loop-k-preserved g c =
    let texts = c.args.pool.now.texts in
    let lt : c.loop-k.k < length texts = omega (arith, c.loop-k-test.true, c.len-k-end.ensures.value) in
    items_more string_line (enumerate_from 0 texts) c.loop-k.k (0, []) (omega (arith, lt, length-enumerate_from 0 texts)) c.loop-k.invariant
    (sends_as (ap (λ t. string_line (c.loop-k.k, t)) c.string_of.ensures ∙ sym (string_there texts c.loop-k.k lt)) c.put_string_line.ensures)

pub returns : goal.returns
returns g c =
    let texts = c.args.pool.now.texts in
    items_all string_line (enumerate_from 0 texts) c.loop-k.k (omega (arith, c.loop-k-test.false, c.len-k-end.ensures.value, length-enumerate_from 0 texts)) c.loop-k.invariant
