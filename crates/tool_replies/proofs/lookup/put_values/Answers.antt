use Rattle.std.proofs.Common.{ap, ◌∙◌}
use Rattle.arsc_reader.specs.Lines.{value_line}
use Rattle.text_lines.proofs.Items.{items_none, items_more, items_all}
use Rattle.text_lines.proofs.Sending.{sends_as}
use Rattle.tool_replies.specs.Lookup.{word_line}
use Rattle.tool_replies.proofs.LookupLaws.{lines_of_words}
use Rattle.tool_replies.proofs.lookup.put_values.Goals as goal

pub loop-word-init : goal.loop-word-init
loop-word-init g c = items_none (word_line c.args.table.now) _ _

pub loop-word-preserved : goal.loop-word-preserved
loop-word-preserved g c =
    items_more (word_line c.args.table.now) c.args.ids.now c.loop-word.word-index _ c.loop-word-test.true c.loop-word.invariant
    (sends_as (ap (value_line c.args.table.now) c.resource_id.ensures ∙ ap (word_line c.args.table.now) c.word-item.is) c.put_value.ensures)

pub returns : goal.returns
returns g c =
    sends_as (lines_of_words c.args.table.now c.args.ids.now)
    (items_all (word_line c.args.table.now) c.args.ids.now c.loop-word.word-index c.loop-word-test.false c.loop-word.invariant)
