use Rattle.std.proofs.Common.{◌∙◌, ap}
use Rattle.vindaesk_c.specs.Page.{refuses}
use Rattle.vindaesk_c.proofs.PageLaws.{page_from, refusing_of, status_from}
use Rattle.whole_tool.specs.Usage.{usage}
use Rattle.vindaesk_c.proofs.page.written.Goals as goal

pub returns-then-is_complete-clause-text : goal.returns-then-is_complete-clause-text
returns-then-is_complete-clause-text c =
    page_from (usage c.args.words.now) c.new-source.result.bytes c.args.script.now c.args.shelf.now
    c.new-sink.result.gone c.tool-status.new.sink.gone c.tool-status.result
    (ap (λ s. s.bytes) c.new-source.ensures ∙ c.in_ok-from_slice.ensures.items) (ap (λ s. s.gone) c.new-sink.ensures)
    c.tool-status.ensures.headline c.tool-status.ensures.written
    c.requires.known c.requires.short (c.is_complete.ensures.0 c.if-is_complete.true)

pub returns-then-is_complete-clause-refusing : goal.returns-then-is_complete-clause-refusing
returns-then-is_complete-clause-refusing c =
    refusing_of (refuses (usage c.args.words.now) c.args.script.now c.args.shelf.now) c.tool-status.result
    (status_from (usage c.args.words.now) c.new-source.result.bytes c.args.script.now c.args.shelf.now c.tool-status.result
    (ap (λ s. s.bytes) c.new-source.ensures ∙ c.in_ok-from_slice.ensures.items)
    c.tool-status.ensures.refusals
    c.requires.known c.requires.short (c.is_complete.ensures.0 c.if-is_complete.true))
