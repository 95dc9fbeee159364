use Rattle.std.proofs.Common.{ℕ, sym, subst}
use Rattle.arsc_reader.specs.Table.{table_of}
use Rattle.tool_replies.specs.Dump.{Dumps}
use Rattle.tool_replies.specs.Lookup.{is_broken, looked_up}
use Rattle.tool_replies.specs.Lookup.{resource_ids}
use Rattle.tool_replies.proofs.LookupLaws.{dumps_values}
use Rattle.tool_replies.proofs.lookup.lookup_bytes.Goals as goal

pub returns-in-Ok-clause-looks_up : goal.returns-in-Ok-clause-looks_up
returns-in-Ok-clause-looks_up g c =
    let old = g.K.Sink.state c.args.sink.now in
    let new = g.K.Sink.state c.write_values.new.sink in
    let ids = resource_ids c.args.ids.now in
    let read = table_of c.args.bytes.now in
    subst (λ (status : ℕ). Dumps (looked_up ids read) (is_broken read) old new status) (sym c.status_of.ensures)
    (dumps_values _ read ids old new c.write_values.result c.in-Ok.ensures.value c.write_values.ensures)
