use Rattle.std.specs.Prelude.{Err, Some}
use Rattle.std.proofs.Common.{◌≡◌, ap}
use Rattle.std.proofs.lemmas.Result.{err_from_is_err_and}
use Rattle.view_world.proofs.worlds.AfterLineLaws.{reported, undone}
use Rattle.view_world.proofs.edits.InflatingLaws.{asks_reported, writes_fault}
use Rattle.view_world.proofs.edits.FileLaws.{asks_failed}
use Rattle.world_parts.specs.Inflating.{asked_for}
use Rattle.view_tree.specs.Views.{plain_of}
use Rattle.view_world.proofs.screen.Screen.inflate_line.Goals as goal

pub returns-in_err-response-clause-carried : goal.returns-in_err-response-clause-carried
returns-in_err-response-clause-carried g c files at =
    let p = err_from_is_err_and c.from_residual.result c.from_residual.ensures.1 in
    let e : c.from_residual.result ≡ Err c.in_err-response.field-0.0 = cc (p.1, p.2) in
    writes_fault _ c.inflate.new.self (g.K.Sink.state c.args.sink.now) (g.K.Sink.state c.args.sink.now) c.in_err-response.field-0.0 c.from_residual.result e (c.in_err-response.ensures.changed files at)

pub returns-clause-carried : goal.returns-clause-carried
returns-clause-carried g c files at = let changed = c.in_ok-response.ensures.changed files at in rw changed.0 c.report.ensures.carried

pub returns-in_err-response-clause-shelf : goal.returns-in_err-response-clause-shelf
returns-in_err-response-clause-shelf g c =
    let p = err_from_is_err_and c.from_residual.result c.from_residual.ensures.1 in
    let e : c.from_residual.result ≡ Err c.in_err-response.field-0.0 = cc (p.1, p.2) in
    asks_failed g.F.Shelf.files g.F.Shelf.fetches g.F.Shelf.faults (asked_for (plain_of c.args.self.now.views) (Some (c.args.name.now, c.args.into))) c.in_err-response.field-0.0 c.from_residual.result c.args.shelf.now
    c.inflate.new.shelf e c.in_err-response.ensures.shelf

pub returns-clause-shelf : goal.returns-clause-shelf
returns-clause-shelf g c =
    asks_reported g.F.Shelf.files g.F.Shelf.fetches g.F.Shelf.faults (asked_for (plain_of c.args.self.now.views) (Some (c.args.name.now, c.args.into))) c.in_ok-response.response c.report.result c.args.shelf.now
    c.inflate.new.shelf c.report.ensures.done c.in_ok-response.ensures.shelf

pub returns-in_err-response-clause-reports : goal.returns-in_err-response-clause-reports
returns-in_err-response-clause-reports g c done =
    let p = err_from_is_err_and c.from_residual.result c.from_residual.ensures.1 in
    let e : c.from_residual.result ≡ Err c.in_err-response.field-0.0 = cc (p.1, p.2) in
    absurd (undone c.in_err-response.field-0.0 c.from_residual.result e (λ sink. c.in_err-response.ensures.no_sink (ap Err sink)) done)

pub returns-clause-reports : goal.returns-clause-reports
returns-clause-reports g c done =
    reported c.inflate.new.self c.report.new.self (g.K.Sink.state c.args.sink.now) (g.K.Sink.state c.report.new.sink) c.report.result c.in_ok-response.response c.in_ok-response.ensures.reported c.report.ensures.same
    c.report.ensures.carried
