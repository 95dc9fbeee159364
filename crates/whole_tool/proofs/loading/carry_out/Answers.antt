use Rattle.std.proofs.Common.{◌≡◌, ◌<◌, ◌^◌, [], length, ap, sym, subst, ◌∙◌, arith}
use Rattle.std.specs.Prelude.{Err, Option, Some}
use Rattle.std.proofs.lemmas.List.{append-nil}
use Rattle.std.proofs.lemmas.Result.{err_from_is_err_and}
use Rattle.script_lines.specs.cutting.Lines.{cut_of, lines_of}
use Rattle.tool_io.specs.Fetched.{Files}
use Rattle.tool_io.specs.Fetches.{Unseen}
use Rattle.tool_io.specs.Files.{named_files}
use Rattle.whole_tool.specs.Carried.{Alone}
use Rattle.whole_tool.specs.Run.{HasReadUpTo}
use Rattle.whole_tool.specs.Works.{Trace}
use Rattle.whole_tool.proofs.costs.CostLaws.{works_further, works_stopped}
use Rattle.whole_tool.proofs.lines.LongScriptLaws.{lines_of-cut}
use Rattle.world_parts.specs.World.{empty_world}
use Rattle.whole_tool.proofs.loading.carry_out.Goals as goal

pub returns-clause-runs : goal.returns-clause-runs
returns-clause-runs c =
    let script = c.args.script.now in
    let first : Trace = record { gone = Some c.args.page.now.gone; work = c.args.work.now; fetches = Unseen } in
    let mid : Trace = record { gone = Some c.piece.new.sink.gone; work = c.piece.new.work; fetches = Unseen } in
    let short : length script < 2 ^ 63 = omega (arith, c.requires.short) in
    let none : c.new-shelf.result ≡ [] = c.new-shelf.ensures ∙ ap named_files c.new.ensures.items in
    let begun = rw c.requires.start at c.requires.following in
    let read = c.in_ok-piece.ensures.done (Alone empty_world) first [] short (begun (Some c.new-shelf.result) first) in
    c.in_ok-finish.ensures.done (Alone empty_world) [] first script (c.piece.ensures.files_stay ∙ ap Some none) short
    (subst (λ (shelf : Option Files). HasReadUpTo (Alone empty_world) shelf first mid c.piece.new.self script) (sym c.piece.ensures.files_stay) read)

pub returns-in_err-piece-clause-stopped : goal.returns-in_err-piece-clause-stopped
returns-in_err-piece-clause-stopped c =
    let p = err_from_is_err_and c.from_residual.result c.from_residual.ensures.1 in
    let e : c.from_residual.result ≡ Err c.in_err-piece.field-0.0 = cc (p.1, p.2) in
    let script = c.args.script.now in
    let first : Trace = record { gone = Some c.args.page.now.gone; work = c.args.work.now; fetches = Unseen } in
    let mid : Trace = record { gone = Some c.piece.new.sink.gone; work = c.piece.new.work; fetches = Unseen } in
    let short : length script < 2 ^ 63 = omega (arith, c.requires.short) in
    let none : c.new-shelf.result ≡ [] = c.new-shelf.ensures ∙ ap named_files c.new.ensures.items in
    let begun = rw c.requires.start at c.requires.following in
    let stopped = c.in_err-piece.ensures.stopped (Alone empty_world) first [] short (begun (Some c.new-shelf.result) first) [] (ap Some none) in
    let more = lines_of-cut script [] in
    rw e (works_further (Alone empty_world) [] c.args.work.now c.piece.new.work (cut_of script).lines more.0 (lines_of script) (more.1 ∙ ap lines_of (append-nil script)) (works_stopped (Alone empty_world) [] first mid (cut_of script).lines c.in_err-piece.field-0.0 stopped))

pub returns-in_err-finish-clause-stopped : goal.returns-in_err-finish-clause-stopped
returns-in_err-finish-clause-stopped c =
    let p = err_from_is_err_and c.from_residual-in_err-finish.result c.from_residual-in_err-finish.ensures.1 in
    let e : c.from_residual-in_err-finish.result ≡ Err c.in_err-finish.field-0.0 = cc (p.1, p.2) in
    let script = c.args.script.now in
    let first : Trace = record { gone = Some c.args.page.now.gone; work = c.args.work.now; fetches = Unseen } in
    let mid : Trace = record { gone = Some c.piece.new.sink.gone; work = c.piece.new.work; fetches = Unseen } in
    let last : Trace = record { gone = Some c.finish.new.sink.gone; work = c.finish.new.work; fetches = Unseen } in
    let short : length script < 2 ^ 63 = omega (arith, c.requires.short) in
    let none : c.new-shelf.result ≡ [] = c.new-shelf.ensures ∙ ap named_files c.new.ensures.items in
    let begun = rw c.requires.start at c.requires.following in
    let read = c.in_ok-piece.ensures.done (Alone empty_world) first [] short (begun (Some c.new-shelf.result) first) in
    rw e (works_stopped (Alone empty_world) [] first last (lines_of script) c.in_err-finish.field-0.0
    (c.in_err-finish.ensures.stopped (Alone empty_world) [] first script (c.piece.ensures.files_stay ∙ ap Some none) short
    (subst (λ (shelf : Option Files). HasReadUpTo (Alone empty_world) shelf first mid c.piece.new.self script) (sym c.piece.ensures.files_stay) read)))
