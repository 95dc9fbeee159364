use Rattle.std.proofs.Common.{◌≡◌, ◌∙◌, ap, arith}
use Rattle.std.specs.Prelude.{Some}
use Rattle.tool_io.specs.Fetched.{Files}
use Rattle.vindaesk_c.proofs.SessionLaws.{appended, same_files}
use Rattle.vindaesk_c.specs.FilesNow.{files_now}
use Rattle.vindaesk_c.proofs.open_session.OpenSession.line.Goals as goal

pub returns-in-Ok-clause-run : goal.returns-in-Ok-clause-run
returns-in-Ok-clause-run c held script answer at =
    let same : files_now c.in_ok-unpacked.field-0.items ≡ held =
    same_files (files_now c.in_ok-unpacked.field-0.items) held c.as_slice.result.now (omega (arith, c.as_slice.ensures.len)) c.in_ok-unpacked.ensures.files (c.as_slice.ensures.value ∙ at.files) in
    let shelf = ap (λ (files : Files). Some files) (c.new-shelf.ensures ∙ same) in
    record {
      files = at.files;
      run = c.in-Ok.ensures.run held script shelf at.run;
      answer = appended _ _ _ (ap (λ s. s.gone) c.new-sink.ensures) (c.in-Ok.ensures.answered held script shelf at.run).gone;
    }

pub returns-in-Ok-clause-answered : goal.returns-in-Ok-clause-answered
returns-in-Ok-clause-answered c held script answer at =
    let same : files_now c.in_ok-unpacked.field-0.items ≡ held =
    same_files (files_now c.in_ok-unpacked.field-0.items) held c.as_slice.result.now (omega (arith, c.as_slice.ensures.len)) c.in_ok-unpacked.ensures.files (c.as_slice.ensures.value ∙ at.files) in
    let answered = c.in-Ok.ensures.answered held script (ap (λ (files : Files). Some files) (c.new-shelf.ensures ∙ same)) at.run in
    record { whole = answered.whole; refused = answered.refused }
