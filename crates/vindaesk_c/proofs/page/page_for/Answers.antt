use Rattle.std.proofs.Common.{◌≡◌, ◌∙◌, ap, arith, length, sym}
use Rattle.tool_io.specs.Fetched.{Files}
use Rattle.vindaesk_c.proofs.PackedLaws.{packed-injective}
use Rattle.vindaesk_c.specs.FilesNow.{files_now}
use Rattle.vindaesk_c.specs.Page.{page_of, refuses}
use Rattle.whole_tool.specs.Usage.{usage}
use Rattle.vindaesk_c.proofs.page.page_for.Goals as goal

pub returns-clause-text : goal.returns-clause-text
returns-clause-text c = λ held holds.
    let same : files_now c.in_ok-unpacked.field-0.items ≡ held =
    packed-injective (files_now c.in_ok-unpacked.field-0.items) held (omega (arith, ap length c.in_ok-unpacked.ensures.files)) (sym c.in_ok-unpacked.ensures.files ∙ holds) in
    c.in_ok-written.ensures.text
    ∙ ap (λ (files : Files). page_of (usage c.args.words.now) c.args.script.now files) (c.new-shelf.ensures ∙ same)

pub returns-clause-refusing : goal.returns-clause-refusing
returns-clause-refusing c = λ held holds.
    let same : files_now c.in_ok-unpacked.field-0.items ≡ held =
    packed-injective (files_now c.in_ok-unpacked.field-0.items) held (omega (arith, ap length c.in_ok-unpacked.ensures.files)) (sym c.in_ok-unpacked.ensures.files ∙ holds) in
    c.in_ok-written.ensures.refusing
    ∙ ap (λ (files : Files). refuses (usage c.args.words.now) c.args.script.now files) (c.new-shelf.ensures ∙ same)
