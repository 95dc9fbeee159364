use Rattle.std.proofs.Common.{◌<◌, Fits, arith, w32}
use Rattle.saved_state.proofs.EntryLaws.{insert_rises}
use Rattle.saved_state.specs.Numbers.{last_version}
use Rattle.saved_state.specs.declared.value.Value.TheVariants.{Text}
use Rattle.saved_state.proofs.saving.note_text.Goals as goal

pub returns-clause-rises : goal.returns-clause-rises
returns-clause-rises c = λ rises.
    let range : Fits w32 c.args.id = c.ranges.id in
    let fits : c.args.id < 4294967296 = omega arith in
    rw (c.in_ok-insert.ensures.entries, c.in_ok-copy.ensures)
    (insert_rises last_version 0 c.args.saved.now.entries c.args.id (Text c.args.text.now) rises c.requires fits (λ e. absurd (omega arith), (c.text_bytes.ensures.valid, let is = c.text_bytes.ensures.value in omega arith)))
