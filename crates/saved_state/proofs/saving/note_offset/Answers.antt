use Rattle.std.proofs.Common.{◌<◌, Fits, arith, w32}
use Rattle.std.proofs.lemmas.Int.{to_z-of_z}
use Rattle.std.specs.Prelude.{unsigned_abs}
use Rattle.saved_state.specs.Numbers.{last_version}
use Rattle.saved_state.specs.declared.value.Value.TheVariants.{Offset}
use Rattle.saved_state.proofs.EntryLaws.{abs_few, insert_rises}
use Rattle.saved_state.proofs.saving.note_offset.Goals as goal

pub returns-clause-rises : goal.returns-clause-rises
returns-clause-rises c = λ rises.
    let range : Fits w32 c.args.id = c.ranges.id in
    let fits : c.args.id < 4294967296 = omega arith in
    let few = abs_few c.args.offset c.requires.not_negative c.requires.few in
    rw (c.in_ok-insert.ensures.entries, c.unsigned_abs.ensures.value, to_z-of_z w32 c.args.offset c.ranges.offset)
    (insert_rises last_version 0 c.args.saved.now.entries c.args.id (Offset (unsigned_abs c.args.offset)) rises c.requires.id fits few)
