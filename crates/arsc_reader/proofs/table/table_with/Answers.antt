use Rattle.std.proofs.Common.{refl}
use Rattle.arsc_reader.specs.Meaning.{contents}
use Rattle.arsc_reader.proofs.Followed.{followed_same}
use Rattle.arsc_reader.proofs.table.table_with.Goals as goal

pub returns-in-Ok : goal.returns-in-Ok
returns-in-Ok c = record {
  whole = contents c.args.reading;
  whole_is = refl;
  pool_is = refl;
  values = λ id. followed_same 16 _ _ c.in-Ok.ensures.same id;
}
