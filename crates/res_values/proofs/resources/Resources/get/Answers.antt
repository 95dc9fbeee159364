use Rattle.res_values.proofs.EntryLaws.{found_is}
use Rattle.res_values.proofs.resources.Resources.get.Goals as goal

pub returns : goal.returns
returns c = found_is c.self.inside.values.entries c.args.self.now c.args.id c.get.result c.self.view_is c.get.ensures.value
