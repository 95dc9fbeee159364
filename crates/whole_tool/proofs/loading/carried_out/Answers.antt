use Rattle.std.proofs.Common.{ap, ◌∙◌}
use Rattle.whole_tool.specs.Carrier.{carried_of}
use Rattle.whole_tool.proofs.loading.carried_out.Goals as goal

pub carry_out-requires-clause-start : goal.carry_out-requires-clause-start
carry_out-requires-clause-start c = ap carried_of c.new-run.ensures.carrier ∙ c.alone.ensures.start
