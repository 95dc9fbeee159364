use Rattle.std.proofs.Common.{refl, arith}
use Rattle.text_lines.proofs.Prefixes.{appends_none}
use Rattle.whole_tool.specs.Tally.{tally_from}
use Rattle.whole_tool.specs.Transcript.{after_from}
use Rattle.whole_tool.proofs.lines.CarrierLaws.{first_next, first_watching}
use Rattle.whole_tool.proofs.costs.SumLaws.{worth_none}
use Rattle.whole_tool.proofs.run.Run.new.Goals as goal

pub returns-clause-following : goal.returns-clause-following
unfolding after_from tally_from
returns-clause-following c shelf first = record {
  held = c.new.ensures.reached;
  runner = λ files reported. record {
    lines = refl;
    carried = refl;
    refused = refl;
    few = omega arith;
    gone = appends_none first.gone;
    tallied = record { watched = first_watching c.args.carrier c.requires; worth = worth_none first.work };
    fetched = refl;
  };
}

pub returns-clause-numbers : goal.returns-clause-numbers
returns-clause-numbers c = first_next c.args.carrier c.requires
