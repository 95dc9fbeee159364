use Rattle.std.proofs.Common.{◌∙◌, ap}
use Rattle.touch_event.specs.PointerSets.{has_id}
use Rattle.touch_dispatch.proofs.gestures.IdLaws.{bit_only, bit_small}
use Rattle.touch_dispatch.proofs.reaching.points.id_bit.Goals as goal

pub returns-clause-value : goal.returns-clause-value
returns-clause-value c = ap has_id (bit_small c.args.id c.requires) ∙ bit_only c.args.id
