use Rattle.touch_dispatch.proofs.gestures.IdLaws.{all_every}
use Rattle.touch_dispatch.proofs.reaching.points.tried_ids.Goals as goal

pub returns-else-is_split-clause-value : goal.returns-else-is_split-clause-value
returns-else-is_split-clause-value c = rw c.if-is_split.false all_every
