use Rattle.std.proofs.Common.{◌<◌}
use Rattle.std.proofs.lemmas.List.Elements.{All-filter}
use Rattle.std.proofs.lemmas.List.Kept.{AllPairs-filter}
use Rattle.touch_event.specs.declared.event.Point.{Point}
use Rattle.touch_event.specs.Numbers.{max_pointers}
use Rattle.touch_event.specs.PointerSets.{has_id}
use Rattle.touch_event.proofs.splitting.split.Goals as goal

pub returns-clause-touch : goal.returns-clause-touch
returns-clause-touch c touch =
    let kept = λ (p : Point). has_id c.args.ids p.id in
    record {
      pointer = touch.pointer;
      ids = rw c.kept_points-points.ensures (All-filter kept (λ (p : Point). p.id < max_pointers) c.args.event.now.points.items touch.ids);
      rising = rw c.kept_points-points.ensures (AllPairs-filter (λ (p q : Point). p.id < q.id) kept c.args.event.now.points.items touch.rising);
    }
