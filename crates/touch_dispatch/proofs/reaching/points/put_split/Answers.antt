use Rattle.std.proofs.Common.{◌≡◌, ap, length, ◌∙◌}
use Rattle.std.specs.Prelude.{◌==◌}
use Rattle.touch_event.specs.PointerSets.{has_id}
use Rattle.touch_event.specs.Splitting.{has_point, kept_points, split_action}
use Rattle.touch_dispatch.proofs.steps.PartLaws.{part_by}
use Rattle.touch_dispatch.proofs.reaching.points.put_split.Goals as goal

pub returns-clause-value : goal.returns-clause-value
returns-clause-value c =
    let event = c.args.event.now in
    let items = c.put_points.new.points.items in
    let empty : c.is_empty.result ≡ (length items == 0) = c.is_empty.ensures in
    let action : c.split_action-part.result ≡ split_action event.action (has_point event.pointer items) (length items == 1) =
    c.split_action-part.ensures
    ∙ ap (λ kept. split_action event.action kept (length c.as_slice-points.result.now == 1)) c.has_point-kept.ensures
    ∙ ap (λ points. split_action event.action (has_point event.pointer points) (length points == 1)) c.as_slice-points.ensures.value in
    rw (empty, action) (part_by c.args.rect c.args.own.now.offset event (kept_points (has_id c.args.ids) event.points.items) items c.put_points.ensures)
