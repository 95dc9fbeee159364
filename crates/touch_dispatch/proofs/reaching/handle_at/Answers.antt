use Rattle.std.proofs.Common.{sym, ◌∙◌, ap}
use Rattle.touch_dispatch.proofs.gestures.CaughtLaws.{by_plan_targets, drag_targets}
use Rattle.touch_dispatch.proofs.steps.KeepLaws.{kept_targets, none_scrolls}
use Rattle.touch_dispatch.specs.handling.Handling.{Reached}
use Rattle.touch_dispatch.specs.reaching.TreeEvents.{offsets_in, progress_of}
use Rattle.touch_dispatch.specs.declared.handling.receiver.Receiver.{Receiver}
use Rattle.touch_dispatch.proofs.reaching.handle_at.Goals as goal

pub handle_drag-requires-clause-read : goal.handle_drag-requires-clause-read
handle_drag-requires-clause-read c = record {
  live = c.requires.live;
  number = ap (λ (r : Receiver). r.number) c.receiver_at-own.ensures.value;
  range = c.receiver_at-own.ensures.own;
  side = c.receiver_at-own.ensures.range;
}

pub returns-then-own-clause-kept : goal.returns-then-own-clause-kept
returns-then-own-clause-kept c =
    let progress = progress_of c.args.tree.now c.args.gesture.now c.args.log.now in
    kept_targets c.requires.caught c.handle_drag.ensures.scrolls c.handle_drag.ensures.opened
    (sym (ap (λ (r : Reached). r.progress.gesture.targets) c.handle_drag.ensures.handled) ∙ drag_targets c.receiver_at-own.result c.args.delivery.now.event.now progress)
    c.handle_drag.ensures.room

pub returns-else-own-clause-kept : goal.returns-else-own-clause-kept
returns-else-own-clause-kept c =
    let progress = progress_of c.args.tree.now c.args.gesture.now c.args.log.now in
    kept_targets c.requires.caught (none_scrolls c.args.tree.now) c.handle.ensures.opened
    (sym (ap (λ (r : Reached). r.progress.gesture.targets) (c.handle.ensures.handled (offsets_in c.args.tree.now)))
    ∙ by_plan_targets c.receiver_at-own.result.answer c.receiver_at-own.result c.args.delivery.now.event.now progress)
    c.handle.ensures.room
