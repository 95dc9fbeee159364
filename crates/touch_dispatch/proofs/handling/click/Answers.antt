use Rattle.std.proofs.Common.{sym, ◌∙◌, ap, arith}
use Rattle.std.specs.Prelude.{pos}
use Rattle.touch_dispatch.proofs.steps.GrowLaws.{click_fits}
use Rattle.touch_dispatch.specs.gesture.Kept.{gesture_of}
use Rattle.touch_dispatch.specs.reaching.Points.{is_near_first}
use Rattle.touch_dispatch.specs.reaching.TreeEvents.{progress_by}
use Rattle.touch_dispatch.proofs.handling.click.Goals as goal

pub note-requires : goal.note-requires
note-requires c =
    let fits =
    click_fits c.args.own.now c.args.event.now (progress_by (λ _. pos 0) (gesture_of c.args.gesture.now) c.args.log.now.entries.items) c.is_near_first-near.result c.presses-pressed.result
    (c.is_near_first-near.ensures ∙ ap (is_near_first c.args.own.now.rect c.args.own.now.slop) c.as_slice.ensures.value) c.presses-pressed.ensures (sym c.clicks.ensures ∙ c.if-clicks.true) in
    let all = c.requires.fits (λ _. pos 0) in
    omega (arith, fits, all)
