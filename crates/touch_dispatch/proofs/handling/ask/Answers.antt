use Rattle.std.proofs.Common.{sym, ◌∙◌, arith}
use Rattle.std.specs.Prelude.{pos}
use Rattle.touch_dispatch.proofs.steps.GrowLaws.{asks_fit}
use Rattle.touch_dispatch.specs.gesture.Kept.{gesture_of}
use Rattle.touch_dispatch.specs.reaching.TreeEvents.{progress_by}
use Rattle.touch_dispatch.proofs.handling.ask.Goals as goal

pub note-requires : goal.note-requires
note-requires c =
    let fits = asks_fit c.args.own.now c.args.event.now (progress_by (λ _. pos 0) (gesture_of c.args.gesture.now) c.args.log.now.entries.items) (sym c.is_asked.ensures ∙ c.if-not-is_asked.false) (sym c.disallows.ensures ∙ c.if-disallows.false) in
    let all = c.requires.fits (λ _. pos 0) in
    omega (arith, fits, all)
