use Rattle.std.proofs.Common.{ap, arith}
use Rattle.std.specs.Prelude.{pos}
use Rattle.touch_dispatch.proofs.steps.GrowLaws.{click_part, touch_fits}
use Rattle.touch_dispatch.specs.handling.Handling.{click_handled, many}
use Rattle.touch_dispatch.specs.gesture.Kept.{gesture_of}
use Rattle.touch_dispatch.specs.reaching.TreeEvents.{progress_by}
use Rattle.touch_dispatch.proofs.handling.handle.Goals as goal

pub note-requires : goal.note-requires
note-requires c =
    let fits = touch_fits c.args.own.now.answer c.args.own.now c.args.event.now (progress_by (λ _. pos 0) (gesture_of c.args.gesture.now) c.args.log.now.entries.items) in
    let all = c.requires.fits (λ _. pos 0) in
    omega (arith, fits, all)

pub note-requires-in-Yes : goal.note-requires-in-Yes
note-requires-in-Yes c =
    let fits = touch_fits c.args.own.now.answer c.args.own.now c.args.event.now (progress_by (λ _. pos 0) (gesture_of c.args.gesture.now) c.args.log.now.entries.items) in
    let all = c.requires.fits (λ _. pos 0) in
    omega (arith, fits, all)

pub note-requires-in-Click : goal.note-requires-in-Click
note-requires-in-Click c =
    let fits = touch_fits c.args.own.now.answer c.args.own.now c.args.event.now (progress_by (λ _. pos 0) (gesture_of c.args.gesture.now) c.args.log.now.entries.items) in
    let all = c.requires.fits (λ _. pos 0) in
    omega (arith, fits, all)

pub click-requires-clause-fits : goal.click-requires-clause-fits
click-requires-clause-fits c = λ offsets.
    let progress = progress_by offsets (gesture_of c.args.gesture.now) c.args.log.now.entries.items in
    let part = click_part c.args.own.now.answer c.args.own.now c.args.event.now progress c.in-Click.is in
    let all = c.requires.fits offsets in
    let same = ap (λ entries. many (click_handled c.args.own.now c.args.event.now (progress_by offsets (gesture_of c.args.gesture.now) entries))) c.note-in-Click.ensures.noted in
    let room = c.note-in-Click.ensures.room in
    omega (arith, part, all, same, room)
