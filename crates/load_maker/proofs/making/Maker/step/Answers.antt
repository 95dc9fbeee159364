use Rattle.load_maker.proofs.MakerLaws.{draws, makes_draw}
use Rattle.load_maker.specs.Load.{with_step}
use Rattle.load_maker.proofs.making.Maker.step.Goals as goal

pub returns : goal.returns
unfolding with_step
returns c load made =
    let after_view = makes_draw made c.draw-view.ensures.after in
    let after_choice = makes_draw after_view c.draw-choice.ensures.after in
    rw (← draws _ _ made c.draw-view.ensures.value, ← draws 5 _ after_view c.draw-choice.ensures.value) (c.frame.ensures _ (c.edit.ensures _ after_choice))
