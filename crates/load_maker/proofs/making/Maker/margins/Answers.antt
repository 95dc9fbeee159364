use Rattle.load_maker.proofs.MakerLaws.{draws, makes_draw, makes_line, puts_both}
use Rattle.load_maker.specs.Load.{with_margins}
use Rattle.load_maker.proofs.making.Maker.margins.Goals as goal

pub returns : goal.returns
unfolding with_margins
returns c load made =
    let after_across = makes_draw made c.draw-across.ensures.after in
    let after_down = makes_draw after_across c.draw-down.ensures.after in
    rw (← draws 8 _ made c.draw-across.ensures.value, ← draws 8 _ after_across c.draw-down.ensures.value) (makes_line _ after_down (puts_both c.put_margins.ensures c.put.ensures))
