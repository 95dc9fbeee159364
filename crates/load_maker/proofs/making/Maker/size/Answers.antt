use Rattle.load_maker.proofs.MakerLaws.{draws, makes_draw, makes_line, puts_both}
use Rattle.load_maker.specs.Load.{with_size}
use Rattle.load_maker.proofs.making.Maker.size.Goals as goal

pub returns : goal.returns
unfolding with_size
returns c load made =
    let after_width = makes_draw made c.draw-width.ensures.after in
    let after_height = makes_draw after_width c.draw-height.ensures.after in
    rw (← draws 60 _ made c.draw-width.ensures.value, ← draws 60 _ after_width c.draw-height.ensures.value) (makes_line _ after_height (puts_both c.put_size.ensures c.put.ensures))
