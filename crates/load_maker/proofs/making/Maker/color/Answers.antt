use Rattle.load_maker.proofs.MakerLaws.{draws, makes_draw, makes_line, puts_both}
use Rattle.load_maker.specs.Load.{with_color}
use Rattle.load_maker.proofs.making.Maker.color.Goals as goal

pub returns : goal.returns
unfolding with_color
returns c load made =
    let after_color = makes_draw made c.draw-color.ensures.after in
    rw (← draws 16777216 _ made c.draw-color.ensures.value) (makes_line _ after_color (puts_both c.put_color.ensures c.put.ensures))
