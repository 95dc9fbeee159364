use Rattle.load_maker.proofs.MakerLaws.{draws, makes_draw, makes_line, puts_both}
use Rattle.load_maker.specs.Load.{with_weight}
use Rattle.load_maker.proofs.making.Maker.weight.Goals as goal

pub returns : goal.returns
unfolding with_weight
returns c load made =
    let after_weight = makes_draw made c.draw-weight.ensures.after in
    rw (← draws 3 _ made c.draw-weight.ensures.value) (makes_line _ after_weight (puts_both c.put_weight.ensures c.put.ensures))
