use Rattle.load_maker.proofs.MakerLaws.{draws, makes_draw, makes_line, puts_both}
use Rattle.load_maker.specs.Load.{with_visibility}
use Rattle.load_maker.proofs.making.Maker.visibility.Goals as goal

pub returns : goal.returns
unfolding with_visibility
returns c load made =
    let after_visibility = makes_draw made c.draw-visibility.ensures.after in
    rw (← draws 3 _ made c.draw-visibility.ensures.value, ← c.visibility_name.ensures) (makes_line _ after_visibility (puts_both c.put_visible.ensures c.put.ensures))
