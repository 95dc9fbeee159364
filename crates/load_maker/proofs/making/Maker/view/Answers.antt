use Rattle.load_maker.proofs.MakerLaws.{draws, makes_draw, makes_line, puts_both}
use Rattle.load_maker.specs.Load.{with_view}
use Rattle.load_maker.proofs.making.Maker.view.Goals as goal

pub returns : goal.returns
unfolding with_view
returns c load made =
    let after_class = makes_draw made c.draw-class.ensures.after in
    let after_parent = makes_draw after_class c.draw-parent.ensures.after in
    let after_width = makes_draw after_parent c.draw-width.ensures.after in
    let after_height = makes_draw after_width c.draw-height.ensures.after in
    let lined = makes_line _ after_height (puts_both c.put_add.ensures c.put.ensures) in
    rw (← draws 3 _ made c.draw-class.ensures.value, ← draws 7 _ after_class c.draw-parent.ensures.value, ← draws 60 _ after_parent c.draw-width.ensures.value, ← draws 60 _ after_width c.draw-height.ensures.value, ← c.class_name.ensures)
    (c.text.ensures _ lined)
