use Rattle.std.proofs.Common.{◌≡◌, arith}
use Rattle.std.specs.Prelude.{◌==◌, true, false}
use Rattle.std.proofs.lemmas.Bool.Decides.{nat_tests}
use Rattle.load_maker.proofs.MakerLaws.{draws, makes_draw, makes_line, puts_both}
use Rattle.load_maker.proofs.making.Maker.text.Goals as goal

pub returns-then-class-ne1 : goal.returns-then-class-ne1
returns-then-class-ne1 c load made =
    let e : (c.args.class == 1) ≡ false = grind (arith, nat_tests) in
    rw e made

pub returns : goal.returns
returns c load made =
    let e : (c.args.class == 1) ≡ true = grind (arith, nat_tests) in
    let after_number = makes_draw made c.draw-number.ensures.after in
    rw (e, ← draws 100000 _ made c.draw-number.ensures.value) (makes_line _ after_number (puts_both c.put_text.ensures c.put.ensures))
