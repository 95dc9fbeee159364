use Rattle.std.proofs.Common.{◌≡◌, arith}
use Rattle.std.specs.Prelude.{◌%◌, ◌==◌, true, false}
use Rattle.std.proofs.lemmas.Bool.Decides.{nat_tests}
use Rattle.load_maker.proofs.MakerLaws.{makes_line, puts_both}
use Rattle.load_maker.specs.Load.{with_frame}
use Rattle.load_maker.proofs.making.Maker.frame.Goals as goal

pub returns-then-step-ne0 : goal.returns-then-step-ne0
unfolding with_frame
returns-then-step-ne0 c load made =
    let e : (c.args.step % 16 == 0) ≡ false = grind (arith, nat_tests) in
    rw e (makes_line _ made (puts_both c.put.ensures c.put-2.ensures))

pub returns : goal.returns
unfolding with_frame
returns c load made =
    let e : (c.args.step % 16 == 0) ≡ true = grind (arith, nat_tests) in
    rw e (makes_line _ (makes_line _ made (puts_both c.put.ensures c.put-2.ensures)) (puts_both c.put-3.ensures c.put-4.ensures))
