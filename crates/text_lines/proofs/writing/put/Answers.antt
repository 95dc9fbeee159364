use Rattle.std.proofs.Common.{List, ℕ, subst, arith, length-take, length-drop, ◌∙◌}
use Rattle.std.specs.Io.KnownBytes.{Appends}
use Rattle.text_lines.proofs.Prefixes.{appends_both, stopped, take_further}
use Rattle.text_lines.proofs.writing.put.Goals as goal

pub loop-done-preserved : goal.loop-done-preserved
loop-done-preserved g c = record {
  gone =
      (let P : List ℕ → Type 0 = λ bs. Appends (g.K.Sink.state c.args.sink.now).gone (g.K.Sink.state c.write.new.self).gone bs in
      subst P (take_further c.loop-done.done c.in_ok-done.field-0 c.args.piece.now c.loop-done.invariant.within)
      (appends_both _ _ _ _ _ c.loop-done.invariant.gone c.in_ok-done.ensures.bytes));
  within = omega (arith, length-take {A = ℕ}, length-drop {A = ℕ}, c.in_ok-done.ensures.bound);
  count = c.in_ok-done.ensures.counted ∙ c.loop-done.invariant.count;
}

pub returns-in_err-done : goal.returns-in_err-done
returns-in_err-done g c =
    stopped _ _ _ _ c.loop-done.done c.args.piece.now c.from_residual.ensures.0 c.loop-done.invariant.gone c.loop-done.invariant.count c.in_err-done.ensures.bytes c.in_err-done.ensures.counted
