use Rattle.std.proofs.Common.{◌<◌, ◌-◌, ◌++◌, ◌∙◌, ℕ, List, length, take, drop, subst, arith, length-take, length-drop}
use Rattle.std.proofs.lemmas.List.{take_all}
use Rattle.std.proofs.lemmas.Result.{err_from_is_err_and}
use Rattle.std.specs.Prelude.{◌≡◌, Err}
use Rattle.script_lines.specs.cutting.Lines.{cut_of}
use Rattle.whole_tool.specs.Run.{HasReadUpTo, StopsIn}
use Rattle.whole_tool.specs.Works.{trace}
use Rattle.whole_tool.proofs.lines.LongScriptLaws.{rest_short, taken_more, taken_rest, taken_short}
use Rattle.whole_tool.proofs.run.Run.piece.Goals as goal

pub loop-at-preserved : goal.loop-at-preserved
loop-at-preserved g c =
    let at = c.loop-at.at in
    let piece = c.args.piece.now in
    let left : 0 < length (take (length piece - at) (drop at piece)) = omega (arith, length-take {A = ℕ}, length-drop {A = ℕ}, c.loop-at-test.true) in
    let some = c.in_ok-at.ensures.some left in
    record {
      within = omega (arith, c.in_ok-at.ensures.within, length-take {A = ℕ}, length-drop {A = ℕ}, c.loop-at.invariant.within);
      following = λ start first before short s. subst (λ (bytes : List ℕ). HasReadUpTo start (g.F.Shelf.files c.args.shelf.now) first (trace (g.K.Sink.state c.take.new.sink) c.take.new.work (g.F.Shelf.fetches c.take.new.shelf)) c.take.new.self bytes)
          (taken_more before piece at c.in_ok-at.field-0 c.loop-at.invariant.within)
          (rw (← c.loop-at.invariant.files) (c.in_ok-at.ensures.done start first (before ++ take at piece) (rest_short before piece at _ short) (rw c.loop-at.invariant.files (c.loop-at.invariant.following start first before short s))));
      numbers = omega (arith, c.loop-at.invariant.numbers, c.take.ensures.numbers, some);
      files = c.take.ensures.files_stay ∙ c.loop-at.invariant.files;
      fetches = c.in_ok-at.ensures.shelf_failed ∙ c.loop-at.invariant.fetches;
      painted = omega (arith, c.loop-at.invariant.painted, c.take.ensures.painted);
      measured = omega (arith, c.loop-at.invariant.measured, c.take.ensures.measured);
      counted = c.in_ok-at.ensures.counted ∙ c.loop-at.invariant.counted;
    }

pub returns-in_err-at-clause-stopped : goal.returns-in_err-at-clause-stopped
returns-in_err-at-clause-stopped g c start first before short s =
    let p = err_from_is_err_and c.from_residual.result c.from_residual.ensures.1 in
    let e : c.from_residual.result ≡ Err c.in_err-at.field-0.0 = cc (p.1, p.2) in
    let at = c.loop-at.at in
    let piece = c.args.piece.now in
    let stopped = c.in_err-at.ensures.stopped start first (before ++ take at piece) (taken_short before piece at _ short) (rw c.loop-at.invariant.files (c.loop-at.invariant.following start first before short s)) in
    rw e (λ files reported. subst (λ (bytes : List ℕ). StopsIn start files first (trace (g.K.Sink.state c.take.new.sink) c.take.new.work (g.F.Shelf.fetches c.take.new.shelf)) (cut_of bytes).lines c.in_err-at.field-0.0) (taken_rest before piece at)
    (stopped files (c.loop-at.invariant.files ∙ reported)))

pub returns-clause-done : goal.returns-clause-done
returns-clause-done g c start first before short s =
    subst (λ (bytes : List ℕ). HasReadUpTo start (g.F.Shelf.files c.args.shelf.now) first (trace (g.K.Sink.state c.loop-at.sink) c.loop-at.work (g.F.Shelf.fetches c.loop-at.shelf)) c.loop-at.self (before ++ bytes))
    (take_all c.loop-at.at c.args.piece.now c.loop-at-test.false) (c.loop-at.invariant.following start first before short s)
