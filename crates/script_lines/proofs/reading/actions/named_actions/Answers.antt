use Rattle.std.proofs.Common.{◌≡◌, ◌-◌, true, false, sym, ◌∙◌, take, drop, length, length-drop, arith}
use Rattle.std.specs.Prelude.{Err}
use Rattle.std.specs.Result.{is_err}
use Rattle.std.proofs.lemmas.List.{take_all}
use Rattle.std.proofs.lemmas.Result.{err_from_is_err_and}
use Rattle.script_lines.specs.reading.Actions.{action_in}
use Rattle.line_words.specs.words.Words.{end_of, words}
use Rattle.script_lines.proofs.readings.ActionLaws.{actions_end, actions_stop}
use Rattle.script_lines.proofs.reading.actions.named_actions.Goals as goal

pub returns-in_err-action-clause-value : goal.returns-in_err-action-clause-value
returns-in_err-action-clause-value c =
    let bytes = c.args.bytes.now in
    let at = c.loop-at.at in
    let same : take (length bytes - at) (drop at bytes) ≡ drop at bytes = take_all (length bytes - at) (drop at bytes) (omega (arith, length-drop at bytes)) in
    let some : is_err (end_of (words (drop at bytes))) ≡ true = cc (same, c.end.ensures, c.is_err.ensures.value, c.loop-at-test.true) in
    let fault : action_in (words (drop at bytes)) ≡ Err c.in_err-action.field-0.0 = sym c.in_err-action.ensures.value in
    let p = err_from_is_err_and c.from_residual.result c.from_residual.ensures.1 in
    rw (p.1, p.2) (sym (actions_stop c.loop-at.actions (words (drop at bytes)) c.in_err-action.field-0.0 some fault) ∙ c.loop-at.invariant.left)

pub returns-clause-value : goal.returns-clause-value
returns-clause-value c =
    let bytes = c.args.bytes.now in
    let at = c.loop-at.at in
    let same : take (length bytes - at) (drop at bytes) ≡ drop at bytes = take_all (length bytes - at) (drop at bytes) (omega (arith, length-drop at bytes)) in
    let none : is_err (end_of (words (drop at bytes))) ≡ false = cc (same, c.end.ensures, c.is_err.ensures.value, c.loop-at-test.false) in
    sym (actions_end c.loop-at.actions (words (drop at bytes)) none) ∙ c.loop-at.invariant.left
