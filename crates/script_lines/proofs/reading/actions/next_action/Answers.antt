use Rattle.std.proofs.Common.{◌≡◌, ◌-◌, sym, take, drop, length, length-drop, arith}
use Rattle.std.specs.Prelude.{Ok}
use Rattle.std.proofs.lemmas.List.{take_all}
use Rattle.script_lines.specs.reading.Actions.{action_of}
use Rattle.line_words.specs.words.Words.{after_word, word_in, words}
use Rattle.script_lines.proofs.readings.ActionLaws.{read_after}
use Rattle.script_lines.proofs.reading.actions.next_action.Goals as goal

pub returns-clause-value : goal.returns-clause-value
returns-clause-value c =
    let bytes = c.args.bytes.now in
    let at = c.args.at in
    let name = c.in_ok-name.name.now in
    let rest = c.in_ok-name.rest.now in
    let same : take (length bytes - at) (drop at bytes) ≡ drop at bytes = take_all (length bytes - at) (drop at bytes) (omega (arith, length-drop at bytes)) in
    let is : word_in (words (drop at bytes)) ≡ Ok (name, words rest) = cc (same, c.in_ok-name.ensures.value) in
    let following : rest ≡ after_word (drop at bytes) = cc (same, c.in_ok-name.ensures.rest) in
    let named : action_of name ≡ Ok c.in_ok-action.action = sym c.in_ok-action.ensures.value in
    sym (read_after bytes at c.in_ok-action.action name rest is following named)
