use Rattle.std.proofs.Common.{sym, ◌∙◌}
use Rattle.script_lines.proofs.readings.StateLaws.{state_text, state_text_of-text}
use Rattle.script_lines.proofs.reading.states.read_state_text.Goals as goal

pub returns-clause-value : goal.returns-clause-value
returns-clause-value c =
    let is = sym c.is_state_text.ensures ∙ c.if-not-is_state_text.false in
    c.text.ensures.value ∙ state_text c.args.word.now is ∙ sym (state_text_of-text c.args.word.now is)
