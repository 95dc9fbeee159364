use Rattle.std.proofs.Common.{ap, sym, ◌∙◌}
use Rattle.std.specs.Prelude.{not}
use Rattle.std.specs.List.{list_all}
use Rattle.line_words.specs.words.Escapes.{is_backslash}
use Rattle.view_world.proofs.edits.PlainLaws.{plain_text}
use Rattle.view_world.proofs.screen.plain.is_plain.Goals as goal

pub returns-clause-plain : goal.returns-clause-plain
returns-clause-plain c plain =
    plain_text c.args.text.now c.utf8.text (ap (list_all (λ b. not (is_backslash b))) (sym c.as_bytes.ensures.value) ∙ sym c.has_no_backslash.ensures ∙ plain)
