use Rattle.std.proofs.Common.{◌≡◌, ◌-◌, ap, sym, ◌∙◌, subst, arith}
use Rattle.std.specs.Prelude.{IfOk, IfSome, Some, None, Ok, Err}
use Rattle.std.specs.List.{All}
use Rattle.std.proofs.lemmas.List.Elements.{All-push}
use Rattle.script_lines.specs.reading.Changes.{IsChangeInBounds}
use Rattle.script_lines.specs.reading.Gathered.{reading_of}
use Rattle.line_words.specs.words.Words.{words}
use Rattle.script_lines.specs.declared.commands.Asked.{Asked}
use Rattle.line_words.specs.declared.fault.LineFault.TheVariants.{Range, Syntax}
use Rattle.script_lines.proofs.readings.HookLaws.{edits_asked, edits_range, edits_syntax, edits_unmade}
use Rattle.script_lines.proofs.reading.hooks.Gathered.add.Goals as goal

pub returns-in-Err-Syntax-clause-edits : goal.returns-in-Err-Syntax-clause-edits
returns-in-Err-Syntax-clause-edits c more =
    let g = c.args.self.now in
    let edit = words c.args.bytes.now in
    let read : reading_of g.left edit ≡ Err Syntax = sym c.read_next-reading.ensures.value ∙ c.in-Err-Syntax.is ∙ ap Err (let field : c.in-Err-Syntax.field-0 ≡ Syntax = rw c.in-Err-Syntax.is at c.in-Err-Syntax.field-0-is in field) in
    edits_syntax g.edits.items g.left g.bad g.range edit more read

pub returns-in-Ok-Some-clause-bounds : goal.returns-in-Ok-Some-clause-bounds
returns-in-Ok-Some-clause-bounds c all =
    let P = λ (asked : Asked). IsChangeInBounds asked.change in
    let read : c.read_next-reading.result ≡ Ok (Some c.in-Ok-Some.asked) = c.in-Ok-Some.is ∙ ap Ok (let field : c.in-Ok-Some.field-0 ≡ Some c.in-Ok-Some.asked = rw c.in-Ok-Some.is at c.in-Ok-Some.field-0-is in field) in
    let within : P c.in-Ok-Some.asked = subst (λ r. IfOk r (λ asked. IfSome asked P)) read c.read_next-reading.ensures.bounds in
    subst (λ items. All P items) (sym c.push.ensures.items) (All-push P c.args.self.now.edits.items c.in-Ok-Some.asked all within)

pub returns-in-Ok-Some-clause-edits : goal.returns-in-Ok-Some-clause-edits
returns-in-Ok-Some-clause-edits c more =
    let g = c.args.self.now in
    let edit = words c.args.bytes.now in
    let read : reading_of g.left edit ≡ Ok (Some c.in-Ok-Some.asked) = sym c.read_next-reading.ensures.value ∙ c.in-Ok-Some.is ∙ ap Ok (let field : c.in-Ok-Some.field-0 ≡ Some c.in-Ok-Some.asked = rw c.in-Ok-Some.is at c.in-Ok-Some.field-0-is in field) in
    let left : c.saturating_sub-self.result ≡ g.left - 1 = omega (arith, c.saturating_sub-self.ensures) in
    rw (c.push.ensures.items, left) (edits_asked g.edits.items g.left g.bad g.range edit more c.in-Ok-Some.asked read)

pub returns-in-Ok-None-clause-edits : goal.returns-in-Ok-None-clause-edits
returns-in-Ok-None-clause-edits c more =
    let g = c.args.self.now in
    let edit = words c.args.bytes.now in
    let read : reading_of g.left edit ≡ Ok None = sym c.read_next-reading.ensures.value ∙ c.in-Ok-None.is ∙ ap Ok (let field : c.in-Ok-None.field-0 ≡ None = rw c.in-Ok-None.is at c.in-Ok-None.field-0-is in field) in
    let left : c.saturating_sub-self.result ≡ g.left - 1 = omega (arith, c.saturating_sub-self.ensures) in
    rw left (edits_unmade g.edits.items g.left g.bad g.range edit more read)

pub returns-in-Err-Range-clause-edits : goal.returns-in-Err-Range-clause-edits
returns-in-Err-Range-clause-edits c more =
    let g = c.args.self.now in
    let edit = words c.args.bytes.now in
    let read : reading_of g.left edit ≡ Err Range = sym c.read_next-reading.ensures.value ∙ c.in-Err-Range.is ∙ ap Err (let field : c.in-Err-Range.field-0 ≡ Range = rw c.in-Err-Range.is at c.in-Err-Range.field-0-is in field) in
    let left : c.saturating_sub-self.result ≡ g.left - 1 = omega (arith, c.saturating_sub-self.ensures) in
    rw left (edits_range g.edits.items g.left g.bad g.range edit more read)
