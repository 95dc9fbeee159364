use Rattle.std.proofs.Common.{◌≡◌, ◌∙◌, sym, refl, subst, rules, Result}
use Rattle.axml_chunks.specs.declared.fault.Fault.{Fault}
use Rattle.axml_chunks.specs.Steps.{Gives}
use Rattle.axml_reader.specs.Document.{Document}
use Rattle.axml_reader.specs.Decoding.{decoded, finished}
use Rattle.axml_reader.specs.Relation.{IsDocument}
use Rattle.axml_reader.specs.Meaning.{document, reading}
use Rattle.axml_reader.proofs.Answers.{gives_found}
use Rattle.axml_reader.proofs.DocumentLaws.{decoded_found, decoded_again}
use Rattle.axml_reader.proofs.SoundLaws.{document_sound}
use Rattle.axml_reader.proofs.decode.read.Goals as goal

pub finish-requires : goal.finish-requires
unfolding decoded
finish-requires c doc e =
    document_sound c.args.bytes.now doc (decoded_found c.args.bytes.now doc (rw (← c.in_ok-whole.ensures.value, c.in_ok-reading.ensures) e))

pub returns-clause-found : goal.returns-clause-found
unfolding decoded
returns-clause-found c =
    let last : decoded c.args.bytes.now ≡ finished c.in_ok-whole.whole.size (reading c.in_ok-reading.reading) = rw (← c.in_ok-whole.ensures.value, c.in_ok-reading.ensures) refl in
    gives_found document c.finish.result _ (λ (doc : Document). IsDocument c.args.bytes.now doc) c.finish.ensures (λ doc e. decoded_found c.args.bytes.now doc (last ∙ e))

pub returns-clause-only : goal.returns-clause-only
unfolding decoded
returns-clause-only c doc is =
    let last : decoded c.args.bytes.now ≡ finished c.in_ok-whole.whole.size (reading c.in_ok-reading.reading) = rw (← c.in_ok-whole.ensures.value, c.in_ok-reading.ensures) refl in
    subst (λ (r : Result Document Fault). Gives document c.finish.result r) (sym last ∙ decoded_again c.args.bytes.now doc is) c.finish.ensures

pub returns-in_err-whole-clause-only : goal.returns-in_err-whole-clause-only
unfolding decoded
returns-in_err-whole-clause-only c doc is = subst (λ (r : Result Document Fault). Gives document c.from_residual.result r) (decoded_again c.args.bytes.now doc is) (search rules)

pub returns-in_err-reading-clause-only : goal.returns-in_err-reading-clause-only
unfolding decoded
returns-in_err-reading-clause-only c doc is = subst (λ (r : Result Document Fault). Gives document c.from_residual-in_err-reading.result r) (decoded_again c.args.bytes.now doc is) (search rules)
