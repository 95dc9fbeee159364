use Rattle.std.proofs.Common.{◌≡◌, ◌-◌, true, false, sym, ◌∙◌, take, drop, length, length-drop, arith}
use Rattle.std.specs.Prelude.{Err}
use Rattle.std.proofs.lemmas.List.{take_all}
use Rattle.script_lines.specs.reading.Hooks.{parts_edits}
use Rattle.line_words.specs.words.Words.{word_in, words}
use Rattle.script_lines.proofs.readings.PartLaws.{edit_ends, edit_last, one_edit_more, one_edit_start, word_in-none, word_read}
use Rattle.script_lines.proofs.reading.parting.first_edit.Goals as goal

pub loop-word-init : goal.loop-word-init
loop-word-init c = record { within = omega arith; edit = one_edit_start c.args.bytes.now }

pub overflow_sub-following : goal.overflow_sub-following
overflow_sub-following c = (word_read c.args.bytes.now c.loop-word.at c.in-Ok.word.now c.in-Ok.rest.now c.loop-word.invariant.within c.in-Ok.ensures.value c.in-Ok.ensures.rest).within

pub returns-then-is-clause-cut : goal.returns-then-is-clause-cut
returns-then-is-clause-cut c =
    let bytes = c.args.bytes.now in
    let word = c.in-Ok.word.now in
    let n = word_read c.args.bytes.now c.loop-word.at c.in-Ok.word.now c.in-Ok.rest.now c.loop-word.invariant.within c.in-Ok.ensures.value c.in-Ok.ensures.rest in
    let parts : parts_edits word ≡ true = sym c.is.ensures ∙ c.if-is.true in
    edit_ends bytes word c.loop-word.at (length bytes - length c.in-Ok.rest.now) c.loop-word.invariant.edit n.next parts

pub returns-then-is-clause-forward : goal.returns-then-is-clause-forward
returns-then-is-clause-forward c =
    let n = word_read c.args.bytes.now c.loop-word.at c.in-Ok.word.now c.in-Ok.rest.now c.loop-word.invariant.within c.in-Ok.ensures.value c.in-Ok.ensures.rest in
    omega (arith, n.forward)

pub loop-word-smaller : goal.loop-word-smaller
loop-word-smaller c =
    let n = word_read c.args.bytes.now c.loop-word.at c.in-Ok.word.now c.in-Ok.rest.now c.loop-word.invariant.within c.in-Ok.ensures.value c.in-Ok.ensures.rest in
    omega (arith, n.forward, n.within, c.loop-word.invariant.within)

pub loop-word-preserved : goal.loop-word-preserved
loop-word-preserved c =
    let bytes = c.args.bytes.now in
    let word = c.in-Ok.word.now in
    let n = word_read c.args.bytes.now c.loop-word.at c.in-Ok.word.now c.in-Ok.rest.now c.loop-word.invariant.within c.in-Ok.ensures.value c.in-Ok.ensures.rest in
    let other : parts_edits word ≡ false = sym c.is.ensures ∙ c.if-is.false in
    record { within = omega arith; edit = one_edit_more bytes word c.loop-word.at (length bytes - length c.in-Ok.rest.now) c.loop-word.invariant.edit n.next n.ended other }

pub returns-clause-last : goal.returns-clause-last
returns-clause-last c none =
    let bytes = c.args.bytes.now in
    let at = c.loop-word.at in
    let same : take (length bytes - at) (drop at bytes) ≡ drop at bytes = take_all (length bytes - at) (drop at bytes) (omega (arith, length-drop at bytes)) in
    let fault : word_in (words (drop at bytes)) ≡ Err c.in_default.field-0 = cc (same, c.in_default.ensures.value) in
    edit_last bytes at c.loop-word.invariant.edit (word_in-none (words (drop at bytes)) c.in_default.field-0 fault)
