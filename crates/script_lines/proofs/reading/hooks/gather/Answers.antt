use Rattle.std.proofs.Common.{◌≡◌, ◌-◌, ap, refl, sym, subst, ◌∙◌, [], ◌∷◌, take, drop, length, length-drop, arith}
use Rattle.std.specs.List.{All, slice_split}
use Rattle.std.proofs.lemmas.List.{take_all}
use Rattle.script_lines.specs.reading.Changes.{IsChangeInBounds}
use Rattle.script_lines.specs.reading.Gathered.{edits_after}
use Rattle.script_lines.specs.reading.Hooks.{parts_edits}
use Rattle.line_words.specs.words.Words.{words}
use Rattle.script_lines.specs.declared.commands.Asked.{Asked}
use Rattle.script_lines.proofs.readings.HookLaws.{edits_begin}
use Rattle.script_lines.proofs.reading.hooks.gather.Goals as goal

pub loop-end-init : goal.loop-end-init
loop-end-init c =
    let g = c.new-gathered.result in
    let new = c.new-gathered.ensures in
    record {
      within = omega arith;
      room = rw (new.edits, new.left) (omega arith);
      bounds = subst (λ items. All (λ (asked : Asked). IsChangeInBounds asked.change) items) (sym new.edits) (λ k d short. absurd (omega (arith, short)));
      left = edits_begin g.edits.items g.left g.bad g.range (words c.args.bytes.now) new.edits new.left new.bad new.range;
    }

pub returns-clause-value : goal.returns-clause-value
returns-clause-value c =
    let bytes = c.args.bytes.now in
    let at = c.loop-end.at in
    let g = c.loop-end.gathered in
    let same : take (length bytes - at) (drop at bytes) ≡ drop at bytes = take_all (length bytes - at) (drop at bytes) (omega (arith, length-drop at bytes)) in
    let last : slice_split parts_edits (words (drop at bytes)) ≡ words (drop at bytes) ∷ [] = subst (λ xs. slice_split parts_edits (words xs) ≡ words xs ∷ []) same (c.in_default.ensures.last refl) in
    let added : edits_after g (words (drop at bytes) ∷ []) ≡ edits_after c.add-2.new.self [] = subst (λ xs. edits_after g (words xs ∷ []) ≡ edits_after c.add-2.new.self []) same (c.in_ok-add-2.ensures.edits []) in
    sym added ∙ ap (edits_after g) (sym last) ∙ c.loop-end.invariant.left
