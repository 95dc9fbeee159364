use Rattle.std.proofs.Common.{◌≡◌, ℤ, sym, ◌∙◌, ap, arith, rules}
use Rattle.std.proofs.lemmas.Int.{to_z-of_z}
use mir.Syntax.{w32, w64}
use mir.Val.{SFits}
use Rattle.std.specs.Prelude.{◌+ℤ◌, true, false}
use Rattle.touch_dispatch.proofs.steps.GrowLaws.{moved_fits}
use Rattle.touch_dispatch.proofs.steps.SceneLaws.{offset_live}
use Rattle.touch_dispatch.proofs.scrolls.ScrollSteps.{moved_other, moved_same}
use Rattle.touch_dispatch.proofs.scrolls.RangeLaws.{range_within}
use Rattle.touch_dispatch.specs.gesture.Gestures.{at_number, no_gesture}
use Rattle.touch_dispatch.specs.handling.Handling.{is_same_offset, noted_with, offset_after}
use Rattle.touch_dispatch.specs.reaching.TreeEvents.{offsets_in, own_range, progress_by}
use Rattle.touch_dispatch.specs.declared.log.Kind.TheVariants.{Scroll}
use Rattle.view_model.specs.declared.facts.Facts.{Facts}
use Rattle.touch_dispatch.proofs.handling.scrolling.move_child.Goals as goal

pub returns-then-is_same_offset-clause-moved : goal.returns-then-is_same_offset-clause-moved
returns-then-is_same_offset-clause-moved c = λ g.
    let views = c.args.tree.now in
    let own = c.args.own.now in
    let fits : SFits w64 c.in-Some.way = search rules in
    let old : offsets_in views own.number ≡ c.facts.result.now.offset =
    ap (offsets_in views) c.requires.read.number ∙ offset_live views c.args.delivery.now.view c.facts.ensures.is_tree c.requires.read.live ∙ sym (ap (λ (f : Facts). f.offset) c.facts.ensures.value) in
    let same : is_same_offset (offsets_in views own.number) (offset_after own.range (offsets_in views own.number) c.in-Some.way) ≡ true =
    ap (λ o. is_same_offset o (offset_after own.range o c.in-Some.way)) old
    ∙ ap (is_same_offset c.facts.result.now.offset) (sym (ap (λ (f : Facts). f.offset) c.moved_facts-facts.ensures.value ∙ ap (offset_after own.range c.facts.result.now.offset) (to_z-of_z w64 c.in-Some.way fits)))
    ∙ ap (λ o. is_same_offset o c.moved_facts-facts.result.offset) (ap (λ (f : Facts). f.offset) (c.facts.ensures.value ∙ sym c.facts-2.ensures.value))
    ∙ sym c.is_same_offset.ensures ∙ c.if-is_same_offset.true in
    moved_same own c.args.delivery.now.event.now (progress_by (offsets_in views) g c.args.log.now.entries.items) c.args.by c.in-Some.way c.in-Some.is same

pub set_offset-requires-clause-within : goal.set_offset-requires-clause-within
set_offset-requires-clause-within c =
    let own = c.args.own.now in
    let fits : SFits w64 c.in-Some.way = search rules in
    range_within (own_range c.args.tree.now c.args.delivery.now.view) own.range c.moved_facts-facts.result.offset (c.facts.result.now.offset +ℤ c.in-Some.way) c.requires.read.range
    (ap (λ (f : Facts). f.offset) c.moved_facts-facts.ensures.value ∙ ap (offset_after own.range c.facts.result.now.offset) (to_z-of_z w64 c.in-Some.way fits))

pub note-requires : goal.note-requires
note-requires c =
    let views = c.args.tree.now in
    let own = c.args.own.now in
    let fits : SFits w64 c.in-Some.way = search rules in
    let old : offsets_in views own.number ≡ c.facts.result.now.offset =
    ap (offsets_in views) c.requires.read.number ∙ offset_live views c.args.delivery.now.view c.facts.ensures.is_tree c.requires.read.live ∙ sym (ap (λ (f : Facts). f.offset) c.facts.ensures.value) in
    let other : is_same_offset (offsets_in views own.number) (offset_after own.range (offsets_in views own.number) c.in-Some.way) ≡ false =
    ap (λ o. is_same_offset o (offset_after own.range o c.in-Some.way)) old
    ∙ ap (is_same_offset c.facts.result.now.offset) (sym (ap (λ (f : Facts). f.offset) c.moved_facts-facts.ensures.value ∙ ap (offset_after own.range c.facts.result.now.offset) (to_z-of_z w64 c.in-Some.way fits)))
    ∙ ap (λ o. is_same_offset o c.moved_facts-facts.result.offset) (ap (λ (f : Facts). f.offset) (c.facts.ensures.value ∙ sym c.facts-2.ensures.value))
    ∙ sym c.is_same_offset.ensures ∙ c.if-is_same_offset.false in
    let room = moved_fits own c.args.delivery.now.event.now (progress_by (offsets_in views) no_gesture c.args.log.now.entries.items) c.args.by c.in-Some.way c.in-Some.is other in
    let all = c.requires.fits no_gesture in
    omega (arith, room, all)

pub returns-clause-moved : goal.returns-clause-moved
returns-clause-moved c = λ g.
    let views = c.args.tree.now in
    let own = c.args.own.now in
    let fits : SFits w64 c.in-Some.way = search rules in
    let old : offsets_in views own.number ≡ c.facts.result.now.offset =
    ap (offsets_in views) c.requires.read.number ∙ offset_live views c.args.delivery.now.view c.facts.ensures.is_tree c.requires.read.live ∙ sym (ap (λ (f : Facts). f.offset) c.facts.ensures.value) in
    let offset_fits : SFits w32 c.moved_facts-facts.result.offset = search rules in
    let new : c.moved_facts-facts.result.offset ≡ offset_after own.range (offsets_in views own.number) c.in-Some.way =
    ap (λ (f : Facts). f.offset) c.moved_facts-facts.ensures.value ∙ ap (offset_after own.range c.facts.result.now.offset) (to_z-of_z w64 c.in-Some.way fits) ∙ ap (λ o. offset_after own.range o c.in-Some.way) (sym old) in
    let other : is_same_offset (offsets_in views own.number) (offset_after own.range (offsets_in views own.number) c.in-Some.way) ≡ false =
    ap (λ o. is_same_offset o (offset_after own.range (offsets_in views own.number) c.in-Some.way)) old
    ∙ ap (is_same_offset c.facts.result.now.offset) (sym new)
    ∙ ap (λ o. is_same_offset o c.moved_facts-facts.result.offset) (ap (λ (f : Facts). f.offset) (c.facts.ensures.value ∙ sym c.facts-2.ensures.value))
    ∙ sym c.is_same_offset.ensures ∙ c.if-is_same_offset.false in
    ap (λ o. progress_by o g c.set_event.new.self.entries.items) (c.set_offset.ensures.offsets ∙ ap (λ n. at_number n c.moved_facts-facts.result.offset (offsets_in views)) (sym c.requires.read.number))
    ∙ ap (progress_by (at_number own.number c.moved_facts-facts.result.offset (offsets_in views)) g) (c.set_event.ensures.entries _ _ c.note.ensures.entries)
    ∙ ap (λ (o : ℤ). noted_with o own.number Scroll c.args.delivery.now.event.now true (progress_by (at_number own.number c.moved_facts-facts.result.offset (offsets_in views)) g c.args.log.now.entries.items)) (to_z-of_z w32 c.moved_facts-facts.result.offset offset_fits)
    ∙ moved_other own c.args.delivery.now.event.now (progress_by (offsets_in views) g c.args.log.now.entries.items) c.args.by c.in-Some.way c.moved_facts-facts.result.offset c.in-Some.is new other
