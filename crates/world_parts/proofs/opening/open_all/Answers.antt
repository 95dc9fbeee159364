use Rattle.std.proofs.Common.{◌≡◌, ◌∙◌, ◌+◌, ◌≤◌, ℕ, suc, arith, ap, sym, subst, inl, inr}
use Rattle.std.specs.Prelude.{◌==◌, ◌||◌, false}
use Rattle.std.proofs.lemmas.Bool.{cases_eq}
use Rattle.touch_dispatch.specs.gesture.Kept.{IsUnknown, is_open, with_place}
use Rattle.world_parts.proofs.edits.OpeningLaws.{done, opened_more, unknown_first}
use Rattle.world_parts.specs.Places.{with_places}
use Rattle.world_parts.proofs.opening.open_all.Goals as goal

pub loop-opened-preserved : goal.loop-opened-preserved
loop-opened-preserved c =
    let first = c.args.first in
    let i = c.loop-opened.invariant in
    let number : ℕ = first + c.loop-opened.opened in
    let old = c.args.gesture.now in
    let from : first ≤ number = omega arith in
    let same : number ≤ number = omega arith in
    let one : suc c.loop-opened.opened ≡ c.loop-opened.opened + 1 = omega arith in
    let closed : is_open c.loop-opened.gesture number ≡ false = i.there.above number same ∙ c.requires.free.closed number from in
    let added = done (is_open c.loop-opened.gesture number ≡ false → c.open.new.self ≡ with_place number c.loop-opened.gesture) c.open.result c.if-is_err.ensures.value c.open.ensures.added in
    let opened = done ((other : ℕ) → is_open c.open.new.self other ≡ (is_open c.loop-opened.gesture other || other == number)) c.open.result c.if-is_err.ensures.value c.open.ensures.opened in
    record {
      within = omega arith;
      places = added closed ∙ ap (with_place number) i.places ∙ ap (λ n. with_places first n old) one;
      gesture = c.open.ensures.gesture ∙ i.gesture;
      there = opened_more first c.loop-opened.opened old c.loop-opened.gesture c.open.new.self i.there opened;
      unknown = λ other above below.
          elim (cases_eq other number) [
            | inl e ↦ subst (IsUnknown old) (sym e) (unknown_first first c.loop-opened.opened old number (subst (λ k. IsUnknown k number) i.places (c.open.ensures.unknown number closed)))
            | inr ne ↦ i.unknown other above (omega (arith, below, ne))
          ];
    }
