use Rattle.std.proofs.Common.{◌≡◌, ◌∙◌, ℕ, length, take, refl, ap, sym, arith, slice_index_or}
use Rattle.std.specs.Prelude.{pos}
use Rattle.std.proofs.lemmas.List.{take_all, take_more}
use Rattle.touch_event.specs.PointerSets.{has_id}
use Rattle.world_parts.specs.Pointers.{is_pressed}
use Rattle.world_parts.proofs.touches.PointerSetLaws.{none_has, none_pressed, set_one}
use Rattle.world_parts.proofs.pointers.ids_of.Goals as goal

pub loop-point-init : goal.loop-point-init
loop-point-init c = (none_has, λ _. refl)

pub loop-point-preserved : goal.loop-point-preserved
loop-point-preserved c =
    let inside = c.loop-point-test.true in
    let id_small = c.requires.ids c.loop-point.point-index (record { id = 0; x = pos 0; y = pos 0 }) inside in (
      λ id. set_one c.loop-point.ids id (take c.loop-point.point-index c.args.points.now) (slice_index_or c.args.points.now c.loop-point.point-index (record { id = 0; x = pos 0; y = pos 0 })) (omega (arith, id_small)) (c.loop-point.invariant.0 id)
          ∙ ap (is_pressed id) (sym (take_more c.args.points.now c.loop-point.point-index (record { id = 0; x = pos 0; y = pos 0 }) inside)),
      λ e. absurd (omega (arith, e)),
    )

pub returns-clause-none : goal.returns-clause-none
returns-clause-none c =
    let all : take c.loop-point.point-index c.args.points.now ≡ c.args.points.now = take_all c.loop-point.point-index c.args.points.now (omega (arith, c.loop-point-test.false)) in (
      λ e. none_pressed c.args.points.now (λ id. ap (is_pressed id) (sym all) ∙ sym (c.loop-point.invariant.0 id) ∙ ap (λ (n : ℕ). has_id n id) e ∙ none_has id),
      λ e. c.loop-point.invariant.1 (let few : length c.args.points.now ≡ 0 = ap length e in let end = c.loop-point.auto.point-index-end in omega (arith, few, end)),
    )
