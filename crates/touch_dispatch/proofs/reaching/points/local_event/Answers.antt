use Rattle.std.proofs.Common.{◌≡◌, ◌<◌, List, [], ◌∷◌, ◌++◌, length, map, take, take_all, rules, ap, sym, ◌∙◌}
use Rattle.std.proofs.lemmas.Int.{to_z-of_z}
use Rattle.std.proofs.lemmas.List.{map_more}
use mir.Syntax.{w32}
use mir.Val.{SFits}
use Rattle.touch_event.specs.declared.event.Event.{Event}
use Rattle.touch_event.specs.declared.event.Point.{Point}
use Rattle.touch_dispatch.specs.reaching.Points.{local_point}
use Rattle.touch_dispatch.proofs.reaching.points.local_event.Goals as goal

pub loop-point-preserved : goal.loop-point-preserved
loop-point-preserved c =
    let local = local_point c.args.rect c.args.own.now.offset in
    let items = c.args.event.now.points.items in
    let here : c.loop-point.point-index < length items = rw c.as_slice-point-items.ensures.value at c.loop-point-test.true in
    let fits : SFits w32 c.args.own.now.offset = search rules in
    let point = simp (to_z-of_z, c.as_slice-point-items.ensures.value) at c.local_point.ensures in
    c.push.ensures.items
    ∙ ap (λ (before : List Point). before ++ c.local_point.result ∷ []) c.loop-point.invariant
    ∙ ap (λ (next : Point). map local (take c.loop-point.point-index items) ++ next ∷ []) point
    ∙ sym (map_more local items c.loop-point.point-index _ here)

pub returns : goal.returns
returns c =
    let items = c.args.event.now.points.items in
    let whole : take c.loop-point.point-index items ≡ items = take_all _ _ (rw c.as_slice-point-items.ensures.value at c.loop-point-test.false) in
    ap (λ (items : List Point). let it : Event = record c.args.event.now { points = record { items = items } } in it)
    (c.loop-point.invariant ∙ ap (map (local_point c.args.rect c.args.own.now.offset)) whole)
