use Rattle.std.proofs.Common.{◌≡◌, ℕ, ◌+◌, ◌<◌, Bool, true, false, List, [], ◌∷◌, ◌++◌, length, get_or, map, take, take_all, append-nil, length-append, arith, rules, ap, sym, ◌∙◌}
use Rattle.std.proofs.lemmas.Int.{to_z-of_z}
use Rattle.std.proofs.lemmas.List.{map-append}
use Rattle.std.proofs.lemmas.List.Elements.{filter_more}
use mir.Syntax.{w32}
use mir.Val.{SFits}
use Rattle.touch_event.specs.PointerSets.{has_id}
use Rattle.touch_event.specs.Splitting.{kept_points}
use Rattle.touch_event.specs.declared.event.Point.{Point}
use Rattle.touch_dispatch.specs.reaching.Points.{local_point}
use Rattle.touch_dispatch.proofs.reaching.points.put_points.Goals as goal
use Rattle.touch_dispatch.proofs.reaching.points.put_points.Goals.{then-has_id, else-has_id}

module _ (f : Point → Point) (ids : ℕ → Bool) (points old : List Point) (i : ℕ) (d : Point) where
  one_kept : i < length points → ids (get_or points i d).id ≡ true → old ≡ map f (kept_points ids (take i points))
      → old ++ f (get_or points i d) ∷ [] ≡ map f (kept_points ids (take (i + 1) points))
  one_kept here kept is =
      rw (filter_more (λ (p : Point). ids p.id) points i d here, kept, map-append)
      (ap (λ (before : List Point). before ++ f (get_or points i d) ∷ []) is)

  none_kept : i < length points → ids (get_or points i d).id ≡ false → old ≡ map f (kept_points ids (take i points)) → old ≡ map f (kept_points ids (take (i + 1) points))
  none_kept here left is = rw (filter_more (λ (p : Point). ids p.id) points i d here, left, append-nil) is

pub loop-point-preserved : goal.loop-point-preserved
loop-point-preserved c =
    let local = local_point c.args.rect c.args.own.now.offset in
    let points = c.args.event.now.points.items in
    let old = c.loop-point.points.items in
    let i = c.loop-point.point-index in
    let value = c.as_slice-point-items.ensures.value in
    let here : i < length points = rw value at c.loop-point-test.true in
    elim c.if-has_id.branch [
      | then-has_id w ↦
          let fits : SFits w32 c.args.own.now.offset = search rules in
          let point = simp (to_z-of_z, value) at w.local_point.ensures in
          rw w.points-is (record {
            kept =
                w.push.ensures.items ∙ ap (λ (next : Point). old ++ next ∷ []) point
                ∙ one_kept local (has_id c.args.ids) points old i _ here (rw value at (sym c.has_id.ensures ∙ w.if-has_id.true)) c.loop-point.invariant.kept;
            few = rw (w.push.ensures.items, length-append) (omega arith);
          })
      | else-has_id w ↦
          rw w.points-is (record {
            kept = none_kept local (has_id c.args.ids) points old i _ here (rw value at (sym c.has_id.ensures ∙ w.if-has_id.false)) c.loop-point.invariant.kept;
            few = omega arith;
          })
    ]

pub returns : goal.returns
returns c =
    let points = c.args.event.now.points.items in
    let whole : take c.loop-point.point-index points ≡ points = take_all _ _ (rw c.as_slice-point-items.ensures.value at c.loop-point-test.false) in
    c.loop-point.invariant.kept ∙ ap (λ (points : List Point). map (local_point c.args.rect c.args.own.now.offset) (kept_points (has_id c.args.ids) points)) whole
