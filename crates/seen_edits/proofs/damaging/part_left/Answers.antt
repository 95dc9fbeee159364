use Rattle.std.proofs.Common.{refl}
use Rattle.damage_rect.proofs.RectLaws.{empty_within, in_hull_first, in_hull_second}
use Rattle.seen_edits.specs.Shown.{seen_of}
use Rattle.seen_edits.proofs.damaging.part_left.Goals as goal

pub returns-then-is_damage-clause-seen : goal.returns-then-is_damage-clause-seen
returns-then-is_damage-clause-seen c = rw (c.rect.ensures, c.new.ensures) (empty_within _ (seen_of c.args.window c.args.tree.now c.args.view) refl)

pub returns-then-is_damage-clause-enough : goal.returns-then-is_damage-clause-enough
returns-then-is_damage-clause-enough c = λ x y h.
    in_hull_first c.args.damage c.rect.result x y
    (c.is_damage.ensures c.if-is_damage.true x y h)

pub returns-clause-seen : goal.returns-clause-seen
returns-clause-seen c = rw c.seen.ensures.keyed (λ x y h. h)

pub returns-clause-enough : goal.returns-clause-enough
returns-clause-enough c = rw (← c.seen.ensures.keyed) (in_hull_second c.args.damage c.seen.result)
