use Rattle.std.proofs.Common.{◌≡◌, false, subst, sym, ap, ◌∙◌, inl}
use Rattle.damage_rect.proofs.RectLaws.{hull_least, in_hull_first, outside_first, outside_second}
use Rattle.damage_rect.specs.Within.{LiesIn}
use Rattle.seen_parts.proofs.SeeingLaws.{stays_by}
use Rattle.geom_core.specs.Rects.{holds, hull_of}
use Rattle.geom_core.specs.declared.geometry.Rect.{Rect}
use Rattle.seen_parts.proofs.seeing.follow.Goals as goal

pub returns-clause-grew : goal.returns-clause-grew
returns-clause-grew c = λ x y h.
    ap (λ (rect : Rect). holds rect x y) c.add-2.ensures
    ∙ in_hull_first c.add.new.self.rect c.part_seen-2.result x y (ap (λ (rect : Rect). holds rect x y) c.add.ensures ∙ in_hull_first c.args.damage.now.rect c.part_seen.result x y h)

pub returns-clause-follows : goal.returns-clause-follows
returns-clause-follows c =
    rw c.in-Some.is (λ x y out.
    let late : holds (hull_of c.add.new.self.rect c.part_seen-2.result) x y ≡ false = ap (λ (rect : Rect). holds rect x y) (sym c.add-2.ensures) ∙ out in
    let soon : holds (hull_of c.args.damage.now.rect c.part_seen.result) x y ≡ false =
    ap (λ (rect : Rect). holds rect x y) (sym c.add.ensures) ∙ outside_first c.add.new.self.rect c.part_seen-2.result x y late in
    inl (
      ap (λ (rect : Rect). holds rect x y) (sym c.part_seen.ensures) ∙ outside_second c.args.damage.now.rect c.part_seen.result x y soon,
      ap (λ (rect : Rect). holds rect x y) (sym c.part_seen-2.ensures) ∙ outside_second c.add.new.self.rect c.part_seen-2.result x y late,
    ))

pub returns-clause-within : goal.returns-clause-within
returns-clause-within c = λ box lies seen.
    let both = (rw c.in-Some.is at seen) (c.lies_in.ensures.other c.if-lies_in.false) in
    subst (λ (r : Rect). LiesIn r box) (sym c.add-2.ensures) (hull_least c.add.new.self.rect c.part_seen-2.result box
    (subst (λ (r : Rect). LiesIn r box) (sym c.add.ensures) (hull_least c.args.damage.now.rect c.part_seen.result box lies (subst (λ (r : Rect). LiesIn r box) (sym c.part_seen.ensures) both.0)))
    (subst (λ (r : Rect). LiesIn r box) (sym c.part_seen-2.ensures) both.1))

pub returns-then-lies_in-clause-stays : goal.returns-then-lies_in-clause-stays
returns-then-lies_in-clause-stays c =
    rw c.in-Some.is (stays_by c.children_canvas.result _ _ _ (c.lies_in.ensures.same c.if-lies_in.true) c.children_canvas.ensures.below)
