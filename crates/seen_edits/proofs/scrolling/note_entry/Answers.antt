use Rattle.std.proofs.Common.{◌≡◌, true, sym, ap, ◌∙◌}
use Rattle.damage_rect.proofs.RectLaws.{in_hull_first}
use Rattle.geom_core.specs.Rects.{holds}
use Rattle.geom_core.specs.declared.geometry.Rect.{Rect}
use Rattle.seen_edits.proofs.ScrolledLaws.{is_of, notes_absent, notes_found, notes_other}
use Rattle.seen_edits.proofs.ShownLaws.{points, within_once}
use Rattle.seen_edits.specs.Shown.{seen_of}
use Rattle.touch_dispatch.specs.handling.Scrolled.{is_scroll}
use Rattle.view_tree.specs.Views.{IsLive, number_of}
use Rattle.seen_edits.proofs.scrolling.note_entry.Goals as goal

pub returns-then-not-is_scroll-clause-noted : goal.returns-then-not-is_scroll-clause-noted
returns-then-not-is_scroll-clause-noted c = notes_other c.args.window c.args.damage.now.rect c.args.tree.now c.args.entry.now (sym c.is_scroll.ensures ∙ c.if-not-is_scroll.true)

pub returns-in_default-clause-noted : goal.returns-in_default-clause-noted
returns-in_default-clause-noted c = notes_absent c.args.window c.args.damage.now.rect c.args.tree.now c.args.entry.now c.recall_tree.ensures (sym c.in_default.is ∙ c.find.ensures.key)

pub returns-clause-grew : goal.returns-clause-grew
returns-clause-grew c = λ x y h. ap (λ (rect : Rect). holds rect x y) c.add.ensures ∙ in_hull_first c.args.damage.now.rect c.seen.result x y h

pub returns-clause-noted : goal.returns-clause-noted
returns-clause-noted c =
    notes_found c.args.window c.args.damage.now.rect c.add.new.self.rect c.seen.result c.args.tree.now c.args.entry.now c.in-Some.view c.recall_tree.ensures (sym c.in-Some.is ∙ c.find.ensures.key) c.add.ensures (points c.seen.ensures.keyed)

pub returns-clause-within : goal.returns-clause-within
returns-clause-within c = λ box first all.
    let view = c.in-Some.view in
    let live : IsLive c.args.tree.now view = rw c.in-Some.is at c.find.ensures.live in
    let number : number_of c.args.tree.now view ≡ c.args.entry.now.view = rw c.in-Some.is at c.find.ensures.number in
    let scroll : is_scroll c.args.entry.now.kind ≡ true = sym c.is_scroll.ensures ∙ c.if-not-is_scroll.false in
    within_once c.args.damage.now.rect c.seen.result c.add.new.self.rect (seen_of c.args.window c.args.tree.now view) box c.add.ensures (points c.seen.ensures.keyed) first
    (all view live (is_of c.args.entry.now (number_of c.args.tree.now view) scroll number))
