use Rattle.std.proofs.Common.{ap, refl, sym, ◌∙◌}
use Rattle.traversal.proofs.sight.FollowedViews.{unscrolled_in}
use Rattle.traversal.proofs.offsets.Unranged.{unranged}
use Rattle.view_model.specs.Classes.{scrolls}
use Rattle.view_tree.specs.Views.{offset_of}
use Rattle.traversal.proofs.laying.lay.bring.Goals as goal

pub returns-then-not-scrolls-clause-held : goal.returns-then-not-scrolls-clause-held
returns-then-not-scrolls-clause-held c =
    rw (unranged c.args.tree.now c.args.view c.requires.live (ap scrolls (sym c.class.ensures.value) ∙ sym c.scrolls.ensures ∙ c.if-not-scrolls.true)) refl

pub returns-then-not-scrolls-clause-seen : goal.returns-then-not-scrolls-clause-seen
returns-then-not-scrolls-clause-seen c =
    let offset = offset_of c.args.tree.now c.args.view in
    unscrolled_in c.args.canvas.now c.args.rect c.args.damage.now.rect offset offset refl
