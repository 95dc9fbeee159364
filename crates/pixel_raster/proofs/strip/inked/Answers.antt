use Rattle.std.proofs.Common.{sym, ◌∙◌}
use Rattle.geom_core.proofs.ColorLaws.{blend_of-covering}
use Rattle.pixel_raster.proofs.strip.inked.Goals as goal

pub returns-then-alpha-eq255 : goal.returns-then-alpha-eq255
returns-then-alpha-eq255 c =
    rw c.if-not-set.false (sym (blend_of-covering c.args.color c.args.under (sym c.alpha.ensures ∙ c.if-alpha-eq255.true)))
