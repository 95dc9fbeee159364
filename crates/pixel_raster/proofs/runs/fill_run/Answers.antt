use Rattle.std.proofs.Common.{◌≡◌, List, [], ◌∷◌, map, refl, sym, ◌∙◌}
use Rattle.geom_core.specs.Color.{alpha_of, blend_of}
use Rattle.geom_core.specs.declared.color.Argb.{Argb}
use Rattle.geom_core.proofs.ColorLaws.{blend_of-covering}
use Rattle.pixel_raster.proofs.runs.fill_run.Goals as goal

map-covering : (over : Argb) (run : List Argb) → alpha_of over ≡ 255 → map (λ (_ : Argb). over) run ≡ map (blend_of over) run
map-covering over [] is = refl
map-covering over (under ∷ run) is = rw (blend_of-covering over under is, map-covering over run is) refl

pub returns-then-alpha-eq255 : goal.returns-then-alpha-eq255
returns-then-alpha-eq255 c = c.cover_run.ensures ∙ map-covering c.args.color c.args.run.now (sym c.alpha.ensures ∙ c.if-alpha-eq255.true)
