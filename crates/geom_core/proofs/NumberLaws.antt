-- For its own sake: the numbers of the code are those of the definitions.
use Rattle.std.specs.Prelude.{◌≡◌, [], ◌∷◌, refl}
use Rattle.geom_core.specs.declared.color.TheConstants.{BLACK}
use Rattle.geom_core.specs.declared.geometry.TheConstants.{EMPTY}
use Rattle.geom_core.specs.declared.limits.TheConstants.{MAX_COORDINATE, MAX_SIDE, MIN_COORDINATE}
use Rattle.geom_core.specs.declared.measuring.TheConstants.{MATCH, WRAP}
use Rattle.geom_core.specs.Numbers.{match_parent, max_coordinate, max_side, min_coordinate, unpainted, wrap_content}
use Rattle.geom_core.specs.Rects.{empty_rect}

limits : MAX_SIDE ∷ MIN_COORDINATE ∷ MAX_COORDINATE ∷ [] ≡ max_side ∷ min_coordinate ∷ max_coordinate ∷ []
limits = refl

dimensions : MATCH ∷ WRAP ∷ [] ≡ match_parent ∷ wrap_content ∷ []
dimensions = refl

color : BLACK ≡ unpainted
color = refl

rectangle : EMPTY ≡ empty_rect
rectangle = refl
