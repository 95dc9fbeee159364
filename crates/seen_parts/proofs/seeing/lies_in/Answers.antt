use Rattle.std.proofs.Common.{◌≡◌, Some, sym, ◌∙◌}
use Rattle.geom_core.specs.declared.geometry.Rect.{Rect}
use Rattle.seen_parts.proofs.seeing.lies_in.Goals as goal

some_same : {x y : Rect} → Some x ≡ Some y → x ≡ y
some_same e = cc

pub returns-in-Some-clause-other : goal.returns-in-Some-clause-other
returns-in-Some-clause-other c = λ e same. c.is_same.ensures.other e (some_same (sym c.in-Some.is ∙ same))

pub returns-in-None-clause-other : goal.returns-in-None-clause-other
returns-in-None-clause-other c = λ e same. let none = sym c.in-None.is ∙ same in cc
