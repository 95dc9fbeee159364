-- The law of a view that measures no child.
use Rattle.std.proofs.Common.{◌≡◌, true, false, List, [], ◌∷◌, refl, sym}
use Rattle.geom_core.specs.Limits.{IsSide}
use Rattle.geom_core.specs.declared.geometry.Size.{Size}
use Rattle.measure_pass.proofs.rules.Lawful.{IsLawful, begun_ready}
use Rattle.measure_pass.proofs.walks.Whole.{AllAsked}
use Rattle.view_model.specs.Course.{Child, course_of}
use Rattle.view_model.specs.Leaf.{leaf_rule}

none_asked : (size : Size) (kids : List Child) → kids ≡ [] → AllAsked (course_of (leaf_rule size) kids).kids
none_asked size [] none = tt
none_asked size (kid ∷ kids) none = no_cons none
  where
    no_cons : {A : Type 0} {kid : Child} {kids : List Child} → kid ∷ kids ≡ [] → A
    no_cons e = absurd (cc)

pub leaf_lawful : (size : Size) → IsSide size.w → IsSide size.h → IsLawful false (leaf_rule size)
leaf_lawful size width height = record {
  ready = λ kids. (begun_ready (leaf_rule size) (λ taken facts size other. refl) kids, λ again. let e : true ≡ false = sym again in absurd (cc));
  asked = λ kids none. none_asked size kids (none refl);
  width = λ past. width;
  height = λ past. height;
}
