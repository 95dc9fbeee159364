-- The rule of each class is lawful.
use Rattle.std.proofs.Common.{◌≡◌, ℕ, ℤ, Bool, List, inl, inr, subst}
use Rattle.std.proofs.lemmas.Bool.{cases_Bool}
use Rattle.geom_core.proofs.Sides.{default_size_of-is_side, resolve_of-is_side}
use Rattle.geom_core.specs.Limits.{IsSide}
use Rattle.geom_core.specs.declared.measuring.Spec.{Spec}
use Rattle.measure_pass.proofs.rules.FrameLaws.{frame_lawful, scroll_lawful}
use Rattle.measure_pass.proofs.rules.Lawful.{IsLawful}
use Rattle.measure_pass.proofs.rules.LeafLaws.{leaf_lawful}
use Rattle.measure_pass.proofs.rules.LinearLaws.{linear_lawful}
use Rattle.view_model.specs.declared.facts.Facts.{Facts}
use Rattle.view_model.specs.declared.class.Class.{Class}
use Rattle.view_model.specs.declared.class.Class.TheVariants.{FrameLayout, LinearLayout, ScrollView, RelativeLayout}
use Rattle.view_model.specs.Course.{Child}
use Rattle.view_model.specs.Classes.{has_text, is_group}
use Rattle.view_model.specs.Layout.{course_in, manner_by, manner_of, measured_by}
use Rattle.view_model.specs.Leaf.{leaf_size}
use Rattle.view_model.specs.Measuring.{Manner, ByRule, BySiblings, Rule, Specs}
use Rattle.view_model.specs.PlainTree.{PlainView}
use Rattle.view_model.specs.TextView.{text_height, text_width}

text_width-is_side : (own : Facts) (text : List ℕ) (spec : Spec) → IsSide (text_width own text spec)
unfolding text_width
text_width-is_side own text spec = resolve_of-is_side _ spec

text_height-is_side : (own : Facts) (text : List ℕ) (spec : Spec) (width : ℤ) → IsSide (text_height own text spec width)
unfolding text_height
text_height-is_side own text spec width = resolve_of-is_side _ spec

leaf_sides : (class : Class) (view : PlainView) (specs : Specs) → IsSide (leaf_size class view specs).w × IsSide (leaf_size class view specs).h
leaf_sides class view specs = elim (cases_Bool (has_text class)) [
  | inl text ↦ (let width = text_width view.facts view.text specs.across in
      rw text (text_width-is_side view.facts view.text specs.across, text_height-is_side view.facts view.text specs.down width))
  | inr plain ↦ rw plain (default_size_of-is_side _ _, default_size_of-is_side _ _)
]

-- so is a view that measures in this manner, if it measures by a rule
abbrev pub IsLawfulIn : Bool → Manner → Type 0
IsLawfulIn group (ByRule rule) = IsLawful group rule
IsLawfulIn group BySiblings = Unit {0}

lawful_by : (class : Class) (view : PlainView) (specs : Specs) → IsLawfulIn (is_group class) (manner_by class view specs)
lawful_by FrameLayout view specs = frame_lawful view.facts specs
lawful_by LinearLayout view specs = linear_lawful view.facts specs
lawful_by ScrollView view specs = scroll_lawful view.facts specs
lawful_by RelativeLayout view specs = tt
lawful_by class view specs =
    let sides = leaf_sides class view specs in
    leaf_lawful (leaf_size class view specs) sides.0 sides.1

pub lawful_of : (view : PlainView) (specs : Specs) (rule : Rule) → manner_of view specs ≡ ByRule rule → IsLawful (is_group view.class) rule
lawful_of view specs rule is = subst (IsLawfulIn (is_group view.class)) is (lawful_by view.class view specs)

-- a measured view has the sides of a size
sides_in : (group : Bool) (manner : Manner) (view : PlainView) (kids : List Child) (specs : Specs) → IsLawfulIn group manner
    → IsSide (course_in manner view kids specs).size.w × IsSide (course_in manner view kids specs).size.h
sides_in group (ByRule rule) view kids specs lawful = (lawful.width _, lawful.height _)
sides_in group BySiblings view kids specs lawful = (resolve_of-is_side _ specs.across, resolve_of-is_side _ specs.down)

pub measured_sides : (view : PlainView) (kids : List Child) (specs : Specs) → IsSide (measured_by view kids specs).w × IsSide (measured_by view kids specs).h
measured_sides view kids specs = sides_in (is_group view.class) (manner_of view specs) view kids specs (lawful_by view.class view specs)
